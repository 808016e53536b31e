-- Which bytes wait in a stream, and which of them a write is offered.
use Rattle.std.{proofs.{Common.{◌≡◌, ℕ, zero, suc, ◌-◌, ◌≤◌, List, [], ◌∷◌, ◌++◌, length, take, drop, ap, sym, arith}, lemmas.{Grind.common_steps, List.{take-append-le, length-append, nil_from_length}}, Math.Seq.take-append_seam}, specs.List.refill}
use Rattle.flow.specs.{Stream.{Stream, waiting, front, dropped}, Lending.{with_front}}

-- what a drop of n takes from two lists that follow one another
drop-append : (n : ℕ) (xs ys : List ℕ) → drop n (xs ++ ys) ≡ drop n xs ++ drop (n - length xs) ys
drop-append n [] ys = grind (arith, common_steps)
drop-append zero (x ∷ xs) ys = grind (arith, common_steps)
drop-append (suc n) (x ∷ xs) ys = grind (arith, common_steps, drop-append n xs ys)

-- bytes leave in the order in which they wait
pub waiting-dropped : (s : Stream) (n : ℕ) → waiting (dropped s n) ≡ drop n (waiting s)
waiting-dropped s n = sym (drop-append n s.lead s.ring)

-- what a write takes of the front are the first bytes that wait
pub take-front : (s : Stream) (n : ℕ) → n ≤ length (front s) → take n (front s) ≡ take n (waiting s)
take-front s n h = grind (arith, common_steps, take-append-le)

-- while bytes wait, some are offered
pub front_offers : (s : Stream) → 1 ≤ length (waiting s) → 1 ≤ length (front s)
front_offers s h = grind (arith, common_steps)

-- no byte waits where neither a lead nor the ring has one
pub waiting_ends : (s : Stream) → waiting s ≡ [] → (s.lead ≡ []) × (s.ring ≡ [])
waiting_ends s e = grind (arith, common_steps, nil_from_length, length-append s.lead s.ring, ap length e)

pub front-lead : (s : Stream) → 1 ≤ length s.lead → front s ≡ s.lead
front-lead s h = grind (arith, common_steps)

-- a lead of n bytes, while there are some, is what the front lends
pub with_front-lead : (s : Stream) (n : ℕ) (bytes : List ℕ) → n ≡ length s.lead → 1 ≤ n → with_front s bytes ≡ record s { lead = refill n s.lead bytes }
with_front-lead s n bytes e h = grind (arith, common_steps)

refilled : (xs : List ℕ) → refill (length xs) xs xs ≡ xs
refilled xs = take-append_seam xs (drop (length xs) xs)

-- and if nothing is written into it, it stays as it was
pub with_front-unwritten : (s : Stream) → 1 ≤ length s.lead → with_front s (front s) ≡ s
with_front-unwritten s h = grind (arith, common_steps, refilled)
