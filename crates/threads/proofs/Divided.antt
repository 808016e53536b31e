-- Which ends of the queues of free slots the threads get, and in which order the threads are made.
use Rattle.std.{proofs.{Common.{◌≡◌, ℕ, zero, suc, ◌+◌, List, [], ◌∷◌, ◌++◌, length, drop, map, All, slice_index_or, Some, ◌<◌, refl, sym, add-one, append_assoc, append-nil, arith}, Math.Seq.drop-cons, lemmas.List.{map-append, map-id, nil_from_length, reverse-append, FromFn.map-range_with_len_more, Elements.{All-push, Contains-append_left, Contains-push}}}, specs.{Prelude.{Contains, Option, None, IfSome, option_to_list}, List.{slice_set, enumerate_from, range_with_len}}}
use Rattle.queues.specs.Steps.{EndState}
use Rattle.threads.{specs.Divided.{numbered, IsEndOf, AreLeft, HasOneOfEach, PairsOff}, proofs.Served.{next_of_first, through}}

abbrev pub End : Type 0
End = EndState ℕ

-- nothing was taken
pub all_left : (ends : List (List End)) → AreLeft ends ends
all_left [] = record { each = refl }
all_left (x ∷ xs) = record { each = ((λ end is. is), (all_left xs).each) }

pub left_of_left : {a b c : List (List End)} → AreLeft a b → AreLeft b c → AreLeft a c
left_of_left {a} {b} {c} first second = record { each = through _ _ _ (λ p h e of kept end is. of end (kept end is)) a b c [] first.each second.each }

pub end_of_left : (old new : List (List End)) (poller : ℕ) (end : End) → AreLeft old new → IsEndOf new poller end → IsEndOf old poller end
end_of_left old [] poller end left is = let first = is.1 in absurd (omega arith)
end_of_left [] (y ∷ ys) poller end left is = absurd left.each
end_of_left (x ∷ xs) (y ∷ ys) zero end left is = left.each.0 end is
end_of_left (x ∷ xs) (y ∷ ys) (suc n) end left is = end_of_left xs ys n end (record { each = left.each.1 }) is

pub one_of_all : {old new : List (List End)} → AreLeft old new → (own : List End) → HasOneOfEach new own → HasOneOfEach old own
one_of_all {old} {new} left own has = through _ _ _ (λ p h e of kept. of e kept) old new own [] left.each has

enumerate_more : {A : Type 0} (n : ℕ) (xs : List A) (x : A) → enumerate_from n (xs ++ x ∷ []) ≡ enumerate_from n xs ++ (n + length xs, x) ∷ []
enumerate_more n [] x = let e : n + 0 ≡ n = omega arith in rw e
enumerate_more n (y ∷ xs) x = let e : n + 1 + length xs ≡ n + length (y ∷ xs) = omega arith in rw (enumerate_more (n + 1) xs x, e)

numbered_more : {A : Type 0} (xs : List A) (x : A) → numbered (xs ++ x ∷ []) ≡ (length xs, x) ∷ numbered xs
numbered_more xs x = let e : 0 + length xs ≡ length xs = omega arith in rw (enumerate_more 0 xs x, reverse-append, e)

-- one number more
range_more : (first n : ℕ) → range_with_len first (n + 1) ≡ range_with_len first n ++ (first + n) ∷ []
range_more first n = simp map-id at (map-range_with_len_more (λ (x : ℕ). x) first n (first + n) refl)

-- one more in order
pub one_end_more : {old new : List (List End)} (poller : ℕ) (xs ys : List End) (x : End) → ys ≡ xs ++ x ∷ [] → poller < length old → AreLeft old new
    → IsEndOf new poller x → PairsOff Contains (drop 1 old) xs (drop poller old) → PairsOff Contains (drop 1 old) ys (drop (poller + 1) old)
one_end_more {old} {new} poller xs ys x more within left is these = rw (more, add-one) (next_of_first Contains (drop 1 old) xs
    (slice_index_or old poller []) (drop (suc poller) old) x (rw (drop-cons old poller [] within) at these) (end_of_left old new poller x left is))

module _ {X : Type 0} where
  -- the last end of this poller's queue is taken
  pub taken_last : (f : X → List End) (x y : X) (gone : List End) → f x ≡ f y ++ gone → (xs : List X) (poller : ℕ) → x ≡ slice_index_or xs poller x
      → AreLeft (map f xs) (map f (slice_set xs poller y))
  taken_last f x y gone was [] poller is = record { each = refl }
  taken_last f x y gone was (z ∷ zs) zero is = record { each = ((λ end now. rw (← is, was) (Contains-append_left (f y) gone end now)), (all_left (map f zs)).each) }
  taken_last f x y gone was (z ∷ zs) (suc n) is = record { each = ((λ end now. now), (taken_last f x y gone was zs n is).each) }

  -- the last end of this poller's queue, if it has one, is one of its ends
  pub end_of_last : (f : X → List End) (xs : List X) (poller : ℕ) (x : X) (left : List End) (last : Option End) → poller < length xs → x ≡ slice_index_or xs poller x
      → f x ≡ left ++ option_to_list last → IfSome last (λ end. IsEndOf (map f xs) poller end)
  end_of_last f xs poller x left None within is ends = search
  end_of_last f [] poller x left (Some end) within is ends = absurd (omega arith)
  end_of_last f (z ∷ zs) zero x left (Some end) within is ends = rw (← is, ends) (Contains-push left end)
  end_of_last f (z ∷ zs) (suc n) x left (Some end) within is ends = end_of_last f zs n x left (Some end) (omega arith) is ends

  pub all_pushed : (P : X → Type 0) {now : List X} (made : List X) {x : X} → now ≡ made ++ x ∷ [] → All P made → P x → All P now
  all_pushed P made {x = x} more all one = rw more (All-push P made x all one)

  -- one thread more, of the last poller that is left
  pub threads_more : {A : Type 0} (g : X → ℕ × A) (made now : List X) (x : X) (left some : List A) (p : A) (n : ℕ) (all : List (ℕ × A)) → now ≡ made ++ x ∷ []
      → left ≡ some ++ p ∷ [] → n ≡ length some → g x ≡ (n, p)
      → map g made ++ numbered left ≡ all → map g now ++ numbered some ≡ all
  threads_more g made now x left some p n all more was len is so = rw (more, map-append, is, len, append_assoc) (rw (was, numbered_more) at so)

  -- one number more
  pub numbers_more : (g : X → ℕ) (made now : List X) (x : X) (first n : ℕ) → now ≡ made ++ x ∷ [] → g x ≡ first + n → map g made ≡ range_with_len first n
      → map g now ≡ range_with_len first (n + 1)
  numbers_more g made now x first n more is so = rw (more, map-append, is, so) (sym (range_more first n))

-- one of each queue, the first poller's last
pub one_of_each : (ends : List (List End)) {new : List (List End)} {end : End} (others : List End) → PairsOff Contains (drop 1 ends) others [] → AreLeft ends new
    → IsEndOf new 0 end → HasOneOfEach ends (end ∷ others)
one_of_each [] {new} {end} others are left is = let first = (end_of_left [] new 0 end left is).1 in absurd (omega arith)
one_of_each (x ∷ xs) {new} {end} others are left is = (end_of_left (x ∷ xs) new 0 end left is, are)

-- no poller is left
pub all_made : {A : Type 0} (made all : List (ℕ × A)) (left : List A) → length left ≡ 0 → made ++ numbered left ≡ all → made ≡ all
all_made made all left none so = rw (nil_from_length left none, append-nil) at so
