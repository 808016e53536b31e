use Rattle.std.{proofs.{Common.{◌≡◌, ◌+◌, ◌-◌, ℕ, List, [], ◌∷◌, ◌++◌, map, sym, arith}, lemmas.List.{map-append, FromFn.map-range_with_len_more}}, specs.List.range_with_len}
use Rattle.server.proofs.making.frees_of.Goals as goal

-- a list that has one more item, of which each item has this of it
mapped_more : {A B : Type 0} (of : A → B) (f : ℕ → B) (xs ys : List A) {x : A} (n : ℕ) → ys ≡ xs ++ x ∷ [] → of x ≡ f n
    → map of xs ≡ map f (range_with_len 0 n) → map of ys ≡ map f (range_with_len 0 (n + 1))
mapped_more of f xs ys n more item all = rw (more, map-append, all, item) (sym (map-range_with_len_more f 0 n n (omega arith)))

pub loop-number-preserved : goal.loop-number-preserved
loop-number-preserved g c =
    let others : c.args.workers + 1 - 1 ≡ c.args.workers = omega arith in
    mapped_more _ _ _ _ c.loop-number.number c.in_ok-push.ensures.items (rw (c.in_ok-ends.ensures, others, c.part-part.ensures.part)) c.loop-number.invariant
