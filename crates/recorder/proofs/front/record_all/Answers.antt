use Rattle.std.{proofs.{Common.{◌≡◌, ◌∷◌, [], ◌++◌, ◌+◌, ℕ, ap, arith, append_assoc, length, rules}, lemmas.List.{map-append, map-id, length-append, FromFn.map-range_with_len_more}}, specs.{List.range_with_len, Vec.Iter.{into_iter_items}}}
use Rattle.recorder.proofs.front.record_all.Goals as goal

pub loop-front-preserved : goal.loop-front-preserved
loop-front-preserved g c =
    let was = c.loop-front.invariant in
    let count = length c.loop-front.all.items in
    let next : into_iter_items c.loop-front.front-iterator ≡ c.in-Some.front ∷ into_iter_items c.next.new.self = c.in-Some.ensures.steps.0 in
    let more : range_with_len 0 (count + 1) ≡ range_with_len 0 count ++ count ∷ [] = simp map-id at (map-range_with_len_more (λ (x : ℕ). x) 0 count count (omega arith)) in
    record {
      left = rw (c.push_reserved.ensures.items, length-append) (omega (arith, c.in-Some.ensures.steps.1, was.left));
      room = rw c.push_reserved.ensures.capacity was.room;
      seen = rw (c.push_reserved.ensures.items, map-append, append_assoc, c.new-inner.ensures) (rw next at was.seen);
      numbers = rw (c.push_reserved.ensures.items, map-append, length-append, was.numbers, c.len-poller.ensures, more)
          (ap (λ (n : ℕ). range_with_len 0 count ++ n ∷ []) (search rules));
    }
