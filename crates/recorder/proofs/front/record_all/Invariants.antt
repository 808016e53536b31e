use Rattle.std.{proofs.Common.{◌≡◌, ◌+◌, ◌≤◌, ◌++◌, length, map}, specs.{List.range_with_len, Prelude.{vec_capacity}, Vec.Iter.{into_iter_items, into_iter_len}}}
use Rattle.recorder.proofs.front.record_all.Given as goal

-- those that are made, and then those that the other fronts will be made into
abbrev pub invariant-loop-front : goal.invariant-loop-front
invariant-loop-front g l = record {
  left : length l.all.items + into_iter_len l.front-iterator ≡ length l.fn.fronts.items;
  room : length l.fn.fronts.items ≤ vec_capacity l.all;
  seen : map (λ front. g.F.Front.seen front.inner) l.all.items ++ map g.F.Front.seen (into_iter_items l.front-iterator)
      ≡ map g.F.Front.seen l.fn.fronts.items;
  numbers : map (λ front. front.poller) l.all.items ≡ range_with_len 0 (length l.all.items);
}
