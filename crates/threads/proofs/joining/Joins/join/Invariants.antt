use Rattle.std.specs.{Prelude.{◌+◌, ◌≤◌, vec_len, vec_capacity}, Vec.Iter.{into_iter_items, into_iter_len}}
use Rattle.threads.specs.Divided.{PairsOff}
use Rattle.threads.proofs.joining.Joins.join.Given as goal

abbrev pub invariant-loop-handle : goal.invariant-loop-handle
invariant-loop-handle g l = record {
  room : vec_len l.ends + into_iter_len l.handle-iterator ≤ vec_capacity l.ends;
  joined : PairsOff (λ handle end. g.P.Part.runs handle.promise.context.value handle.promise.part.value end) l.fn.self.handles.items
      l.ends.items (into_iter_items l.handle-iterator);
}
