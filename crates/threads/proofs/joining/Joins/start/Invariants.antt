use Rattle.std.specs.{Prelude.{◌+◌, ◌≤◌, vec_len, vec_capacity}, Vec.Iter.{into_iter_items, into_iter_len}}
use Rattle.threads.specs.{Divided.PairsOff, Served.IsOf}
use Rattle.threads.proofs.joining.Joins.start.Given as goal

abbrev pub invariant-loop-part : goal.invariant-loop-part
invariant-loop-part g l = record {
  room : vec_len l.self.handles + into_iter_len l.part-iterator ≤ vec_capacity l.self.handles;
  started : PairsOff (λ part handle. IsOf l.context part handle.promise.context.value handle.promise.part.value) l.fn.parts.items
      l.self.handles.items (into_iter_items l.part-iterator);
}
