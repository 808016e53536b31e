use Rattle.std.{proofs.Common.{◌≡◌, ◌≤◌, map, All}, specs.{Prelude.{vec_len, vec_capacity}, Arc.arc_value, List.range_with_len}}
use Rattle.claims.specs.Seats.{fresh_seat}
use Rattle.shared.specs.Posts.{AreFresh}
use Rattle.threads.specs.Divided.{AreLeft, HasOneOfEach, ends_of}
use Rattle.threads.proofs.dividing.workers_of.Given as goal

abbrev pub invariant-loop-index : goal.invariant-loop-index
invariant-loop-index g l = record {
  fresh : AreFresh (arc_value l.shared).claims l.rest.parts.seats.items;
  numbers : map (λ worker. worker.number) l.made.items ≡ range_with_len l.first l.index;
  own : All (λ worker. (worker.owned.own.seat ≡ fresh_seat (arc_value l.shared).claims) × HasOneOfEach l.fn.rest.free (ends_of worker.owned)) l.made.items;
  ends : AreLeft l.fn.rest.free l.rest.free;
  len : vec_len l.made ≡ l.index;
  room : l.workers ≤ vec_capacity l.made;
}
