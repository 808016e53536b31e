use Rattle.std.{proofs.Common.{◌≡◌, ◌+◌, ◌≤◌, ◌++◌, map, All}, specs.{Prelude.{vec_len, vec_capacity}, Arc.arc_value}}
use Rattle.claims.specs.Seats.{fresh_seat}
use Rattle.shared.specs.Posts.{AreFresh}
use Rattle.threads.specs.Divided.{numbered, IsEndOf, AreLeft}
use Rattle.threads.proofs.dividing.pollers_of.Given as goal

abbrev pub invariant-loop-poller : goal.invariant-loop-poller
invariant-loop-poller g l = record {
  fresh : AreFresh (arc_value l.shared).claims l.rest.parts.seats.items;
  numbered : map (λ thread. (thread.number, thread.poller)) l.threads.items ++ numbered l.pollers.items ≡ numbered l.fn.pollers.items;
  own : All (λ thread. (thread.own.seat ≡ fresh_seat (arc_value l.shared).claims) × IsEndOf l.fn.rest.free thread.number thread.own.free) l.threads.items;
  ends : AreLeft l.fn.rest.free l.rest.free;
  left : vec_len l.threads + vec_len l.pollers ≡ vec_len l.fn.pollers;
  room : vec_len l.fn.pollers ≤ vec_capacity l.threads;
}

abbrev pub decreases-loop-poller : goal.decreases-loop-poller
decreases-loop-poller g l = vec_len l.pollers
