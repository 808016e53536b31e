use Rattle.std.specs.Prelude.{◌≡◌, ◌≤◌}
use Rattle.claims.specs.Seats.{HoldsNothing}
use Rattle.turns.proofs.Turns.{SharedSoFar}
use Rattle.turns.proofs.own_turns.share_tickets.Given as goal

abbrev pub invariant-loop-ticket : goal.invariant-loop-ticket
invariant-loop-ticket g l = record {
  shared : SharedSoFar l.full l.fn.own.hand.tickets l.fn.heavy l.fn.own.ready l._ticket l.kept l.own.hand.tickets l.heavy l.own.ready;
  took : l.own.ready.history.taken ≡ l.fn.own.ready.history.taken;
  seat : l.own.seat ≡ l.fn.own.seat;
  free : l.own.free ≡ l.fn.own.free;
  slots : l.own.hand.slots ≡ l.fn.own.hand.slots;
  capacity : l.own.hand.capacity ≡ l.fn.own.hand.capacity;
  idle : HoldsNothing l.own.seat;
  few : l.kept ≤ l._ticket;
}
