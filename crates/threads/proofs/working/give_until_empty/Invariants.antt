use Rattle.std.specs.Prelude.{◌≡◌}
use Rattle.shared.specs.Outgoing.{outgoing}
use Rattle.threads.proofs.working.give_until_empty.Given as goal

-- no slot is lost and none taken, and the tickets in hand stay
abbrev pub invariant-loop-try : goal.invariant-loop-try
invariant-loop-try g l = record {
  slots : outgoing l.free.history l.hand.slots ≡ outgoing l.fn.free.history l.fn.hand.slots;
  took : l.free.history.taken ≡ l.fn.free.history.taken;
  tickets : l.hand.tickets ≡ l.fn.hand.tickets;
}
