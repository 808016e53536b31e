use Rattle.std.specs.Prelude.{◌≡◌, ◌+◌, length}
use Rattle.shared.specs.{Hands.Shrank, Outgoing.outgoing}
use Rattle.shared.proofs.hand.put_tickets.Given as goal

-- what was to be put is put or in hand, in order, and each turn of the loop leaves one less in hand
abbrev pub invariant-loop-ticket : goal.invariant-loop-ticket
invariant-loop-ticket g l =
    Shrank l.fn.hand l.hand
    × (outgoing l.ready.history l.hand.tickets ≡ outgoing l.fn.ready.history l.fn.hand.tickets)
    × (l.ready.history.taken ≡ l.fn.ready.history.taken)
    × (l.hand.slots ≡ l.fn.hand.slots)
    × (length l.hand.tickets + l._ticket ≡ length l.fn.hand.tickets)
