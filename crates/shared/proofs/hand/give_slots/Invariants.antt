use Rattle.std.specs.Prelude.{◌≡◌, ◌+◌, length}
use Rattle.shared.specs.{Hands.Shrank, Outgoing.outgoing}
use Rattle.shared.proofs.hand.give_slots.Given as goal

-- what was to be put is put or in hand, in order, and each turn of the loop leaves one less in hand
abbrev pub invariant-loop-slot : goal.invariant-loop-slot
invariant-loop-slot g l =
    Shrank l.fn.hand l.hand
    × (outgoing l.free.history l.hand.slots ≡ outgoing l.fn.free.history l.fn.hand.slots)
    × (l.free.history.taken ≡ l.fn.free.history.taken)
    × (l.hand.tickets ≡ l.fn.hand.tickets)
    × (length l.hand.slots + l._slot ≡ length l.fn.hand.slots)
