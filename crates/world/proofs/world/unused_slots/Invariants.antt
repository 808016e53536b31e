use Rattle.std.proofs.Common.{◌≡◌, replicate}
use Rattle.world.specs.States.{unused}
use Rattle.world.proofs.world.unused_slots.Given as goal

abbrev pub invariant-loop-slot : goal.invariant-loop-slot
invariant-loop-slot l = l.slots.items ≡ replicate l._slot (unused l.generation)
