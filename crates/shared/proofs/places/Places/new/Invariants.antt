use Rattle.std.proofs.Common.{◌≡◌, ◌≤◌, vec_len, vec_capacity}
use Rattle.shared.proofs.places.Places.new.Given as goal

-- one place for each slot so far
abbrev pub invariant-loop-slot : goal.invariant-loop-slot
invariant-loop-slot g l = (vec_len l.places ≡ l._slot) × (l.slots ≤ vec_capacity l.places)
