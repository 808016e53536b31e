-- Which tickets a poller's thread leaves to the workers.
use Rattle.std.specs.Prelude.{ℕ, ◌-◌, List, slice_index, slice_set}

-- the heavy marks after a ticket of this slot was looked at: the slot has one less, if it had any
abbrev pub looked_at : ℕ → List ℕ → List ℕ
looked_at slot heavy = slice_set heavy slot (slice_index heavy slot - 1)
