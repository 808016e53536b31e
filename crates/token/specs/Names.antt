-- The name of an end of a connection. The slot's generation distinguishes the connection from every earlier one in the
-- same slot.
use Rattle.std.specs.Prelude.{ℕ, ◌+◌, ◌*◌, ◌≤◌}
use Rattle.token.specs.{declared.side.Side.Side, Sides.side_number}

pub record EndName : Type 0 where
  pub slot : ℕ
  pub side : Side
  pub generation : ℕ

-- the slots that a name can hold
abbrev pub IsSlot : ℕ → Type 0
IsSlot slot = slot ≤ 32767

-- 2^47 - 1: after a connection of this generation, its slot is not used again
abbrev pub last_generation : ℕ
last_generation = 140737488355327

-- the generations that a name can hold: a slot that was never opened has generation 0
abbrev pub IsGeneration : ℕ → Type 0
IsGeneration generation = (1 ≤ generation) × (generation ≤ last_generation)

abbrev pub IsEndName : EndName → Type 0
IsEndName name = IsSlot name.slot × IsGeneration name.generation

-- the number of a name: the side is its last bit, the slot the 15 bits above, the generation the rest
abbrev pub end_number : EndName → ℕ
end_number name = name.generation * 65536 + name.slot * 2 + side_number name.side
