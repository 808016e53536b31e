-- Which slots are a poller's. All are dealt in parts of one size, one after the other, and the last part has what is left.
use Rattle.std.specs.{Prelude.{ℕ, ◌*◌, ◌+◌, ◌-◌, ◌/◌, ◌<◌, ◌≤◌, min, List, map}, List.range_with_len}
use Rattle.sizes.specs.declared.split.Part.{Part}

-- the slot is in this part
pub record IsIn (part : Part) (slot : ℕ) : Type 0 where
  pub least : part.first ≤ slot
  pub most : slot < part.first + part.slots

-- how many parts there are
abbrev pub parts_of : ℕ → ℕ → ℕ
parts_of slots size = (slots - 1) / size + 1

-- the part with this number
abbrev pub part_of : ℕ → ℕ → ℕ → Part
part_of slots size number = record { first = number * size; slots = min size (slots - number * size) }

-- what `make` makes of each part, in order
abbrev pub each_part : {A : Type 0} → ℕ → ℕ → (Part → A) → List A
each_part slots size make = map (λ (number : ℕ). make (part_of slots size number)) (range_with_len 0 (parts_of slots size))
