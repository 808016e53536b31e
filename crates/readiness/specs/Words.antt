-- The words at which reports are passed on. Each end of each slot's connection has one of its own.
use Rattle.std.specs.{Prelude.{◌≡◌, ◌⊎◌, Bool, true, false, ℕ, nat_lt, if◌then◌else◌, List, map, Option, Some, None}, List.range_with_len}
use Rattle.token.specs.declared.side.Side.{Side, TheVariants.{Client, Target}}

-- the end on a side of a slot's connection
pub record WordName : Type 0 where
  pub slot : ℕ
  pub side : Side

-- the word of an end, if its slot is one of this many
abbrev pub end_word : ℕ → ℕ → Side → Option WordName
end_word slots slot side = if nat_lt slot slots then Some (record { slot = slot; side = side }) else None

-- the words of a slot's two ends
abbrev pub both_of : ℕ → WordName × WordName
both_of slot = (record { slot = slot; side = Client }, record { slot = slot; side = Target })

-- the words of this many slots, in order
abbrev pub words_of : ℕ → List (WordName × WordName)
words_of slots = map both_of (range_with_len 0 slots)

-- One step on a flag: it was read whether it is set; or it was set or cleared, and was set before or not
pub data FlagStep : Type 0 where
  Read : Bool → FlagStep
  Swapped : Bool → Bool → FlagStep

-- A look with this answer: the flag was read, and was not set; or it was, and then one step cleared it and gave the answer.
-- Nothing else was done
abbrev pub IsTaken : {F Acts : Type 0} → (FlagStep → F → Acts → Acts → Type 0) → F → Bool → Acts → Acts → Type 0
IsTaken did flag answer from to = (did (Read false) flag from to × (answer ≡ false))
    ⊎ ((read : _) × did (Read true) flag from read × did (Swapped false answer) flag read to)
