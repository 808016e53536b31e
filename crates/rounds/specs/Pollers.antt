-- What the poller keeps between its rounds, and the numbers of a round that clauses name.
use Rattle.std.specs.Prelude.{◌≡◌, ◌⊎◌, ℕ, ◌+◌, ◌≤◌, min, Bool, List, All, slice_index}
use Rattle.rounds.specs.declared.{episodes.Episodes.Episodes, opening.Opening.Opening}
use Rattle.shared.specs.Told.{Seen}
use Rattle.sizes.specs.{declared.split.Part.Part, Splits.IsIn}
use Rattle.token.specs.Names.{last_generation}

-- what a poller keeps between its rounds
pub record PollerState : Type 0 where
  -- what the front shows
  pub seen : Seen
  -- each slot's generation
  pub table : List ℕ
  -- the reports that this round delivers
  pub batch : List ℕ
  -- the accept flag: a client may wait to be accepted
  pub accepting : Bool
  -- accept(2) was starved at its last answer
  pub starved : Bool
  -- the last round that came to accept left a client to other pollers
  pub left : Bool
  -- how many tries of accept(2) the last round left over
  pub tries : ℕ
  -- what connections are opened with
  pub opening : Opening
  -- the poller's own slots
  pub part : Part
  -- each slot's heavy mark: how many of its next tickets are for the workers
  pub heavy : List ℕ
  -- how many connections it may open in all
  pub most : ℕ
  -- how many it has opened
  pub opened : ℕ
  -- how many slots it no longer uses
  pub lost : ℕ
  -- the second of the last round
  pub second : ℕ
  -- the second of the last sweep, at first that at which the poller began
  pub swept : ℕ
  -- whether the last look found all opened and every slot back: its thread then makes no more rounds
  pub over : Bool
  -- conditions that are logged once while they last
  pub episodes : Episodes

-- every entry is a generation
abbrev pub AreGenerations : List ℕ → Type 0
AreGenerations table = All (λ generation. generation ≤ last_generation) table

-- a poller's table says of the slots of other pollers that they have had no connection
abbrev pub IsOwnTable : Part → List ℕ → Type 0
IsOwnTable part table = (slot : ℕ) → (IsIn part slot → ⊥) → slice_index table slot ≡ 0

-- the poller has opened all that it may
abbrev pub HasOpenedAll : PollerState → Type 0
HasOpenedAll p = p.most ≤ p.opened

-- a count of 64 bits after this many more: it stays at its greatest value
abbrev pub counted_up : ℕ → ℕ → ℕ
counted_up count more = min (count + more) 18446744073709551615

-- a count of 64 bits rose by this many, or has reached its greatest value
abbrev pub HasRisen : ℕ → ℕ → ℕ → Type 0
HasRisen old more new = (new ≡ old + more) ⊎ ((18446744073709551615 ≤ old + more) × (18446744073709551615 ≤ new))

-- how many tickets a hand must have room for, beside one of each slot, before a round begins
abbrev pub spare_room : ℕ
spare_room = 512

-- the most tries of accept(2) in a round
abbrev pub max_accepts : ℕ
max_accepts = 4
