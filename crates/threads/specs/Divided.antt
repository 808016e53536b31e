-- How what a server is made of is divided among its threads.
use Rattle.std.specs.{Prelude.{◌≡◌, ℕ, ◌+◌, ◌*◌, List, [], ◌∷◌, reverse, Contains, slice_index_or}, List.enumerate_from}
use Rattle.queues.specs.Steps.{EndState}
use Rattle.shared.specs.declared.shared.Parts.{Parts}
use Rattle.threads.specs.declared.working.Owned.{Owned}

-- what no thread has been given yet: parts, and for each poller the ends of its free queue that are left
pub record RestState : Type 0 where
  pub parts : Parts
  pub free : List (List (EndState ℕ))

-- the second list has, in order, one for each of the first of these parts; these parts are left
abbrev pub PairsOff : {P E : Type 0} → (P → E → Type 0) → List P → List E → List P → Type 0
PairsOff is parts [] left = left ≡ parts
PairsOff is [] (end ∷ ends) left = ⊥
PairsOff is (part ∷ parts) (end ∷ ends) left = is part end × PairsOff is parts ends left

-- the threads of these pollers, each with its number, the last one's first: they begin from the back
abbrev pub numbered : {A : Type 0} → List A → List (ℕ × A)
numbered pollers = reverse (enumerate_from 0 pollers)

-- this is like one of the ends of the free queue of the poller with this number
abbrev pub IsEndOf : List (List (EndState ℕ)) → ℕ → EndState ℕ → Type 0
IsEndOf ends poller end = Contains (slice_index_or ends poller []) end

-- ends may have been taken, and none was added
pub record AreLeft (old new : List (List (EndState ℕ))) : Type 0 where
  pub each : PairsOff (λ had has. (end : EndState ℕ) → Contains has end → Contains had end) old new []

-- a worker's ends of the pollers' free queues, in order: between two turns it uses the first
abbrev pub ends_of : Owned → List (EndState ℕ)
ends_of owned = owned.own.free ∷ owned.others.items

-- a worker's ends: one of each poller's queue, in order
abbrev pub HasOneOfEach : List (List (EndState ℕ)) → List (EndState ℕ) → Type 0
HasOneOfEach ends own = PairsOff Contains ends own []

-- how many tickets, and how many slots, fit into the hand of a poller of a server of this many slots: two rounds may put each
-- slot's there, and the reports of two polls
abbrev pub hand_of_poller : ℕ → ℕ
hand_of_poller slots = slots * 2 + 512
