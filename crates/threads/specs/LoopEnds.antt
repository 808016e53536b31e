-- Why a thread's loop ends, what it tells of that, and whom it wakes.
use Rattle.std.specs.Prelude.{◌≡◌, ℕ, ◌<◌, Option, Some, None, option_to_list, List, IsSome, option_map}
use Rattle.sizes.specs.{declared.{faults.ServerFault.ServerFault, split.Split.Split}, Splits.{part_of, parts_of}}
use Rattle.threads.specs.declared.ending.Why.{Why, TheVariants.{FaultFound, PollerOver, QueueClosed, Met}}

-- the fault that ended a thread's loop, if one did
abbrev pub fault_by : Why → Option ServerFault
fault_by (FaultFound mark) = None
fault_by PollerOver = None
fault_by (QueueClosed drained) = None
fault_by (Met fault) = Some fault

abbrev pub faults_by : Why → List ServerFault
faults_by why = option_to_list (fault_by why)

-- a thread that ends so ends all others: it met a fault, or found that another has met one
abbrev pub EndsAll : Why → Type 0
EndsAll (FaultFound mark) = Unit {0}
EndsAll PollerOver = ⊥
EndsAll (QueueClosed drained) = ⊥
EndsAll (Met fault) = Unit {0}

-- a fault is recorded, with its thread's number, and this mark is set
pub record Announced : Type 0 where
  pub mark : ℕ
  pub first : ℕ × ServerFault

abbrev pub announced : ℕ → ℕ × ServerFault → Announced
announced mark first = record { mark = mark; first = first }

-- a thread with this number that ended so told it: a fault that it met is recorded, and the mark set; the queue of tickets
-- is closed if the thread ends all others
abbrev pub IsTold : {C : Type 0} → ℕ → ℕ → Why → Option Announced → Option C → Type 0
IsTold mark number why recorded closed = (recorded ≡ option_map (λ fault. announced mark (number, fault)) (fault_by why))
    × (EndsAll why → IsSome closed)

-- every poller was woken, each by the first of its slots
abbrev pub AllWoken : (ℕ → Type 0) → Split → Type 0
AllWoken woken split = (poller : ℕ) → poller < parts_of split.slots split.size → woken (part_of split.slots split.size poller).first
