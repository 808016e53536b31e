-- A list of events, one after the other, and why one of them fails.
use Rattle.std.specs.Prelude.{◌≡◌, ℕ, ◌⊎◌, List, [], ◌∷◌, take, Option, Some, None, IsSome, IsTrue, slice_get, option_and_then}
use Rattle.kernel_model.specs.declared.refusal.Refusal.{Refusal, TheVariants.{NotAllowed, NoMemory}}
use Rattle.world.specs.{declared.{limits.Limits.Limits, event.Event.Event}, States.{State, opening}, Steps.step, Memory.may_allocate}

-- the world after these events; None if one of them is not allowed
abbrev pub run : State → List Event → Option State
run st [] = Some st
run st (e ∷ es) = option_and_then (λ (q : State). run q es) (step st e)

-- Why an event fails: it is not allowed; or it is allowed, and memory ran out for a list that it makes longer
abbrev pub FailsFor : State → Event → Refusal → Type 0
FailsFor st e NotAllowed = step st e ≡ None
FailsFor st e NoMemory = IsSome (step st e) × IsTrue (may_allocate st e)

-- the events before index i lead to this state, in which event i fails
pub record FailsAt (first st : State) (events : List Event) (i : ℕ) (cause : Refusal) : Type 0 where
  pub before : run first (take i events) ≡ Some st
  pub event : Event
  pub at_index : slice_get events i ≡ Some event
  pub fails : FailsFor st event cause

-- Why a replay fails: an event fails; or, reported at index 0, there was no memory for the opening world
abbrev pub ReplayFails : Limits → List Event → ℕ → Refusal → Type 0
ReplayFails l events i cause = ((st : State) × FailsAt (opening l) st events i cause) ⊎ ((i ≡ 0) × (cause ≡ NoMemory))
