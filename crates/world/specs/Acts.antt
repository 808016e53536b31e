-- How private functions say what a worker's event does. Not part of the promises.
use Rattle.std.specs.Prelude.{◌≡◌, Bool, [], Option, Some, None, IsSome, IsTrue, Result, Ok, Err}
use Rattle.kernel_model.specs.declared.refusal.Refusal.{Refusal, TheVariants.{NotAllowed, NoMemory}}
use Rattle.world.specs.{declared.actors.Doing.Doing, Slots.WorkerState}

-- a worker that is doing this, and has no ticket to put
abbrev pub busy : Doing → WorkerState
busy d = record { doing = d; hand = [] }

-- the call made the defined value, or was refused and left the old one; NoMemory is answered only if the call may need memory
abbrev pub MeetsIn : {X : Type 0} → Bool → Option X → X → X → Result (Unit {0}) Refusal → Type 0
MeetsIn allocates defined old new (Ok x) = defined ≡ Some new
MeetsIn allocates defined old new (Err NotAllowed) = (defined ≡ None) × (new ≡ old)
MeetsIn allocates defined old new (Err NoMemory) = IsTrue allocates × (IsSome defined × (new ≡ old))
