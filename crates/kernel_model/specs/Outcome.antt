-- How the result of a call fits the value that a definition gives, if it gives one.
use Rattle.std.specs.Prelude.{◌≡◌, Bool, Option, Some, None, IsSome, Result, Ok, Err, if◌then◌else◌}
use Rattle.kernel_model.specs.declared.refusal.Refusal.{Refusal, TheVariants.{NotAllowed, NoMemory}}

abbrev pub guard : {X : Type 0} → Bool → X → Option X
guard allowed x = if allowed then Some x else None

-- a value, and the answer that comes with it
pub record Told (X Y : Type 0) : Type 0 where
  pub value : X
  pub told : Y

-- The call made the defined value. It answers NotAllowed only if none is defined, and NoMemory only if one is.
abbrev pub Meets : {X : Type 0} → Option X → X → X → Result (Unit {0}) Refusal → Type 0
Meets defined old new (Ok x) = defined ≡ Some new
Meets defined old new (Err NotAllowed) = (defined ≡ None) × (new ≡ old)
Meets defined old new (Err NoMemory) = IsSome defined × (new ≡ old)

-- the same for a call that never answers NoMemory
abbrev pub MeetsAlways : {X : Type 0} → Option X → X → X → Result (Unit {0}) Refusal → Type 0
MeetsAlways defined old new (Ok x) = defined ≡ Some new
MeetsAlways defined old new (Err NotAllowed) = (defined ≡ None) × (new ≡ old)
MeetsAlways defined old new (Err NoMemory) = ⊥

-- the same for a call that also gives an answer
abbrev pub Tells : {X Y : Type 0} → Option (Told X Y) → X → X → Result Y Refusal → Type 0
Tells defined old new (Ok told) = defined ≡ Some (record { value = new; told = told })
Tells defined old new (Err NotAllowed) = (defined ≡ None) × (new ≡ old)
Tells defined old new (Err NoMemory) = IsSome defined × (new ≡ old)

-- the same for a call that never answers NoMemory
abbrev pub TellsAlways : {X Y : Type 0} → Option (Told X Y) → X → X → Result Y Refusal → Type 0
TellsAlways defined old new (Ok told) = defined ≡ Some (record { value = new; told = told })
TellsAlways defined old new (Err NotAllowed) = (defined ≡ None) × (new ≡ old)
TellsAlways defined old new (Err NoMemory) = ⊥
