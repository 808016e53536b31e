-- The faults of a script, and the one line of each.
use Rattle.std.specs.{Prelude.{◌≡◌, ℕ, Bool, IsTrue, List, [], ◌∷◌, ◌++◌, codes, take, slice_get, Option, Some, None, Result, Ok, Err}, Fmt.decimal}
use Rattle.world_text.specs.{declared.word.Word.Word, Words.word_text}
use Rattle.script.specs.declared.fault.Fault.{Fault, TheVariants.{TooLong, NoWorld, Malformed, NotAllowed, NoMemory}}

abbrev pub script_fault_text : Fault → List ℕ
script_fault_text TooLong = codes "script too long"
script_fault_text NoWorld = codes "no world"
script_fault_text (Malformed line) = codes "line " ++ (decimal line ++ codes ": malformed")
script_fault_text (NotAllowed line word) = codes "line " ++ (decimal line ++ (codes ": not allowed: " ++ word_text word))
script_fault_text NoMemory = codes "out of memory"

-- A call returned what is defined, a value as `view` sees it or a fault; or memory ran out.
abbrev pub GivesBy : {X Y : Type 0} → (X → Y) → Result Y Fault → Result X Fault → Type 0
GivesBy view defined (Ok x) = defined ≡ Ok (view x)
GivesBy view defined (Err TooLong) = defined ≡ Err TooLong
GivesBy view defined (Err NoWorld) = defined ≡ Err NoWorld
GivesBy view defined (Err (Malformed line)) = defined ≡ Err (Malformed line)
GivesBy view defined (Err (NotAllowed line word)) = defined ≡ Err (NotAllowed line word)
GivesBy view defined (Err NoMemory) = Unit {0}

abbrev pub GivesDefined : {X : Type 0} → Result X Fault → Result X Fault → Type 0
GivesDefined defined result = GivesBy (λ x. x) defined result

-- f of the value; a fault stays
abbrev pub and_then : {X Y : Type 0} → (X → Result Y Fault) → Result X Fault → Result Y Fault
and_then f (Ok x) = f x
and_then f (Err fault) = Err fault

-- what the step of a line makes, or that the line is not allowed
abbrev pub or_not_allowed : {X : Type 0} → ℕ → Word → Option X → Result X Fault
or_not_allowed line word (Some x) = Ok x
or_not_allowed line word None = Err (NotAllowed line word)

-- Why a line is refused: it has the defined fault; or none is defined, and memory ran out for a line that may take some.
abbrev pub Refused : {X : Type 0} → Bool → Result X Fault → Fault → Type 0
Refused takes (Ok x) fault = (fault ≡ NoMemory) × IsTrue takes
Refused takes (Err defined) fault = fault ≡ defined

-- The step of a line was made as defined, or was refused and changed nothing.
abbrev pub Carries : {X : Type 0} → Bool → Result X Fault → X → Result (Unit {0}) Fault → X → Type 0
Carries takes defined old (Ok x) new = defined ≡ Ok new
Carries takes defined old (Err fault) new = Refused takes defined fault × (new ≡ old)

-- the steps of lines one after another, up to the first fault
abbrev pub played : {X L : Type 0} → (X → L → Result X Fault) → X → List L → Result X Fault
played stepped x [] = Ok x
played stepped x (l ∷ ls) = and_then (λ y. played stepped y ls) (stepped x l)

-- The steps were made up to a line that is refused; `takes` says for which lines memory may run out.
pub record StopsAt {X L : Type 0} (stepped : X → L → Result X Fault) (takes : X → L → Bool) (old : X) (ls : List L) (fault : Fault)
    (new : X) : Type 0 where
  pub index : ℕ
  pub line : L
  pub there : slice_get ls index ≡ Some line
  pub before : played stepped old (take index ls) ≡ Ok new
  pub refused : Refused (takes new line) (stepped new line) fault

-- All steps were made, or those before the first that is refused. So a line that is not allowed is never reported as
-- out of memory.
abbrev pub PlaysSteps : {X L : Type 0} → (X → L → Result X Fault) → (X → L → Bool) → X → List L → Result (Unit {0}) Fault → X → Type 0
PlaysSteps stepped takes old ls (Ok x) new = played stepped old ls ≡ Ok new
PlaysSteps stepped takes old ls (Err fault) new = StopsAt stepped takes old ls fault new
