-- The script that a text stands for, or its first fault.
use Rattle.std.specs.Prelude.{ℕ, List, map, ◌≡◌, ◌⊎◌, nat_lt, Bool, false, IsTrue, if◌then◌else◌, [], ◌∷◌, ◌≤◌, length, is_some, Option, Some, None, Result, Ok, Err}
use Rattle.world.specs.declared.limits.Limits.{Limits}
use Rattle.script_text.specs.{declared.{steps.{NumberedStep.NumberedStep, NumberedEvent.NumberedEvent}, header.Header.Header}, Texts.{NumberedLine, lines_of, telling_lines}, Headers.header_of, Events.{step_of, Said, said_of, event_of}}
use Rattle.script.specs.{declared.{fault.Fault.{Fault, TheVariants.{TooLong, NoWorld, Malformed}}, script.Script.Script}, Plans.FlowPlan, Faults.and_then}
use Rattle.script_text.specs.declared.header.Header.TheVariants as header
use Rattle.script.specs.declared.script.Script.TheVariants as script

-- the most bytes of a script
abbrev pub most_of_script : ℕ
most_of_script = 1048576

-- what was read from a line, or that the line is malformed
abbrev pub or_malformed : {X : Type 0} → ℕ → Option X → Result X Fault
or_malformed line (Some x) = Ok x
or_malformed line None = Err (Malformed line)

-- what each line says, with its number, up to the first malformed one
abbrev pub lines_as : {X Y : Type 0} → (List ℕ → Option X) → (ℕ → X → Y) → List NumberedLine → Result (List Y) Fault
lines_as read numbered [] = Ok []
lines_as read numbered (l ∷ ls) =
    and_then (λ x. and_then (λ ys. Ok (numbered l.number x ∷ ys)) (lines_as read numbered ls)) (or_malformed l.number (read l.text))

abbrev pub steps_of : List NumberedLine → Result (List NumberedStep) Fault
steps_of lines = lines_as step_of (λ line step. record { line = line; step = step }) lines

-- an event as its line says it
pub record SaidLine : Type 0 where
  pub line : ℕ
  pub said : Said

abbrev pub events_of : List NumberedLine → Result (List SaidLine) Fault
events_of lines = lines_as event_of (λ line said. record { line = line; said = said }) lines

-- a script as a text says it
pub data Plan : Type 0 where
  FlowOf : FlowPlan → Plan
  WorldOf : Limits → List SaidLine → Plan

abbrev pub said_line : NumberedEvent → SaidLine
said_line e = record { line = e.line; said = said_of e.event }

abbrev pub said_lines : List NumberedEvent → List SaidLine
said_lines events = map said_line events

abbrev pub said_by : Script → Plan
said_by (script.Flow plan) = FlowOf plan
said_by (script.World plan) = WorldOf plan.limits (said_lines plan.events)

-- the script of the lines after a header, by what the header covers
abbrev pub headed : Header → List NumberedLine → Result Plan Fault
headed (header.Flow ring) lines = and_then (λ steps. Ok (FlowOf (record { ring = ring; steps = steps }))) (steps_of lines)
headed (header.World limits) lines = and_then (λ events. Ok (WorldOf limits events)) (events_of lines)

abbrev pub plan_of : List NumberedLine → Result Plan Fault
plan_of [] = Err NoWorld
plan_of (l ∷ ls) = and_then (λ h. headed h ls) (or_malformed l.number (header_of l.text))

abbrev pub parsed : List ℕ → Result Plan Fault
parsed text = if nat_lt most_of_script (length text) then Err TooLong else plan_of (telling_lines 1 (lines_of text))

abbrev pub IsScript : List ℕ → Type 0
IsScript text = (script : Script) × (parsed text ≡ Ok (said_by script))

-- the first of these lines can be read
abbrev pub starts_with : {X : Type 0} → (List ℕ → Option X) → List NumberedLine → Bool
starts_with read [] = false
starts_with read (l ∷ ls) = is_some (read l.text)

-- the first line after a header can be read, by what the header covers
abbrev pub reads_on : Option Header → List NumberedLine → Bool
reads_on None lines = false
reads_on (Some (header.Flow ring)) lines = starts_with step_of lines
reads_on (Some (header.World limits)) lines = starts_with event_of lines

abbrev pub begins_well : List NumberedLine → Bool
begins_well [] = false
begins_well (l ∷ ls) = reads_on (header_of l.text) ls

-- A text that is not too long, and begins with a good header and a good line after it. Later lines may be malformed:
-- memory may run out before they are read.
abbrev pub BeginsWell : List ℕ → Type 0
BeginsWell text = (length text ≤ most_of_script) × IsTrue (begins_well (telling_lines 1 (lines_of text)))

-- What takes memory once it was read: a script, for which a machine is made, and a text that begins well. So memory
-- can't run out for a text that is too long, has no line, or whose header or first line after it is malformed.
abbrev pub TakesMemory : List ℕ → Type 0
TakesMemory text = IsScript text ⊎ BeginsWell text
