-- What a run writes, given what its reader had.
use Rattle.std.specs.{Prelude.{Bool, Result, Ok, ℕ, List, ◌++◌, codes, ◌≡◌, ◌≢◌, ◌⊎◌, [], Option, Some, Err}, Io.KnownBytes.Appends}
use Rattle.world.specs.{States.{State, opening}, Steps.step, Memory.may_allocate, declared.{limits.Limits.Limits, event.Event.Event}, Runs.run, Headline.HeadlineHolds, Support.SupportHolds}
use Rattle.script.specs.{declared.{fault.Fault.{Fault, TheVariants.NoMemory}, script.{Script.Script, Reached.Reached}, transfer.Transfer.Transfer}, Plans.{WorldPlan, FlowPlan, events_in}, Scripts.{FlowOf, TakesMemory, parsed, said_by}, Transfers.{run_of, FlowKeepsBytes, KeepsEnd}, Faults.{and_then, or_not_allowed, played, script_fault_text}}
use Rattle.script_text.specs.declared.steps.NumberedEvent.{NumberedEvent}
use Rattle.world_text.specs.{Words.event_word, Pages.{newline, shown_bytes, stream_text}, WorldReports.world_report}
use Rattle.script.specs.declared.script.Script.TheVariants as script
use Rattle.script.specs.declared.script.Reached.TheVariants as reached

-- What a script leads to: the state after all of it, or the fault of the first line that is not allowed.

abbrev pub line_happened : State → NumberedEvent → Result State Fault
line_happened st e = or_not_allowed e.line (event_word e.event) (step st e.event)

abbrev pub line_takes_memory : State → NumberedEvent → Bool
line_takes_memory st e = may_allocate st e.event

abbrev pub world_of : WorldPlan → Result State Fault
world_of plan = played line_happened (opening plan.limits) plan.events

abbrev pub reached_by : Script → Result Reached Fault
reached_by (script.Flow plan) = and_then (λ t. Ok (reached.Flow t)) (run_of plan)
reached_by (script.World plan) = and_then (λ st. Ok (reached.World st)) (world_of plan)

-- the report of one direction: sent is what the destination took, unread what waits at the source
abbrev pub flow_report : Transfer → List ℕ
flow_report t = codes "up sent=" ++ (shown_bytes t.destination.taken ++ stream_text t.flow.ring t.source.unread t.flow.end_seen t.flow.shut)

abbrev pub error_line : Fault → List ℕ
error_line fault = script_fault_text fault ++ newline

abbrev pub reached_report : Reached → List ℕ
reached_report (reached.Flow transfer) = flow_report transfer
reached_report (reached.World state) = world_report state

-- What a text leads to: the state after the whole script that it stands for, or its first fault. The whole text is
-- parsed before the first step is made. Memory runs out only for a text that takes some.
abbrev pub LeadsTo : List ℕ → Result Reached Fault → Type 0
LeadsTo text (Ok reached) = (script : Script) × ((parsed text ≡ Ok (said_by script)) × (reached_by script ≡ Ok reached))
LeadsTo text (Err NoMemory) = TakesMemory text
LeadsTo text (Err fault) = (parsed text ≡ Err fault)
    ⊎ ((script : Script) × ((parsed text ≡ Ok (said_by script)) × (reached_by script ≡ Err fault)))

-- the report of the state after the whole script, and nothing else
abbrev pub WritesReport : List ℕ → Option (List ℕ) → Option (List ℕ) → Type 0
WritesReport text old new = (reached : Reached) × (LeadsTo text (Ok reached) × Appends old new (reached_report reached))

-- the line of the script's first fault, or that memory ran out for it, and nothing else
abbrev pub AnswersFault : List ℕ → Option (List ℕ) → Option (List ℕ) → Type 0
AnswersFault text old new = (fault : Fault) × (LeadsTo text (Err fault) × Appends old new (error_line fault))

-- as `AnswersFault`; or memory ran out before the script, which has at least a byte, was read
abbrev pub WritesFault : List ℕ → Option (List ℕ) → Option (List ℕ) → Type 0
WritesFault text old new = AnswersFault text old new ⊎ ((text ≢ []) × Appends old new (error_line NoMemory))

-- the two laws, of the script of one direction that a text stands for
abbrev pub EveryByte : List ℕ → Type 0
EveryByte text = (plan : FlowPlan) → parsed text ≡ Ok (FlowOf plan) → FlowKeepsBytes plan

abbrev pub EveryEnd : List ℕ → Type 0
EveryEnd text = (plan : FlowPlan) → parsed text ≡ Ok (FlowOf plan) → KeepsEnd plan

-- what holds after a run of these events: the headline, and what it depends on
pub record RunHolds (l : Limits) (events : List Event) (st : State) : Type 0 where
  pub headline : HeadlineHolds l events st
  pub support : SupportHolds st

abbrev pub EveryRunIsSound : Type 0
EveryRunIsSound = (l : Limits) (events : List Event) (st : State) → run (opening l) events ≡ Some st → RunHolds l events st

-- what holds after the run of the script of a world that a text stands for
abbrev pub EveryRun : List ℕ → Type 0
EveryRun text = (plan : WorldPlan) (st : State) → parsed text ≡ Ok (said_by (script.World plan)) → world_of plan ≡ Ok st
    → RunHolds plan.limits (events_in plan.events) st
