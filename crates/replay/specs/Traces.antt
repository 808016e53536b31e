-- What records and runs of the machine have in common: openings, turns, calls with their answers, turns that end quiet,
-- and closings. What else a run has, nobody recorded.
use Rattle.std.specs.{Prelude.{◌≡◌, ◌⊎◌, ◌+◌, ◌==◌, ◌&&◌, ℕ, Bool, true, false, if◌then◌else◌, List, [], ◌∷◌, ◌++◌, length, All, Option, Some, None, IsSome, slice_get}, Option.is_none}
use Rattle.token.specs.{Names.EndName, declared.{side.Side.{Side, TheVariants.{Client, Target}}}}
use Rattle.kernel_model.specs.declared.reply.Reply.{Reply}
use Rattle.relay_core.specs.{Order.{next_call, offer}, Pairs.PairState, declared.call.Call.{Call, TheVariants.{Write, Join, Shut, Read}}}
use Rattle.world.specs.{States.{State, opening}, Slots.SlotState, Steps.{step, connection_at, is_worn}, Runs.run, declared.{connection.Connection.Connection, limits.Limits.Limits, event.Event.Event}}
use Rattle.record_lines.specs.declared.{act.{Act.Act, Made.Made, Opening.TheVariants.Opened as IsOpened, Answer.Answer}, header.Header.Header}
use Rattle.record_reader.specs.declared.recording.Numbered.{Numbered}
use Rattle.replay.specs.declared.action.Action.{Action, TheVariants.{Opened, Began, Called, Quiet, Closed}}
use Rattle.kernel_model.specs.declared.reply.Reply.TheVariants as reply
use Rattle.world.specs.declared.event.Event.TheVariants as event
use Rattle.world.specs.declared.event.Polling.TheVariants as poll
use Rattle.world.specs.declared.event.Act.TheVariants as work
use Rattle.record_lines.specs.declared.act.Act.TheVariants as act
use Rattle.record_lines.specs.declared.act.Made.TheVariants as made
use Rattle.record_lines.specs.declared.act.Polling.TheVariants as polling
use Rattle.record_lines.specs.declared.act.Answer.TheVariants as answer

-- A record

-- what was done with an end. Both ends are dropped: the second drop closes the connection
abbrev pub action_of_wire : Bool → EndName → Made → Option Action
action_of_wire second n (made.Read most answer) = Some (Called n.generation (Read n.side most) 0 answer)
action_of_wire second n (made.Write length answer) = Some (Called n.generation (Write n.side) length answer)
action_of_wire second n (made.Join answer) = Some (Called n.generation (Join n.side) 0 answer)
action_of_wire second n (made.Shut answer) = Some (Called n.generation (Shut n.side) 0 answer)
action_of_wire second n made.Settle = Some (Quiet n.generation)
action_of_wire true n made.Drop = Some (Closed n.generation)
action_of_wire false n made.Drop = None

abbrev pub are_both : Side → Side → Bool
are_both Client Target = true
are_both Target Client = true
are_both a b = false

-- the act before dropped the other end of this connection
abbrev pub drops_other : Act → EndName → Bool
drops_other (act.Wire m made.Drop) n = m.generation == n.generation && are_both m.side n.side
drops_other last n = false

-- the action of a record, by the act before it
abbrev pub action_of : Act → Act → Option Action
action_of last (act.Poller number (polling.Open slot generation IsOpened)) = Some (Opened generation)
action_of last (act.Begin slot) = Some Began
action_of last (act.Wire n made) = action_of_wire (drops_other last n) n made
action_of last act = None

abbrev pub and_actions : Option Action → List Action → List Action
and_actions (Some action) more = action ∷ more
and_actions None more = more

abbrev pub trace_after : Act → List Numbered → List Action
trace_after last [] = []
trace_after last (r ∷ records) = and_actions (action_of last r.record.act) (trace_after r.record.act records)

-- the actions of records, of which the first follows no drop
abbrev pub trace_of_records : List Numbered → List Action
trace_of_records records = trace_after act.Ended records

-- A run

-- how a reply stands in the record of its call
abbrev pub answer_of : Reply → Answer
answer_of (reply.Bytes n) = answer.Moved n
answer_of reply.End = answer.End
answer_of (reply.Wrote n full) = answer.Moved n
answer_of reply.Joined = answer.Joined
answer_of reply.Shut = answer.Shut
answer_of reply.Blocked = answer.Blocked
answer_of reply.Interrupted = answer.Interrupted
answer_of (reply.Failed kind) = answer.Failed kind

-- how many bytes a call offers
abbrev pub offered : PairState → Call → ℕ
offered pair (Write side) = length (offer pair side)
offered pair call = 0

-- the connection's next call gets this reply
abbrev pub action_of_call : PairState → Option Call → Reply → Option Action
action_of_call pair (Some call) r = Some (Called pair.generation call (offered pair call) (answer_of r))
action_of_call pair None r = None

-- a slot is released: its turn has ended quiet if no call is left
abbrev pub action_of_release : PairState → Option Action
action_of_release pair = if is_none (next_call pair) then Some (Quiet pair.generation) else None

abbrev pub of_pair : Option Connection → (PairState → Option Action) → Option Action
of_pair (Some c) action = action c.pair
of_pair None action = None

abbrev pub opened_next : Option SlotState → Option Action
opened_next (Some place) = if is_worn place.generation then None else Some (Opened (place.generation + 1))
opened_next None = None

-- the action of an event in this state, at the first slot
abbrev pub action_in : State → Event → Option Action
action_in st (event.Poll poll.Open) = opened_next (slice_get st.slots 0)
action_in st (event.Work w work.Claim) = Some Began
action_in st (event.Work w (work.Call r)) = of_pair (connection_at st 0) (λ pair. action_of_call pair (next_call pair) r)
action_in st (event.Work w work.Release) = of_pair (connection_at st 0) action_of_release
action_in st (event.Work w work.Close) = of_pair (connection_at st 0) (λ pair. Some (Closed pair.generation))
action_in st e = None

abbrev pub trace_next : Option State → (State → List Action) → List Action
trace_next (Some st) f = f st
trace_next None f = []

-- the actions of the events of a run
abbrev pub trace_of_run : State → List Event → List Action
trace_of_run st [] = []
trace_of_run st (e ∷ events) = and_actions (action_in st e) (trace_next (step st e) (λ q. trace_of_run q events))

-- What a recording shows

-- a machine of one slot has the sizes of this relay
pub record HasSizes (header : Header) (limits : Limits) : Type 0 where
  pub slots : limits.slots ≡ 1
  pub workers : limits.workers ≡ 1
  pub ring : limits.ring ≡ header.ring
  pub budget : limits.budget ≡ header.budget
  pub idle : limits.idle ≡ header.idle

-- a connection was opened at most, and closed: no turn was made
abbrev pub HasNoTurn : List Action → Type 0
HasNoTurn [] = Unit {0}
HasNoTurn (Opened g ∷ []) = Unit {0}
HasNoTurn (Opened g ∷ Closed h ∷ []) = g ≡ h
HasNoTurn trace = ⊥

-- the run has the actions of the records; or, if a wait for reports has failed, all but the closing at the end
abbrev pub MayClose : Option ℕ → List Action → List Action → Type 0
MayClose failed run records = (run ≡ records) ⊎ (IsSome failed × ((g : ℕ) × (run ++ Closed g ∷ [] ≡ records)))

-- these records are those of one run of the machine
pub record IsOneRun (header : Header) (failed : Option ℕ) (records : List Numbered) : Type 0 where
  pub limits : Limits
  pub events : List Event
  pub sizes : HasSizes header limits
  pub runs : IsSome (run (opening limits) events)
  pub trace : MayClose failed (trace_of_run (opening limits) events) (trace_of_records records)

abbrev pub IsConnection : Header → Option ℕ → List Numbered → Type 0
IsConnection header failed records = HasNoTurn (trace_of_records records) ⊎ IsOneRun header failed records

abbrev pub joined_acts : List (List Numbered) → List Numbered
joined_acts [] = []
joined_acts (records ∷ more) = records ++ joined_acts more

-- the records of a slot are those of its connections, one after the other. Each connection is a run of the machine, or
-- had no turn
pub record AreRuns (header : Header) (failed : Option ℕ) (records : List Numbered) : Type 0 where
  pub connections : List (List Numbered)
  pub all : joined_acts connections ≡ records
  pub each : All (IsConnection header failed) connections

-- What is kept of a machine on which records are played.

-- the limits of a world, the events that happened in it, in order, the world after them, and their actions
pub record HistoryState : Type 0 where
  pub limits : Limits
  pub events : List Event
  pub world : State
  pub trace : List Action

-- the events, one after the other, lead from the opening world to this world, and have these actions
pub record IsHistory (h : HistoryState) : Type 0 where
  pub runs : run (opening h.limits) h.events ≡ Some h.world
  pub trace : trace_of_run (opening h.limits) h.events ≡ h.trace
