-- What is put into a recording: what a call is recorded as, and which steps that takes.
use Rattle.std.specs.{Prelude.{ℕ, Bool, true, false, ◌==◌, if◌then◌else◌, List, [], ◌∷◌, ◌++◌, length, Option, Some, None, Result, Ok, Err, ◌≡◌}, declared.io.{Error.Error, ErrorKind.{ErrorKind, TheVariants.Interrupted}}, IoError.error_kind}
use Rattle.token.specs.{Names.EndName, Numbers.name_of, declared.{name.Name.Name, side.Side.{Side, TheVariants.{Client, Target}}}}
use Rattle.engine.specs.{Wires.{Asked, Given, Brought, Took, Done, Refused, WireView}, Classes.kind_of_error}
use Rattle.shared.specs.{declared.front.{Unaccepted.Unaccepted, Unopened.Unopened}, Told.unaccepted_of}
use Rattle.record_lines.specs.declared.act.{Accepted.{Accepted, TheVariants.{Taken, Again, Blocked, Starved}}, Act.{Act, TheVariants.{Poller, Wire}}, Answer.Answer, Made.Made, Opening.Opening, Polling.Polling, Record.Record}
use Rattle.relay_core.specs.declared.Kind.TheVariants as kind
use Rattle.engine.specs.Wires as ask
use Rattle.shared.specs.declared.front.Unaccepted.TheVariants as unaccepted
use Rattle.shared.specs.declared.front.Unopened.TheVariants as unopened
use Rattle.record_lines.specs.declared.act.Answer.TheVariants as answer
use Rattle.record_lines.specs.declared.act.Made.TheVariants as made
use Rattle.record_lines.specs.declared.act.Opening.TheVariants as opening
use Rattle.record_lines.specs.declared.act.Polling.TheVariants as polling

-- an error of accept(2), by what it means to a poller
abbrev pub not_accepted : Unaccepted → Accepted
not_accepted unaccepted.Again = Again
not_accepted unaccepted.Blocked = Blocked
not_accepted unaccepted.Starved = Starved

abbrev pub accepted : {T : Type 0} → Result T Error → Accepted
accepted (Ok client) = Taken
accepted (Err error) = not_accepted (unaccepted_of (error_kind error))

abbrev pub opened : {T : Type 0} → Result T Unopened → Opening
opened (Ok target) = opening.Opened
opened (Err unopened.Connect) = opening.Connect
opened (Err unopened.Register) = opening.Register

-- a number of a wait for reports is recorded if it is a name
abbrev pub report : ℕ → Option Name → List Act
report poller (Some name) = Poller poller (polling.Reported name) ∷ []
report poller None = []

abbrev pub each_report : ℕ → List ℕ → List Act
each_report poller [] = []
each_report poller (number ∷ numbers) = report poller (name_of number) ++ each_report poller numbers

abbrev pub with_time : ℕ → Option ℕ → List Act → List Act
with_time poller (Some micros) acts = Poller poller (polling.Time micros) ∷ acts
with_time poller None acts = acts

-- a wait that gave these numbers, and its time, if it was read
abbrev pub reports : ℕ → Option ℕ → List ℕ → List Act
reports poller time numbers = Poller poller (polling.Gave (length numbers)) ∷ with_time poller time (each_report poller numbers)

abbrev pub not_waited : ErrorKind → Polling
not_waited Interrupted = polling.Interrupted
not_waited error = polling.Failed

-- an error of a wire, by the count of the wire that has risen
abbrev pub refused : WireView → WireView → ErrorKind → Answer
refused old new error =
    if new.faults == old.faults then (if new.blocks == old.blocks then answer.Interrupted else answer.Blocked)
    else answer.Failed (kind_of_error error)

-- what a wire answered: a read of no bytes is the end, and a write of none is a failure
abbrev pub answer_of_wire : WireView → WireView → Asked → Given → Answer
answer_of_wire old new asked (Refused error) = refused old new error
answer_of_wire old new asked (Brought bytes) = if length bytes == 0 then answer.End else answer.Moved (length bytes)
answer_of_wire old new asked (Took n) = if n == 0 then answer.Failed kind.Zero else answer.Moved n
answer_of_wire old new ask.Join Done = answer.Joined
answer_of_wire old new asked Done = answer.Shut

-- a call of a wire, and its answer
abbrev pub made_of : Asked → Answer → Made
made_of (ask.Read most) answer = made.Read most answer
made_of (ask.Write offer) answer = made.Write (length offer) answer
made_of ask.Join answer = made.Join answer
made_of ask.Shut answer = made.Shut answer

-- the wire of this end was dropped
abbrev pub wire_dropped : EndName → Act
wire_dropped name = Wire name made.Drop

abbrev pub drops : Act → Bool
drops (Wire name made.Drop) = true
drops act = false

-- a step on a thread's handle `S` of the recording. Began: the count before an act, None if nothing is recorded
-- now. Timed: the microseconds since the recording began. Ended: the count after the act. AtOnce: both counts, taken in one
-- step. Put: a record was put. Another: a new handle. `did` is what a step makes of `S`
pub data Step : Type 0 where
  Began : Option ℕ → Step
  Timed : ℕ → Step
  Ended : ℕ → Step
  AtOnce : Option (ℕ × ℕ) → Step
  Put : Record → Step
  Another : Step

module _ {S : Type 0} (did : Step → S → S → Type 0) where
  -- these acts and nothing else were put, in order, with these counts
  abbrev pub PutsActs : ℕ → ℕ → List Act → S → S → Type 0
  PutsActs before after [] old new = new ≡ old
  PutsActs before after (act ∷ acts) old new =
      (put : S) × did (Put (record { before = before; after = after; act = act })) old put × PutsActs before after acts put new

  -- these acts were put with this count and one that was taken after them; without this count nothing was done
  abbrev pub EndsActs : Option ℕ → List Act → S → S → Type 0
  EndsActs None acts old new = new ≡ old
  EndsActs (Some before) acts old new = (after : ℕ) × (ended : S) × did (Ended after) old ended × PutsActs before after acts ended new

  -- a count was taken, and then these acts were put, if anything is recorded now
  abbrev pub Records : List Act → S → S → Type 0
  Records acts old new = (before : Option ℕ) × (begun : S) × did (Began before) old begun × EndsActs before acts begun new

  -- the time was read if a wait gave anything
  abbrev pub ReadsTime : List ℕ → Option ℕ → S → S → Type 0
  ReadsTime [] time old new = (time ≡ None) × (new ≡ old)
  ReadsTime (number ∷ numbers) time old new = (micros : ℕ) × (time ≡ Some micros) × did (Timed micros) old new

  module _ (poller : ℕ) where
    -- a wait gave these numbers: its time was read, if it gave any, before the count after it, and then it was put, with its
    -- time and its reports; without the count before it nothing was done
    abbrev pub EndsWait : Option ℕ → List ℕ → S → S → Type 0
    EndsWait None numbers old new = new ≡ old
    EndsWait (Some before) numbers old new =
        (time : Option ℕ) × (read : S) × ReadsTime numbers time old read × EndsActs (Some before) (reports poller time numbers) read new

    -- a wait for reports had this result, and left these numbers in the batch
    abbrev pub EndsPoll : {T : Type 0} → Option ℕ → Result T Error → List ℕ → S → S → Type 0
    EndsPoll before (Ok done) numbers old new = EndsWait before numbers old new
    EndsPoll before (Err error) numbers old new = EndsActs before (Poller poller (not_waited (error_kind error)) ∷ []) old new

    abbrev pub RecordsPoll : {T : Type 0} → Result T Error → List ℕ → S → S → Type 0
    RecordsPoll result numbers old new =
        (before : Option ℕ) × (begun : S) × did (Began before) old begun × EndsPoll before result numbers begun new

  -- an act was put with two counts that were taken in one step
  abbrev pub PutsAtOnce : Option (ℕ × ℕ) → Act → S → S → Type 0
  PutsAtOnce None act old new = new ≡ old
  PutsAtOnce (Some counts) act old new = did (Put (record { before = counts.0; after = counts.1; act = act })) old new

  abbrev pub RecordsAtOnce : Act → S → S → Type 0
  RecordsAtOnce act old new = (counts : Option (ℕ × ℕ)) × (at : S) × did (AtOnce counts) old at × PutsAtOnce counts act at new

  -- this was done by another handle
  abbrev pub Beside : (S → S → Type 0) → S → Type 0
  Beside done sink = (other : S) × (new : S) × did Another sink other × done other new

  -- an act at an end begins; a count is taken only if the end has a name
  abbrev pub BegunBy : Option EndName → Option ℕ → S → S → Type 0
  BegunBy None before old new = (before ≡ None) × (new ≡ old)
  BegunBy (Some name) before old new = did (Began before) old new

  -- the act at an end has ended
  abbrev pub EndedBy : Option EndName → Option ℕ → Made → S → S → Type 0
  EndedBy None before made old new = new ≡ old
  EndedBy (Some name) before made old new = EndsActs before (Wire name made ∷ []) old new

  -- this was recorded of a wire; nothing, if its end has no name yet
  abbrev pub WireRecords : Option EndName → Made → S → S → Type 0
  WireRecords None made old new = new ≡ old
  WireRecords (Some name) made old new = Records (Wire name made ∷ []) old new

  -- that a wire settled is recorded of the target's alone
  abbrev pub SettledAt : EndName → Side → S → S → Type 0
  SettledAt name Client old new = new ≡ old
  SettledAt name Target old new = RecordsAtOnce (Wire name made.Settle) old new

  abbrev pub SettledOf : Option EndName → S → S → Type 0
  SettledOf None old new = new ≡ old
  SettledOf (Some name) old new = SettledAt name name.side old new
