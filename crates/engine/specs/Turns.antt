-- What a turn does, as the pair's run over the answers of two wires.
use Rattle.std.specs.{Prelude.{◌≡◌, ℕ, ◌+◌, ◌≤◌, Bool, true, false, ◌&&◌, if◌then◌else◌, List, [], ◌∷◌, ◌++◌, length, OnSome, unwrap_or, option_map, Option, Some, None}, declared.io.ErrorKind.ErrorKind, Io.KnownBytes.{Consumes, Appends}}
use Rattle.relay_core.specs.{declared.{Side.{Side, TheVariants.{Client, Target}}, Direction.Direction, Kind.{Kind, TheVariants.Zero}, call.Call.Call, verdict.{Fault.{Fault, TheVariants.{Broken, Idle}}, Verdict.Verdict}}, Calls.{side_of, direction_of}, Pairs.{PairState, verdict}, Order.{next_call, offer}, Replies.{AnswerValue, Bytes, End, Wrote, Joined, Shut, Blocked, Interrupted, Failed}, Runs.{answered, over, all_brought, all_carried}, Idle.expired, Laws.IsOverdue}
use Rattle.engine.specs.{Classes.kind_of_error, Wires.{Asked, Given, Brought, Took, Done, Refused, WireView, Rises}, declared.outcome.Turn.Turn}
use Rattle.relay_core.specs.declared.call.Call.TheVariants as call
use Rattle.relay_core.specs.declared.verdict.Verdict.TheVariants as verdict
use Rattle.engine.specs.Wires as ask
use Rattle.engine.specs.declared.outcome.Turn.TheVariants as turn

-- Done or Failed if the verdict is; for a live pair Again if there is a next call, else Quiet
abbrev pub outcome : Verdict → Option Call → Turn
outcome verdict.Done next = turn.Done
outcome (verdict.Failed fault) next = turn.Failed
outcome verdict.Live (Some call) = turn.Again
outcome verdict.Live None = turn.Quiet

-- what a turn answers that leaves this pair
abbrev pub outcome_of : PairState → Turn
outcome_of p = outcome (verdict p) (next_call p)

-- the direction that reads on a side serve (`way_from`), and the direction that writes on it serve (`way_to`)
abbrev pub way_from : Side → Direction
way_from side = direction_of (call.Read side 1)

abbrev pub way_to : Side → Direction
way_to side = direction_of (call.Write side)

abbrev pub is_failed : AnswerValue → Bool
is_failed (Failed kind) = true
is_failed reply = false

abbrev pub is_blocked : AnswerValue → Bool
is_blocked Blocked = true
is_blocked reply = false

abbrev pub same_side : Side → Side → Bool
same_side Client Client = true
same_side Client Target = false
same_side Target Client = false
same_side Target Target = true

abbrev pub one_if : (AnswerValue → Bool) → Side → Call → AnswerValue → ℕ
one_if test side call reply = if same_side (side_of call) side && test reply then 1 else 0

-- how many answers of a list at one second pass a test and are to calls on one side
abbrev pub count_on : (AnswerValue → Bool) → Side → ℕ → PairState → List AnswerValue → ℕ
count_on test side now p [] = 0
count_on test side now p (reply ∷ replies) =
    unwrap_or (option_map (λ (call : Call). one_if test side call reply) (next_call p)) 0
    + unwrap_or (option_map (λ (q : PairState). count_on test side now q replies) (answered now p reply)) 0

-- what a call asks of its wire: a write offers all that the pair offers its side
abbrev pub asked : PairState → Call → Asked
asked p (call.Read side most) = ask.Read most
asked p (call.Write side) = ask.Write (offer p side)
asked p (call.Join side) = ask.Join
asked p (call.Shut side) = ask.Shut

-- a call that was made, and the answer that the pair got
pub record MadeCall : Type 0 where
  pub asked : Asked
  pub reply : AnswerValue

abbrev pub made : Asked → AnswerValue → MadeCall
made asked reply = record { asked = asked; reply = reply }

abbrev pub made_if : Side → PairState → Call → AnswerValue → List MadeCall
made_if side p call reply = if same_side (side_of call) side then made (asked p call) reply ∷ [] else []

-- the calls on one side, with their answers, over a list of answers at one second
abbrev pub made_on : Side → ℕ → PairState → List AnswerValue → List MadeCall
made_on side now p [] = []
made_on side now p (reply ∷ replies) =
    unwrap_or (option_map (λ (call : Call). made_if side p call reply) (next_call p)) []
    ++ unwrap_or (option_map (λ (q : PairState). made_on side now q replies) (answered now p reply)) []

abbrev pub IsFailure : Given → Kind → Type 0
IsFailure (Took n) kind = (n ≡ 0) × (kind ≡ Zero)
IsFailure (Refused error) kind = kind ≡ kind_of_error error
IsFailure given kind = ⊥

-- the pair's answer says what the call gave; which of three answers an error becomes shows in the count that rose (`IsMade`)
abbrev pub IsAnsweredBy : Given → AnswerValue → Type 0
IsAnsweredBy given (Bytes bytes) = given ≡ Brought bytes
IsAnsweredBy given End = given ≡ Brought []
IsAnsweredBy given (Wrote n) = given ≡ Took n
IsAnsweredBy given Joined = given ≡ Done
IsAnsweredBy given Shut = given ≡ Done
IsAnsweredBy given Blocked = (error : ErrorKind) × (given ≡ Refused error)
IsAnsweredBy given Interrupted = (error : ErrorKind) × (given ≡ Refused error)
IsAnsweredBy given (Failed kind) = IsFailure given kind

-- one call was made on a wire: what it gave became the answer, and it did what the wire specifies
pub record IsCalled {S : Type 0} (does : Asked → Given → S → S → Type 0) (call : MadeCall) (old new : S) : Type 0 where
  pub given : Given
  pub told : IsAnsweredBy given call.reply
  pub did : does call.asked given old new

-- such a call, and the wire counted its answer if that is a fault or "would block"
pub record IsMade {S : Type 0} (told : S → WireView) (does : Asked → Given → S → S → Type 0) (call : MadeCall) (old new : S) : Type 0 where
  pub called : IsCalled does call old new
  pub faults : Rises (told old).faults (told new).faults (if is_failed call.reply then 1 else 0)
  pub blocks : Rises (told old).blocks (told new).blocks (if is_blocked call.reply then 1 else 0)

-- exactly these calls were made, in order and each once
abbrev pub AreCalled : {S : Type 0} → (S → WireView) → (Asked → Given → S → S → Type 0) → List MadeCall → S → S → Type 0
AreCalled told does [] old new = new ≡ old
AreCalled {S} told does (call ∷ calls) old new = (between : S) × IsMade told does call old between × AreCalled told does calls between new

-- what a list of answers did to the wire on one side: bytes that came in were read from it, bytes that went out were
-- written to it, it counted each fault and each "would block", and the calls on its side were made on it
pub record IsServed {S : Type 0} (told : S → WireView) (does : Asked → Given → S → S → Type 0) (now : ℕ) (old new : S) (side : Side)
    (p : PairState) (replies : List AnswerValue) : Type 0 where
  pub read : Consumes (told old).remaining (told new).remaining (all_brought now p (way_from side) replies)
  pub written : Appends (told old).written (told new).written (all_carried now p (way_to side) replies)
  pub faults : Rises (told old).faults (told new).faults (count_on is_failed side now p replies)
  pub blocks : Rises (told old).blocks (told new).blocks (count_on is_blocked side now p replies)
  pub made : AreCalled told does (made_on side now p replies) old new

-- why a turn fails a live pair: its last answer is a failed call, or after that answer the pair is overdue
abbrev pub FailsBy : ℕ → ℕ → PairState → List AnswerValue → Fault → Type 0
FailsBy now limit ran replies (Broken side call kind) = (front : List AnswerValue) × (replies ≡ front ++ Failed kind ∷ [])
FailsBy now limit ran replies Idle = IsOverdue now limit ran

-- a turn of at most `budget` calls: the pair ran over a list of answers, all at the second `now`, and each wire served
-- its side, as `client` and `target` say. Then the pair fails if it is overdue. The list is shorter than the budget only
-- if there is no next call at the end
pub record IsTurn (budget now limit : ℕ) (old new : PairState) (client target : Side → PairState → List AnswerValue → Type 0) : Type 0 where
  pub replies : List AnswerValue
  pub few : length replies ≤ budget
  pub ran : PairState
  pub run : over now old replies ≡ Some ran
  pub held : new ≡ expired now limit ran
  pub whole : OnSome (next_call new) (length replies ≡ budget)
  pub fails : (fault : Fault) → verdict old ≡ verdict.Live → verdict new ≡ verdict.Failed fault → FailsBy now limit ran replies fault
  pub by_client : client Client old replies
  pub by_target : target Target old replies
