-- What one call of a turn does. Only for proofs.
use Rattle.std.specs.{Prelude.{◌≡◌, ℕ, true, if◌then◌else◌, List, [], ◌∷◌, Some}, Io.KnownBytes.{Consumes, Appends}}
use Rattle.relay_core.specs.{declared.{Side.{Side, TheVariants.{Client, Target}}, Kind.Kind, call.Call.Call}, Calls.side_of, Pairs.PairState, Replies.{AnswerValue, Blocked, Interrupted, Failed, fits, after}, Runs.{answered, brought, carried}}
use Rattle.engine.specs.{Wires.{Asked, Given, WireView, Rises}, Turns.{asked, made, is_failed, is_blocked, way_from, way_to, IsCalled}}

-- what an error can become: Blocked, Interrupted, or Failed of this kind
abbrev pub IsErrorReply : Kind → AnswerValue → Type 0
IsErrorReply kind Blocked = Unit {0}
IsErrorReply kind Interrupted = Unit {0}
IsErrorReply kind (Failed other) = other ≡ kind
IsErrorReply kind reply = ⊥

-- what a call with this answer did to its wire
pub record IsAnswered {S : Type 0} (told : S → WireView) (does : Asked → Given → S → S → Type 0) (call : Call) (p : PairState)
    (reply : AnswerValue) (old new : S) : Type 0 where
  pub read : Consumes (told old).remaining (told new).remaining (brought (way_from (side_of call)) call reply)
  pub written : Appends (told old).written (told new).written (carried p (way_to (side_of call)) call reply)
  pub faults : Rises (told old).faults (told new).faults (if is_failed reply then 1 else 0)
  pub blocks : Rises (told old).blocks (told new).blocks (if is_blocked reply then 1 else 0)
  pub made : IsCalled does (made (asked p call) reply) old new

-- a call was made at the second `now`, and the pair has its answer
pub record IsStep {S : Type 0} (told : S → WireView) (does : Asked → Given → S → S → Type 0) (call : Call) (now : ℕ) (old new : PairState)
    (wire wire_now : S) : Type 0 where
  pub reply : AnswerValue
  pub fit : fits old call reply ≡ true
  pub run : new ≡ after now old call reply
  pub served : IsAnswered told does call old reply wire wire_now

-- an error became this answer, by what the wire counted
pub record IsError (kind : Kind) (reply : AnswerValue) (faults faults_now blocks blocks_now : ℕ) : Type 0 where
  pub sort : IsErrorReply kind reply
  pub failed : Rises faults faults_now (if is_failed reply then 1 else 0)
  pub waited : Rises blocks blocks_now (if is_blocked reply then 1 else 0)

-- the next call of a pair was made on the wire of its side, and the pair has its answer
pub record IsMove (now : ℕ) (old new : PairState) (client target : Side → PairState → List AnswerValue → Type 0) : Type 0 where
  pub reply : AnswerValue
  pub run : answered now old reply ≡ Some new
  pub by_client : client Client old (reply ∷ [])
  pub by_target : target Target old (reply ∷ [])
