-- The laws of every pair.
use Rattle.std.specs.Prelude.{◌≡◌, ◌↔◌, ℕ, ◌-◌, ◌≤◌, ◌⊎◌, true, false, List, [], ◌++◌, length, map, Some, None}
use Rattle.token.specs.{declared.{direction.Direction.Direction, kind.Kind.Kind}, Sides.{source, destination, inward, outward}}
use Rattle.flow.specs.Stream.{Stream, free_room, waiting}
use Rattle.relay_core.specs.{declared.{call.Call.{Call, TheVariants.{Write, Join, Shut, Read}}, verdict.Fault.{Fault, TheVariants.{Broken, Idle}}}, Calls.{side_of, kind_of, direction_of}, Pairs.{PairState, ready, fresh, stream_of, flags_of, is_joined, noted, verdict}, Order.{next_call, offer}, Replies.{AnswerValue, End, Failed, fits, after}, Runs.{answered, over, brought, carried, all_brought, all_carried, Event, Answered, through, ever_brought, ever_carried}, Idle.{is_overdue, expired}}
use Rattle.relay_core.specs.declared.verdict.Verdict.TheVariants as Verdict

-- the end of input was seen, every byte has left, and the end is still to be passed on
pub record IsDrained (stream : Stream) : Type 0 where
  pub ended : stream.end_seen ≡ true
  pub empty : waiting stream ≡ []
  pub kept : stream.shut ≡ false

-- a read asks for 1 to 16,384 bytes, the ring has room for them, and no end of input was seen
pub record HasRoomFor (stream : Stream) (most : ℕ) : Type 0 where
  pub some : 1 ≤ most
  pub limited : most ≤ 16384
  pub room : most ≤ free_room stream
  pub open_end : stream.end_seen ≡ false

-- the pair's streams, and what it knows of the connect, allow the call
abbrev pub IsPossible : PairState → Call → Type 0
IsPossible p (Write side) = 1 ≤ length (offer p side)
IsPossible p (Join side) = IsDrained (stream_of p (inward side)) × (is_joined p side ≡ false)
IsPossible p (Shut side) = IsDrained (stream_of p (inward side)) × (is_joined p side ≡ true)
IsPossible p (Read side most) = HasRoomFor (stream_of p (outward side)) most

-- if the end of input was passed on, the end was seen, so no byte can come, and no byte waits
pub record IsClosedLast (stream : Stream) : Type 0 where
  pub ended : stream.shut ≡ true → stream.end_seen ≡ true
  pub empty : stream.shut ≡ true → waiting stream ≡ []

-- in one direction: the end of input is passed on only after every byte, and for good
pub record PassesEndLast (old new : Stream) : Type 0 where
  pub last : new.shut ≡ true → (old.shut ≡ true) ⊎ IsDrained old
  pub for_good : old.shut ≡ true → new.shut ≡ true
  pub closed_last : IsClosedLast old → IsClosedLast new

abbrev pub KeepsOrder : PairState → Call → AnswerValue → PairState → Type 0
KeepsOrder old call reply new =
    (d : Direction) → waiting (stream_of old d) ++ brought d call reply ≡ carried old d call reply ++ waiting (stream_of new d)

-- the call failed, and the fault names this call and how it failed
pub record TellsOf (made : Call) (reply : AnswerValue) (fault : Fault) : Type 0 where
  pub kind : Kind
  pub failed : reply ≡ Failed kind
  pub told : fault ≡ Broken (side_of made) (kind_of made) kind

-- the answer fits the call that comes next
pub record AnswersNext (p : PairState) (call : Call) (reply : AnswerValue) : Type 0 where
  pub next : next_call p ≡ Some call
  pub fit : fits p call reply ≡ true

-- in each direction an end of input that was passed on came after every byte
abbrev pub KeepsEndLast : PairState → Type 0
KeepsEndLast p = (d : Direction) → IsClosedLast (stream_of p d)

-- what never changes while a connection is open
pub record Place : Type 0 where
  pub slot : ℕ
  pub generation : ℕ
  pub up_capacity : ℕ
  pub down_capacity : ℕ

abbrev pub pair_place : PairState → Place
pair_place p = record { slot = p.slot; generation = p.generation; up_capacity = p.up.capacity; down_capacity = p.down.capacity }

-- no call that serves this direction is possible and worth trying
pub record IsAtRest (p : PairState) (d : Direction) : Type 0 where
  pub waits : 1 ≤ length (waiting (stream_of p d)) → (flags_of p (destination d)).write ≡ false
  pub unjoined : IsDrained (stream_of p d) → is_joined p (destination d) ≡ false
  pub unasked : IsDrained (stream_of p d) → (flags_of p (destination d)).write ≡ false
  pub unread : (stream_of p d).end_seen ≡ false → 1 ≤ free_room (stream_of p d) → (flags_of p (source d)).read ≡ false

pub record IsOverdue (now limit : ℕ) (p : PairState) : Type 0 where
  pub live : verdict p ≡ Verdict.Live
  pub quiet : next_call p ≡ None
  pub limited : 1 ≤ limit
  pub before : p.moved ≤ now
  pub long : limit ≤ now - p.moved

abbrev pub AnswersKeepOrder : Type 0
AnswersKeepOrder = (now : ℕ) (p : PairState) (call : Call) (reply : AnswerValue) → KeepsOrder p call reply (after now p call reply)

abbrev pub AnswersPassEndLast : Type 0
AnswersPassEndLast =
    (now : ℕ) (p : PairState) (call : Call) (reply : AnswerValue) → AnswersNext p call reply →
    (d : Direction) → PassesEndLast (stream_of p d) (stream_of (after now p call reply) d)

-- a direction's end is seen after an answer if it was before, or if the answer is End and its call serves the direction
abbrev pub OnlyEndsAreSeen : Type 0
OnlyEndsAreSeen =
    (now : ℕ) (p : PairState) (call : Call) (reply : AnswerValue) (d : Direction) →
    ((stream_of (after now p call reply) d).end_seen ≡ true)
    ↔ (((stream_of p d).end_seen ≡ true) ⊎ ((direction_of call ≡ d) × (reply ≡ End)))

abbrev pub AnswersKeepPlace : Type 0
AnswersKeepPlace = (now : ℕ) (p : PairState) (call : Call) (reply : AnswerValue) → pair_place (after now p call reply) ≡ pair_place p

-- an answer fails a pair only if the call failed, and the fault names that call
abbrev pub FailuresAreTold : Type 0
FailuresAreTold =
    (now : ℕ) (p : PairState) (call : Call) (reply : AnswerValue) (fault : Fault) → AnswersNext p call reply →
    (verdict (after now p call reply) ≡ Verdict.Failed fault) ↔ TellsOf call reply fault

-- p has a next call, the answer fits it, and q is p after that
pub record IsAnswerOf (now : ℕ) (p : PairState) (reply : AnswerValue) (q : PairState) : Type 0 where
  pub call : Call
  pub answers : AnswersNext p call reply
  pub after_it : q ≡ after now p call reply

abbrev pub AnswersAreToNextCalls : Type 0
AnswersAreToNextCalls = (now : ℕ) (p q : PairState) (reply : AnswerValue) → answered now p reply ≡ Some q → IsAnswerOf now p reply q

abbrev pub CallsComeWhileLive : Type 0
CallsComeWhileLive = (p : PairState) (call : Call) → next_call p ≡ Some call → verdict p ≡ Verdict.Live

abbrev pub LivePairsRest : Type 0
LivePairsRest = (p : PairState) → verdict p ≡ Verdict.Live → next_call p ≡ None → (d : Direction) → IsAtRest p d

abbrev pub ReportsSetFlags : Type 0
ReportsSetFlags = (p : PairState) → noted p ≡ record p { client = ready; target = ready }

abbrev pub ReportsKeepStreams : Type 0
ReportsKeepStreams = (p : PairState) (d : Direction) → stream_of (noted p) d ≡ stream_of p d

-- an overdue pair fails with Idle, and any other stays as it was
pub record IsHeldAgainst (now limit : ℕ) (p : PairState) : Type 0 where
  pub overdue : IsOverdue now limit p → verdict (expired now limit p) ≡ Verdict.Failed Idle
  pub other : is_overdue now limit p ≡ false → expired now limit p ≡ p
  pub exact : (is_overdue now limit p ≡ true) ↔ IsOverdue now limit p

abbrev pub OnlyOverduePairsExpire : Type 0
OnlyOverduePairsExpire = (now limit : ℕ) (p : PairState) → IsHeldAgainst now limit p

abbrev pub ExpiriesChangeVerdictAlone : Type 0
ExpiriesChangeVerdictAlone = (now limit : ℕ) (p : PairState) → expired now limit p ≡ record p { failure = (expired now limit p).failure }

-- laws of runs: over any list of answers, reports and expiries
abbrev pub RunsKeepOrder : Type 0
RunsKeepOrder =
    (p q : PairState) (events : List Event) → through p events ≡ Some q →
    (d : Direction) → waiting (stream_of p d) ++ ever_brought p d events ≡ ever_carried p d events ++ waiting (stream_of q d)

-- each end that q passed on came after every byte: all that waited in p or was read since has gone out that way
pub record RunPassesEndLast (p q : PairState) (events : List Event) : Type 0 where
  pub kept : KeepsEndLast q
  pub last : (d : Direction) → (stream_of q d).shut ≡ true → ever_carried p d events ≡ waiting (stream_of p d) ++ ever_brought p d events

abbrev pub RunsPassEndLast : Type 0
RunsPassEndLast =
    (p q : PairState) (events : List Event) → KeepsEndLast p → through p events ≡ Some q → RunPassesEndLast p q events

abbrev pub FreshPairsKeepEndLast : Type 0
FreshPairsKeepEndLast = (slot generation capacity now : ℕ) (lead : List ℕ) → KeepsEndLast (fresh slot generation capacity now lead)

abbrev pub RunsKeepPlace : Type 0
RunsKeepPlace = (p q : PairState) (events : List Event) → through p events ≡ Some q → pair_place q ≡ pair_place p

-- a list of answers at one second does the same as the run of these answers
pub record IsRunOf (now : ℕ) (p : PairState) (replies : List AnswerValue) : Type 0 where
  pub run : through p (map (Answered now) replies) ≡ over now p replies
  pub brought : (d : Direction) → ever_brought p d (map (Answered now) replies) ≡ all_brought now p d replies
  pub carried : (d : Direction) → ever_carried p d (map (Answered now) replies) ≡ all_carried now p d replies

abbrev pub AnswersAreEvents : Type 0
AnswersAreEvents = (now : ℕ) (p : PairState) (replies : List AnswerValue) → IsRunOf now p replies
