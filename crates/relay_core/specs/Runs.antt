-- Runs: what happens to a pair, in order, and the bytes that reads bring in and writes take out. Each answer is to the
-- call that comes next at that point.
use Rattle.std.specs.Prelude.{ℕ, List, [], ◌∷◌, Option, Some, None, option_and_then, if◌then◌else◌, Bool, true, false, ◌++◌, take, option_map, unwrap_or}
use Rattle.relay_core.specs.{declared.call.Call.Call, Pairs.{PairState, stream_of, noted}, Order.next_call, Replies.{AnswerValue, fits, after, Bytes, Wrote}, Calls.direction_of, Idle.{is_overdue, timed_out}}
use Rattle.token.specs.declared.direction.Direction.{Direction, TheVariants.{Up, Down}}
use Rattle.flow.specs.Stream.{waiting}

-- the pair after an answer to its next call at the second `now`; None if there is no call that the answer fits
abbrev pub answered : ℕ → PairState → AnswerValue → Option PairState
answered now p reply = option_and_then (λ (call : Call). if fits p call reply then Some (after now p call reply) else None) (next_call p)

-- the pair after a list of answers, all at the second `now`; None if one has no call to answer or does not fit it
abbrev pub over : ℕ → PairState → List AnswerValue → Option PairState
over now p [] = Some p
over now p (reply ∷ replies) = option_and_then (λ (q : PairState). over now q replies) (answered now p reply)

abbrev pub same_way : Direction → Direction → Bool
same_way Up Up = true
same_way Up Down = false
same_way Down Up = false
same_way Down Down = true

-- the bytes that an answer brings into a direction
abbrev pub brought : Direction → Call → AnswerValue → List ℕ
brought d call (Bytes bytes) = if same_way (direction_of call) d then bytes else []
brought d call reply = []

-- the bytes that an answer takes out of a direction: the first ones that wait
abbrev pub carried : PairState → Direction → Call → AnswerValue → List ℕ
carried p d call (Wrote n) = if same_way (direction_of call) d then take n (waiting (stream_of p d)) else []
carried p d call reply = []

-- no bytes for None
abbrev pub or_nothing : Option (List ℕ) → List ℕ
or_nothing bytes = unwrap_or bytes []

-- all bytes that a list of answers at one second brings in
abbrev pub all_brought : ℕ → PairState → Direction → List AnswerValue → List ℕ
all_brought now p d [] = []
all_brought now p d (reply ∷ replies) =
    or_nothing (option_map (λ (call : Call). brought d call reply) (next_call p))
    ++ or_nothing (option_map (λ (q : PairState). all_brought now q d replies) (answered now p reply))

-- all bytes that a list of answers at one second takes out
abbrev pub all_carried : ℕ → PairState → Direction → List AnswerValue → List ℕ
all_carried now p d [] = []
all_carried now p d (reply ∷ replies) =
    or_nothing (option_map (λ (call : Call). carried p d call reply) (next_call p))
    ++ or_nothing (option_map (λ (q : PairState). all_carried now q d replies) (answered now p reply))

-- an answer at a second; a report; or an idle limit that has passed at a second
pub data Event : Type 0 where
  Answered : ℕ → AnswerValue → Event
  Reported : Event
  Expired : ℕ → ℕ → Event

-- the pair after an event; None if the event cannot happen: only an overdue pair expires
abbrev pub pair_after : PairState → Event → Option PairState
pair_after p (Answered now reply) = answered now p reply
pair_after p Reported = Some (noted p)
pair_after p (Expired now limit) = if is_overdue now limit p then Some (timed_out p) else None

-- the pair after a list of events; None if one cannot happen
abbrev pub through : PairState → List Event → Option PairState
through p [] = Some p
through p (event ∷ events) = option_and_then (λ (q : PairState). through q events) (pair_after p event)

-- the bytes that an event brings into a direction
abbrev pub brought_by : PairState → Direction → Event → List ℕ
brought_by p d (Answered now reply) = or_nothing (option_map (λ (call : Call). brought d call reply) (next_call p))
brought_by p d event = []

-- the bytes that an event takes out of a direction
abbrev pub carried_by : PairState → Direction → Event → List ℕ
carried_by p d (Answered now reply) = or_nothing (option_map (λ (call : Call). carried p d call reply) (next_call p))
carried_by p d event = []

-- all bytes that a list of events brings in
abbrev pub ever_brought : PairState → Direction → List Event → List ℕ
ever_brought p d [] = []
ever_brought p d (event ∷ events) =
    brought_by p d event ++ or_nothing (option_map (λ (q : PairState). ever_brought q d events) (pair_after p event))

-- all bytes that a list of events takes out
abbrev pub ever_carried : PairState → Direction → List Event → List ℕ
ever_carried p d [] = []
ever_carried p d (event ∷ events) =
    carried_by p d event ++ or_nothing (option_map (λ (q : PairState). ever_carried q d events) (pair_after p event))
