-- What a socket may answer to a call, and what each answer does to the pair.
use Rattle.std.specs.Prelude.{ℕ, ◌+◌, ◌-◌, ◌^◌, Bool, true, false, ◌&&◌, nat_le, min, if◌then◌else◌, List, length, Some}
use Rattle.token.specs.{declared.{kind.Kind.Kind, direction.Direction.Direction}, Sides.opposite}
use Rattle.flow.specs.Stream.{Stream, taken_in, dropped, ended, closed}
use Rattle.relay_core.specs.{declared.{call.Call.Call, verdict.Fault.TheVariants.Broken, answer.Answer.Answer}, Calls.{side_of, kind_of, direction_of}, Pairs.{Flags, PairState, stream_of, with_stream, flags_of, with_flags, mark_joined, sent, with_sent}, Order.offer}
use Rattle.relay_core.specs.declared.call.Call.TheVariants as call
use Rattle.relay_core.specs.declared.answer.Answer.TheVariants as answer

-- read(2) gave bytes, or the end of input; write(2) took the first n bytes of the offer; the socket is connected;
-- shutdown(2) passed the end on; the call would have to wait; a signal interrupted it; or it failed
pub data AnswerValue : Type 0 where
  Bytes : List ℕ → AnswerValue
  End : AnswerValue
  Wrote : ℕ → AnswerValue
  Joined : AnswerValue
  Shut : AnswerValue
  Blocked : AnswerValue
  Interrupted : AnswerValue
  Failed : Kind → AnswerValue

-- the answers that a call may get
abbrev pub fits : PairState → Call → AnswerValue → Bool
fits p (call.Read side most) (Bytes bytes) = nat_le 1 (length bytes) && nat_le (length bytes) most
fits p (call.Read side most) End = true
fits p (call.Read side most) Blocked = true
fits p (call.Write side) (Wrote n) = nat_le 1 n && nat_le n (length (offer p side))
fits p (call.Write side) Blocked = true
fits p (call.Join side) Joined = true
fits p (call.Join side) Blocked = true
fits p (call.Shut side) Shut = true
fits p call Interrupted = true
fits p call (Failed kind) = true
fits p call reply = false

-- the pair with a change of the stream that a call serves
abbrev pub change_stream : PairState → Call → (Stream → Stream) → PairState
change_stream p call change = with_stream p (direction_of call) (change (stream_of p (direction_of call)))

-- the call would have had to wait: its flag is down until a report comes
abbrev pub without_flag : Call → Flags → Flags
without_flag (call.Read side most) flags = record flags { read = false }
without_flag call flags = record flags { write = false }

-- a write took n bytes more; the count stops at 2^64 - 1
abbrev pub count_more : PairState → Direction → ℕ → PairState
count_more p d n = with_sent p d (min (sent p d + n) (2 ^ 64 - 1))

-- what an answer does, except to `turn` and `moved`. A socket that gave or took bytes, or gave an end, is connected.
abbrev pub effect : PairState → Call → AnswerValue → PairState
effect p call (Bytes bytes) = mark_joined (change_stream p call (λ stream. taken_in stream bytes)) (side_of call)
effect p call End = mark_joined (change_stream p call ended) (side_of call)
effect p call (Wrote n) = count_more (mark_joined (change_stream p call (λ stream. dropped stream n)) (side_of call)) (direction_of call) n
effect p call Joined = mark_joined p (side_of call)
effect p call Shut = change_stream p call closed
effect p call Blocked = with_flags p (side_of call) (without_flag call (flags_of p (side_of call)))
effect p call Interrupted = p
effect p call (Failed kind) = record p { failure = Some (Broken (side_of call) (kind_of call) kind) }

-- whether an answer moved the connection
abbrev pub moves : AnswerValue → Bool
moves Blocked = false
moves Interrupted = false
moves (Failed kind) = false
moves reply = true

-- the pair after a call that was answered at the second `now`
abbrev pub after : ℕ → PairState → Call → AnswerValue → PairState
after now p call reply = record (effect p call reply) {
  turn = opposite (direction_of call);
  moved = if moves reply then now else p.moved;
}

-- an `Answer` as clauses see it: with its bytes in place of the reference to them
abbrev pub reply_of : Answer → AnswerValue
reply_of (answer.Bytes bytes) = Bytes bytes.now
reply_of answer.End = End
reply_of (answer.Wrote n) = Wrote n
reply_of answer.Joined = Joined
reply_of answer.Shut = Shut
reply_of answer.Blocked = Blocked
reply_of answer.Interrupted = Interrupted
reply_of (answer.Failed kind) = Failed kind
