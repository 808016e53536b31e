-- The order of work: which call comes next.
use Rattle.std.specs.{Prelude.{ℕ, Bool, not, ◌&&◌, nat_lt, min, if◌then◌else◌, List, length, Option, Some, None}, Option.option_or}
use Rattle.token.specs.{declared.{side.Side.Side, direction.Direction.Direction}, Sides.{source, destination, opposite, inward}}
use Rattle.flow.specs.Stream.{Stream, free_room, waiting, front}
use Rattle.relay_core.specs.{declared.call.Call.{Call, TheVariants.{Write, Join, Shut, Read}}, Pairs.{PairState, stream_of, flags_of, is_joined, verdict, is_live}}

-- bytes wait, of the lead or in the ring
abbrev pub is_waiting : Stream → Bool
is_waiting stream = nat_lt 0 (length (waiting stream))

-- the end of input was seen, every byte has left, and the end is still to be passed on
abbrev pub is_drained : Stream → Bool
is_drained stream = stream.end_seen && not (is_waiting stream) && not stream.shut

-- more bytes may come, and the ring has room for some
abbrev pub is_open : Stream → Bool
is_open stream = not stream.end_seen && nat_lt 0 (free_room stream)

abbrev pub read_most : Stream → ℕ
read_most stream = min (free_room stream) 16384

-- the first possible call that serves one direction
abbrev pub call_for : PairState → Direction → Option Call
call_for p d =
    if is_waiting (stream_of p d) && (flags_of p (destination d)).write then Some (Write (destination d))
    else if is_drained (stream_of p d) && not (is_joined p (destination d)) && (flags_of p (destination d)).write then Some
    (Join (destination d))
    else if is_drained (stream_of p d) && is_joined p (destination d) then Some (Shut (destination d))
    else if is_open (stream_of p d) && (flags_of p (source d)).read then Some (Read (source d) (read_most (stream_of p d)))
    else None

-- the next call of a live pair: one for the direction whose turn it is, or if there is none, one for the other
abbrev pub next_call : PairState → Option Call
next_call p = if is_live (verdict p) then option_or (call_for p p.turn) (call_for p (opposite p.turn)) else None

abbrev pub offer : PairState → Side → List ℕ
offer p side = front (stream_of p (inward side))
