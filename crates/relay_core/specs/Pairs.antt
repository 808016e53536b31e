-- One connection, as the relay keeps it. It has a stream of bytes for each direction, and flags for each side's socket.
use Rattle.std.specs.Prelude.{ℕ, Bool, true, false, ◌&&◌, List, [], Option, Some, None}
use Rattle.token.specs.declared.{side.Side.{Side, TheVariants.{Client, Target}}, direction.Direction.{Direction, TheVariants.{Up, Down}}}
use Rattle.flow.specs.Stream.{Stream, empty_stream}
pub use Rattle.relay_core.specs.declared.flags.Flags.{Flags}
use Rattle.relay_core.specs.declared.verdict.{Fault.Fault, Verdict.{Verdict, TheVariants.{Live, Done, Failed}}}

-- `client` and `target` are the flags of the two sockets. A flag that is set says that its call is worth a try, and a
-- flag that is not, that the last try would have had to wait and no report came since. `joined` says that the target is
-- known to be connected, `turn` is the direction that is looked at first, `sent_up` and `sent_down` count the bytes
-- that writes took, and `moved` is the second at which the connection was made or last moved
pub record PairState : Type 0 where
  pub slot : ℕ
  pub generation : ℕ
  pub up : Stream
  pub down : Stream
  pub client : Flags
  pub target : Flags
  pub joined : Bool
  pub turn : Direction
  pub failure : Option Fault
  pub sent_up : ℕ
  pub sent_down : ℕ
  pub moved : ℕ

abbrev pub ready : Flags
ready = record { read = true; write = true }

-- a connection that was made at the second `now`, with a lead for the target
abbrev pub fresh : ℕ → ℕ → ℕ → ℕ → List ℕ → PairState
fresh slot generation capacity now lead = record {
  slot = slot;
  generation = generation;
  up = empty_stream capacity lead;
  down = empty_stream capacity [];
  client = ready;
  target = ready;
  joined = false;
  turn = Up;
  failure = None;
  sent_up = 0;
  sent_down = 0;
  moved = now;
}

-- the stream of this direction
abbrev pub stream_of : PairState → Direction → Stream
stream_of p Up = p.up
stream_of p Down = p.down

abbrev pub with_stream : PairState → Direction → Stream → PairState
with_stream p Up stream = record p { up = stream }
with_stream p Down stream = record p { down = stream }

abbrev pub flags_of : PairState → Side → Flags
flags_of p Client = p.client
flags_of p Target = p.target

abbrev pub with_flags : PairState → Side → Flags → PairState
with_flags p Client flags = record p { client = flags }
with_flags p Target flags = record p { target = flags }

-- whether one side's socket is known to be connected: the client's always is
abbrev pub is_joined : PairState → Side → Bool
is_joined p Client = true
is_joined p Target = p.joined

abbrev pub mark_joined : PairState → Side → PairState
mark_joined p Client = p
mark_joined p Target = record p { joined = true }

abbrev pub sent : PairState → Direction → ℕ
sent p Up = p.sent_up
sent p Down = p.sent_down

abbrev pub with_sent : PairState → Direction → ℕ → PairState
with_sent p Up n = record p { sent_up = n }
with_sent p Down n = record p { sent_down = n }

-- a report came: each call is worth a try again
abbrev pub noted : PairState → PairState
noted p = record p { client = ready; target = ready }

-- what has become of the connection: it has failed if there is a fault, else it is done if both ends of input were
-- passed on, else it is live
abbrev pub verdict_of : Option Fault → Bool → Verdict
verdict_of (Some fault) both_shut = Failed fault
verdict_of None true = Done
verdict_of None false = Live

-- what has become of the connection
abbrev pub verdict : PairState → Verdict
verdict p = verdict_of p.failure (p.up.shut && p.down.shut)

abbrev pub is_live : Verdict → Bool
is_live Live = true
is_live Done = false
is_live (Failed fault) = false
