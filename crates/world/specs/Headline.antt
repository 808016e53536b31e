-- The headline: what holds after every run of events, clause by clause. Only `next_fails` depends on how the relay achieves it:
-- it cites the order of calls (`next_call` of the core). What the clause about due connections depends on is in `Support`.
use Rattle.std.specs.{Prelude.{◌≡◌, ℕ, ◌+◌, ◌≤◌, ◌==◌, Bool, true, false, ◌&&◌, ◌||◌, if◌then◌else◌, ◌⊎◌, List, [], ◌∷◌, ◌++◌, Option, Some, None, IsSome, slice_get, option_map, option_and_then, unwrap_or}, List.list_all}
use Rattle.token.specs.{declared.{kind.Kind.Kind, side.Side.{Side, TheVariants.{Client, Target}}, direction.Direction.{Direction, TheVariants.{Up, Down}}}, Sides.{source, destination, side_number}}
use Rattle.flow.specs.Stream.{Stream}
use Rattle.kernel_model.specs.{declared.{both.Sockets.Sockets, reply.Reply.Reply}, Ends.EndState, Kernel.{Registered, end_at}, Names.has}
use Rattle.relay_core.specs.{declared.{call.Call.Call, verdict.{Fault.{Fault, TheVariants.{Broken, Idle}}, Verdict.TheVariants.{Done, Failed}}}, Calls.{side_of, kind_of}, Pairs.{stream_of, verdict}, Order.next_call}
use Rattle.world.specs.{declared.{connection.Connection.Connection, actors.Doing.{Doing, TheVariants.{Tries, Holds}}, event.{Event.Event, Change.TheVariants.Arrive}, limits.Limits.Limits, past.Past.Past}, Leads.lead_at, Slots.{SlotState, WorkerState}, States.{State, opening}, Calls.descriptor, Steps.{step, connection_at}, Runs.run, Due.{movable, due}}
use Rattle.token.specs.declared.name.Name.TheVariants as name
use Rattle.kernel_model.specs.declared.reply.Reply.TheVariants as reply
use Rattle.world.specs.declared.event.Event.TheVariants as event
use Rattle.world.specs.declared.event.Act.TheVariants as act
use Rattle.world.specs.declared.event.Polling.TheVariants as polling

abbrev pub end_there : State → Connection → Side → Option Registered
end_there st c side = end_at st.kernel.ends (descriptor c.ends side)

-- The bytes that the network gave to an end: a filter of the events

abbrev pub has_generation : Option SlotState → ℕ → Bool
has_generation None g = false
has_generation (Some p) g = p.generation == g

-- the bytes that one event brings to a side of a slot's connection of this generation
abbrev pub given_by : State → ℕ → ℕ → Side → Event → List ℕ
given_by st s g side (event.Network t other (Arrive bytes)) =
    if (t == s && side_number other == side_number side) && has_generation (slice_get st.slots s) g then bytes.items else []
given_by st s g side e = []

-- all bytes that a list of events brings to that side, in order
abbrev pub given : State → List Event → ℕ → ℕ → Side → List ℕ
given st [] s g side = []
given st (e ∷ es) s g side = given_by st s g side e ++ unwrap_or (option_map (λ (q : State). given q es s g side) (step st e)) []

-- Bytes and ends of one direction: x is its source, y its destination, and `gave` the bytes that were given to x. The
-- preamble `before` is sent before these

-- what the target is sent before the client's bytes; the client is sent nothing before the target's bytes
abbrev pub preamble : Limits → ℕ → ℕ → Direction → List ℕ
preamble l s g Up = lead_at l.lead s g
preamble l s g Down = []

-- the preamble and then the arrived bytes are the sent bytes, then the rest of the preamble, then the ring, then the
-- unread bytes
abbrev pub KeepsBytes : List ℕ → List ℕ → Stream → EndState → EndState → Type 0
KeepsBytes before gave stream x y = before ++ gave ≡ y.taken ++ (stream.lead ++ (stream.ring ++ x.unread))

-- if an end was passed on, it came last: the source is at its end of input, and every byte was sent
pub record EndCameLast (before gave : List ℕ) (stream : Stream) (x y : EndState) : Type 0 where
  pub ended : x.fin ≡ true
  pub read : x.unread ≡ []
  pub gone : stream.lead ≡ []
  pub empty : stream.ring ≡ []
  pub sent : before ++ gave ≡ y.taken

pub record DirectionHolds (before gave : List ℕ) (stream : Stream) (x y : EndState) : Type 0 where
  pub bytes : KeepsBytes before gave stream x y
  pub last : stream.shut ≡ true → EndCameLast before gave stream x y

-- both ends of a connection in a slot are open, and `DirectionHolds` in each direction
pub record ConnectionHolds (first st : State) (events : List Event) (s : ℕ) (c : Connection) : Type 0 where
  pub open_ends : (side : Side) → IsSome (end_there st c side)
  pub directions : (d : Direction) (x y : Registered) → end_there st c (source d) ≡ Some x → end_there st c (destination d) ≡ Some y
      → DirectionHolds (preamble first.limits s c.pair.generation d) (given first events s c.pair.generation (source d))
      (stream_of c.pair d) x.socket y.socket

-- Of each connection in a slot, in each direction: the preamble and the arrived bytes are the sent bytes, the rest of the
-- preamble, the ring and the unread bytes. An end was passed on only after every byte
abbrev pub BytesAndEndsHold : State → State → List Event → Type 0
BytesAndEndsHold first st events = (s : ℕ) (c : Connection) → connection_at st s ≡ Some c → ConnectionHolds first st events s c

-- the end that a closed connection had on this side
abbrev pub socket_of : Sockets → Side → EndState
socket_of ends Client = ends.client
socket_of ends Target = ends.target

-- the preamble of a direction, and then the bytes that were given to its source
abbrev pub all_to_send : State → List Event → ℕ → ℕ → Direction → List ℕ
all_to_send first events s g d = preamble first.limits s g d ++ given first events s g (source d)

-- in each direction of a closed connection, the sent bytes are a beginning of all that there was to send; if the
-- connection was done, they are all of it
pub record ClosedHolds (first : State) (events : List Event) (p : Past) : Type 0 where
  pub beginning : (d : Direction) → (rest : List ℕ)
      × (all_to_send first events p.slot p.generation d ≡ (socket_of p.ends (destination d)).taken ++ rest)
  pub all : p.verdict ≡ Done → (d : Direction) → all_to_send first events p.slot p.generation d ≡ (socket_of p.ends (destination d)).taken

-- of each closed connection: what was sent is the beginning of preamble and given bytes, or all of them if it was done
abbrev pub ClosedHold : State → State → List Event → Type 0
ClosedHold first st events = (i : ℕ) (p : Past) → slice_get st.past i ≡ Some p → ClosedHolds first events p

-- this holds of each event, in the state in which it happens
abbrev pub Throughout : (State → Event → Type 0) → State → List Event → Type 0
Throughout Each st [] = Unit {0}
Throughout Each st (e ∷ es) = Each st e × ((q : State) → step st e ≡ Some q → Throughout Each q es)

-- the notes in a slot that a worker holds are of its connection's generation
abbrev pub TakesOwnNotes : State → Doing → Type 0
TakesOwnNotes st (Holds s left) =
    (p : SlotState) (c : Connection) → slice_get st.slots s ≡ Some p → p.connection ≡ Some c
    → list_all (λ g. g == c.pair.generation) p.notes ≡ true
TakesOwnNotes st d = Unit {0}

-- a worker's ticket names the generation of its slot's connection
abbrev pub ClaimsByOwnTicket : State → Doing → Type 0
ClaimsByOwnTicket st (Tries t) = (c : Connection) × (connection_at st t.slot ≡ Some c) × (c.pair.generation ≡ t.generation)
ClaimsByOwnTicket st d = Unit {0}

-- a connection is tried on reports and tickets of its own generation alone
abbrev pub TriedOnOwn : State → Event → Type 0
TriedOnOwn st (event.Work w act.Take) = (k : WorkerState) → slice_get st.workers w ≡ Some k → TakesOwnNotes st k.doing
TriedOnOwn st (event.Work w act.Claim) = (k : WorkerState) → slice_get st.workers w ≡ Some k → ClaimsByOwnTicket st k.doing
TriedOnOwn st e = Unit {0}

-- Failures

abbrev pub slot_held : Doing → Option ℕ
slot_held (Holds s left) = Some s
slot_held d = None

abbrev pub held_by : State → ℕ → Option ℕ
held_by st w = option_and_then (λ (k : WorkerState). slot_held k.doing) (slice_get st.workers w)

abbrev pub broken_by : Kind → Call → Fault
broken_by kind call = Broken (side_of call) (kind_of call) kind

-- a fault, and the slot and generation of the connection that has it
pub record Failure : Type 0 where
  pub slot : ℕ
  pub generation : ℕ
  pub fault : Fault

abbrev pub failed_with : ℕ → ℕ → Fault → Failure
failed_with s g fault = record { slot = s; generation = g; fault = fault }

-- the next call of the connection in slot s fails with this kind
abbrev pub next_fails : Kind → ℕ → Connection → Option Failure
next_fails kind s c = option_map (λ (call : Call). failed_with s c.pair.generation (broken_by kind call)) (next_call c.pair)

-- the failure that an event brings: the worker's call fails in the slot that the worker holds
abbrev pub failure_by : State → Event → Option Failure
failure_by st (event.Work w (act.Call (reply.Failed kind))) =
    option_and_then (λ (s : ℕ). option_and_then (λ (c : Connection). next_fails kind s c) (connection_at st s)) (held_by st w)
failure_by st e = None

-- one of the events brings this failure
abbrev pub FailedBy : State → List Event → Failure → Type 0
FailedBy st [] f = ⊥
FailedBy st (e ∷ es) f = (failure_by st e ≡ Some f) ⊎ ((q : State) × (step st e ≡ Some q) × FailedBy q es f)

-- a connection is known by its slot and generation
pub record Named : Type 0 where
  pub slot : ℕ
  pub generation : ℕ

abbrev pub named : ℕ → ℕ → Named
named s g = record { slot = s; generation = g }

-- the connection that the poller opens next
abbrev pub next_opened : State → Option Named
next_opened st = option_and_then (λ (s : ℕ). option_map (λ (g : ℕ). named s (g + 1)) (slice_get st.table s)) (slice_get st.free 0)

-- the connection in the slot that a worker holds
abbrev pub held_connection : State → ℕ → Option Named
held_connection st w =
    option_and_then (λ (s : ℕ). option_map (λ (c : Connection). named s c.pair.generation) (connection_at st s)) (held_by st w)

-- the reply moved something: bytes or an end came in, bytes went out, the socket is connected, or an end was passed on
abbrev pub is_movement : Reply → Bool
is_movement (reply.Bytes n) = true
is_movement reply.End = true
is_movement (reply.Wrote n full) = true
is_movement reply.Joined = true
is_movement reply.Shut = true
is_movement r = false

-- the connection that an event opens or moves
abbrev pub connection_moved : State → Event → Option Named
connection_moved st (event.Poll polling.Open) = next_opened st
connection_moved st (event.Work w (act.Call r)) = if is_movement r then held_connection st w else None
connection_moved st e = None

-- if the event opens or moves this connection, the event comes at least `limit` seconds before the second `now`
abbrev pub LiesBack : ℕ → ℕ → Named → State → Event → Type 0
LiesBack now limit x st e = connection_moved st e ≡ Some x → st.second + limit ≤ now

-- one of the events is a worker's `Expire` of this connection, at a second that is at least the idle limit after the
-- connection was opened and after each time that it moved
pub record ExpiredBy (first : State) (events : List Event) (x : Named) : Type 0 where
  pub before : List Event
  pub after : List Event
  pub worker : ℕ
  pub state : State
  pub split : events ≡ before ++ event.Work worker act.Expire ∷ after
  pub reached : run first before ≡ Some state
  pub held : held_connection state worker ≡ Some x
  pub idle : Throughout (LiesBack state.second first.limits.idle x) first before

-- why a connection failed: one of its calls did, or it moved nothing for the idle limit
abbrev pub FailedAfter : State → List Event → ℕ → ℕ → Fault → Type 0
FailedAfter first events s g (Broken side call kind) = FailedBy first events (failed_with s g (Broken side call kind))
FailedAfter first events s g Idle = ExpiredBy first events (named s g)

-- a connection, in a slot or closed, failed only after a failed call, or after moving nothing for the idle limit
pub record FailuresHold (first st : State) (events : List Event) : Type 0 where
  pub lying : (s : ℕ) (c : Connection) (fault : Fault) → connection_at st s ≡ Some c → verdict c.pair ≡ Failed fault
      → FailedAfter first events s c.pair.generation fault
  pub closed : (i : ℕ) (p : Past) (fault : Fault) → slice_get st.past i ≡ Some p → p.verdict ≡ Failed fault
      → FailedAfter first events p.slot p.generation fault

-- No lost edge

-- whatever could move is due to be tried
abbrev pub DueHolds : State → Type 0
DueHolds st = (s : ℕ) → movable st s ≡ true → due st s ≡ true

-- if the accept flag is down, nobody waits at the listener, or its name is queued or in the batch
abbrev pub ListenerHolds : State → Type 0
ListenerHolds st = st.flag ≡ false → (st.kernel.backlog == 0) || (has name.Listener st.kernel.queue || has name.Listener st.batch) ≡ true

-- What holds of a list of events from the opening world on, and of the state after it

pub record HeadlineHolds (l : Limits) (events : List Event) (st : State) : Type 0 where
  pub bytes : BytesAndEndsHold (opening l) st events
  pub closed : ClosedHold (opening l) st events
  pub own : Throughout TriedOnOwn (opening l) events
  pub failures : FailuresHold (opening l) st events
  pub due : DueHolds st
  pub listener : ListenerHolds st

-- the headline holds after every list of allowed events
abbrev pub EveryRunHolds : Type 0
EveryRunHolds = (l : Limits) (events : List Event) (st : State) → run (opening l) events ≡ Some st → HeadlineHolds l events st
