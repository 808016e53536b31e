-- What could move, and what is due to be tried. Neither depends on a flag that the pair keeps.
use Rattle.std.specs.{Prelude.{ℕ, ◌==◌, Bool, false, not, ◌&&◌, ◌||◌, nat_lt, length, Option, Some, None, slice_get}, List.list_any}
use Rattle.token.specs.{declared.{direction.Direction.{Direction, TheVariants.{Up, Down}}, name.Name.{Name, TheVariants.{Listener, Waker, End}}}, Sides.{source, destination}}
use Rattle.flow.specs.Stream.{Stream}
use Rattle.kernel_model.specs.{Ends.{is_readable, is_writable}, Kernel.{KernelState, Registered, end_at}}
use Rattle.relay_core.specs.{Pairs.{stream_of, is_joined, verdict, is_live}, Order.{is_waiting, is_drained}}
use Rattle.world.specs.{declared.{connection.Connection.Connection, actors.{Ticket.Ticket, Doing.{Doing, TheVariants.Tries}}}, Slots.{SlotState, WorkerState, is_by_worker}, States.State, Calls.descriptor}

-- an open end from which a read would not block
abbrev pub gives : Option Registered → Bool
gives None = false
gives (Some r) = is_readable r.socket

-- an open end to which a write would not block
abbrev pub takes : Option Registered → Bool
takes None = false
takes (Some r) = is_writable r.socket

-- the end of input was not read, and the ring is shorter than r bytes, its most
abbrev pub has_place : ℕ → Stream → Bool
has_place r stream = not stream.end_seen && nat_lt (length stream.ring) r

-- one direction could move: bytes or an end could come in, bytes could go out, or the end could be passed on
abbrev pub flows : ℕ → KernelState → Connection → Direction → Bool
flows r k c d =
    (has_place r (stream_of c.pair d) && gives (end_at k.ends (descriptor c.ends (source d))))
    || ((is_waiting (stream_of c.pair d) && takes (end_at k.ends (descriptor c.ends (destination d))))
    || (is_drained (stream_of c.pair d) && (is_joined c.pair (destination d) || takes (end_at k.ends (descriptor c.ends (destination d))))))

-- a connection could move: it is done or failed and to be closed, or one of its directions could move
abbrev pub may_move : ℕ → KernelState → Connection → Bool
may_move r k c = not (is_live (verdict c.pair)) || (flows r k c Up || flows r k c Down)

-- the name is of an end of this slot's connection of this generation
abbrev pub is_report : ℕ → ℕ → Name → Bool
is_report s g Listener = false
is_report s g Waker = false
is_report s g (End n) = n.slot == s && n.generation == g

abbrev pub is_ticket : ℕ → ℕ → Ticket → Bool
is_ticket s g t = t.slot == s && t.generation == g

abbrev pub tries : ℕ → ℕ → Doing → Bool
tries s g (Tries t) = is_ticket s g t
tries s g d = false

abbrev pub has_ticket : ℕ → ℕ → WorkerState → Bool
has_ticket s g k = tries s g k.doing || list_any (is_ticket s g) k.hand

-- a report of the connection is queued or in the batch
abbrev pub is_reported : State → ℕ → ℕ → Bool
is_reported st s g = list_any (is_report s g) st.kernel.queue || list_any (is_report s g) st.batch

-- a ticket of the connection is in the ready queue or with an actor
abbrev pub is_ticketed : State → ℕ → ℕ → Bool
is_ticketed st s g = list_any (is_ticket s g) st.ready || (list_any (is_ticket s g) st.hand || list_any (has_ticket s g) st.workers)

abbrev pub moves_if_any : ℕ → KernelState → Option Connection → Bool
moves_if_any r k None = false
moves_if_any r k (Some c) = may_move r k c

abbrev pub movable_at : State → Option SlotState → Bool
movable_at st None = false
movable_at st (Some p) = moves_if_any st.limits.ring st.kernel p.connection

-- whether the slot's connection could move; false without one
abbrev pub movable : State → ℕ → Bool
movable st s = movable_at st (slice_get st.slots s)

abbrev pub due_place : State → ℕ → SlotState → Option Connection → Bool
due_place st s p None = false
due_place st s p (Some c) = is_by_worker p.holder || (is_reported st s c.pair.generation || is_ticketed st s c.pair.generation)

abbrev pub due_at : State → ℕ → Option SlotState → Bool
due_at st s None = false
due_at st s (Some p) = due_place st s p p.connection

-- whether the slot's connection is due to be tried: it is reported, it has a ticket, or a worker holds the slot
abbrev pub due : State → ℕ → Bool
due st s = due_at st s (slice_get st.slots s)
