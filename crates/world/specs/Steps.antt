-- What one event does to the machine. Each choice is part of the event, so a step has one result; or none, if the event
-- is not allowed.
use Rattle.std.specs.{Prelude.{ℕ, ◌+◌, ◌-◌, ◌==◌, Bool, true, false, not, ◌&&◌, ◌||◌, nat_lt, nat_le, if◌then◌else◌, List, [], ◌∷◌, ◌++◌, length, slice_get, slice_set, drop, Option, Some, None, option_map, option_and_then}, Option.is_none}
use Rattle.token.specs.{declared.{side.Side.{Side, TheVariants.{Client, Target}}, name.Name.Name}, Names.{EndName, last_generation}}
use Rattle.kernel_model.specs.{declared.{reply.Reply.Reply, watched.Watched.Watched, accepting.Accepting.{Accepting, TheVariants.{Accepted, Blocked, Again, Starved}}, both.{Descriptors.Descriptors, Sockets.Sockets}}, Outcome.{guard, Told}, Ends.is_nonempty, Kernel.KernelState}
use Rattle.relay_core.specs.{Pairs.{fresh, noted, verdict, is_live}, Order.next_call, Idle.{is_overdue, timed_out}}
use Rattle.world.specs.{declared.{connection.Connection.Connection, limits.Limits.Limits, actors.{Ticket.Ticket, Holder.TheVariants.{Nobody, By, Free as IsFree}, Doing.{Doing, TheVariants.{Idle, Tries, Holds, Closed, Retired}}}, event.{Event.Event, Change.{Change, TheVariants.{Arrive, Fin, Reset, Room}}, Reported.Reported, Listening.Listening, Polling.Polling, Act.Act}}, Leads.lead_at, Slots.{SlotState, WorkerState, is_held}, States.State, Calls.{when, OpenConnection, descriptor, called}}
use Rattle.token.specs.declared.name.Name.TheVariants as name
use Rattle.kernel_model.specs.declared.watched.Watched.TheVariants as watched
use Rattle.kernel_model.specs.Kernel as kernel
use Rattle.world.specs.declared.event.Event.TheVariants as event
use Rattle.world.specs.declared.event.Reported.TheVariants as reported
use Rattle.world.specs.declared.event.Listening.TheVariants as listening
use Rattle.world.specs.declared.event.Polling.TheVariants as polling
use Rattle.world.specs.declared.event.Act.TheVariants as act

abbrev pub connection_at : State → ℕ → Option Connection
connection_at st s = option_and_then (λ (p : SlotState). p.connection) (slice_get st.slots s)

abbrev pub over_kernel : State → Option KernelState → Option State
over_kernel st k = option_map (λ (q : KernelState). record st { kernel = q }) k

-- Time

-- there is an idle limit, which ticks and sweeps need
abbrev pub is_limited : State → Bool
is_limited st = nat_lt 0 st.limits.idle

-- some seconds pass: 1 to 2^32 - 1 at once, up to second 2^64 - 1
abbrev pub tick : State → ℕ → Option State
tick st n = guard (is_limited st && (nat_le 1 n && (nat_le n 4294967295 && nat_le (st.second + n) 18446744073709551615)))
    (record st { second = st.second + n })

-- The network

-- at most 1,024 bytes come at once
abbrev pub change_at : KernelState → ℕ → Change → Option KernelState
change_at k d (Arrive bytes) = when (nat_le (length bytes.items) 1024) (kernel.arrive k d bytes.items)
change_at k d Fin = kernel.fin k d
change_at k d Reset = kernel.reset k d
change_at k d Room = kernel.room k d

abbrev pub network : State → ℕ → Side → Change → Option State
network st s side change = option_and_then
    (λ (c : Connection). over_kernel st (change_at st.kernel (descriptor c.ends side) change))
    (connection_at st s)

-- what a report is about, as the kernel knows it; a slot without a connection has no end
abbrev pub watched_of : State → Reported → Option Watched
watched_of st reported.Listener = Some watched.Listener
watched_of st reported.Waker = Some watched.Waker
watched_of st (reported.End s side) = option_map (λ (c : Connection). watched.End (descriptor c.ends side)) (connection_at st s)

abbrev pub report_spurious : State → Reported → Option State
report_spurious st who = option_and_then (λ (w : Watched). over_kernel st (kernel.spurious st.kernel w)) (watched_of st who)

abbrev pub report_vanishes : State → Reported → Option State
report_vanishes st who = option_and_then (λ (w : Watched). over_kernel st (kernel.vanish st.kernel w)) (watched_of st who)

-- The listener

-- the poller accepts one connection at a time, and only while it has a free slot
abbrev pub may_accept : State → Bool
may_accept st = st.flag && (not st.accepted && is_nonempty st.free)

-- what the reply changes at the poller: only blocked clears the flag
abbrev pub after_accept : State → Accepting → State
after_accept st Accepted = record st { accepted = true }
after_accept st Blocked = record st { flag = false }
after_accept st Again = st
after_accept st Starved = st

abbrev pub listen : State → Listening → Option State
listen st listening.Connect = over_kernel st (kernel.connect_in st.kernel)
listen st (listening.Accept reply) = when (may_accept st) (over_kernel (after_accept st reply) (kernel.accept st.kernel reply))
listen st listening.Drop = guard st.accepted (record st { accepted = false })

-- The poller

-- the token of one end, if this slot and generation can have one
abbrev pub token_of : ℕ → Side → ℕ → Option EndName
token_of s side g = guard (nat_le s 32767 && (nat_le 1 g && nat_le g last_generation)) (record { slot = s; side = side; generation = g })

-- a slot with the connection that is opened at second `now`, as the limits say, and the note of its opening
abbrev pub opened_place : ℕ → ℕ → Limits → ℕ → Descriptors → SlotState
opened_place s g l now ends = record {
  generation = g;
  connection = Some (record { pair = fresh s g l.ring now (lead_at l.lead s g); ends = ends });
  holder = Nobody;
  notes = g ∷ [];
}

abbrev pub opened_world : State → ℕ → ℕ → Told KernelState Descriptors → State
opened_world st s g t = record st {
  kernel = t.value;
  accepted = false;
  table = slice_set st.table s g;
  hand = st.hand ++ record { slot = s; generation = g } ∷ [];
  free = drop 1 st.free;
  slots = slice_set st.slots s (opened_place s g st.limits st.second t.told);
}

-- a slot is opened for the generation after the table's; its old notes are thrown away
abbrev pub opening_of : State → ℕ → Option State
opening_of st s = option_and_then
    (λ (p : SlotState). option_and_then
    (λ (g : ℕ). option_and_then
    (λ (client : EndName). option_map
    (λ (target : EndName). opened_world st s (g + 1) (kernel.open_both st.kernel client target))
    (token_of s Target (g + 1)))
    (token_of s Client (g + 1)))
    (slice_get st.table s))
    (slice_get st.slots s)

abbrev pub with_note : SlotState → ℕ → SlotState
with_note p g = record p { notes = p.notes ++ g ∷ [] }

-- a note brings a ticket if it is the first, and the slot is neither held nor free
abbrev pub brings_ticket : SlotState → Bool
brings_ticket p = not (is_held p.holder || is_nonempty p.notes)

-- the hand with the ticket that was made, if one was
abbrev pub with_ticket : Bool → ℕ → ℕ → List Ticket → List Ticket
with_ticket true s g hand = hand ++ record { slot = s; generation = g } ∷ []
with_ticket false s g hand = hand

abbrev pub posted : State → ℕ → ℕ → SlotState → State
posted st s g p = record st {
  slots = slice_set st.slots s (with_note p g);
  hand = with_ticket (brings_ticket p) s g st.hand;
}

abbrev pub post_at : State → ℕ → ℕ → Option State
post_at st s g = option_map (λ (p : SlotState). posted st s g p) (slice_get st.slots s)

-- a report of an end is posted if its generation is the table's, and else dropped
abbrev pub delivered_at : State → EndName → Option ℕ → Option State
delivered_at st n None = Some st
delivered_at st n (Some g) = if g == n.generation then post_at st n.slot g else Some st

abbrev pub delivered : State → Name → Option State
delivered st name.Listener = Some (record st { flag = true })
delivered st name.Waker = Some st
delivered st (name.End n) = delivered_at st n (slice_get st.table n.slot)

-- the first name of the batch is delivered, and leaves it
abbrev pub deliver : State → Option State
deliver st = option_and_then
    (λ (n : Name). option_map (λ (q : State). record q { batch = drop 1 st.batch }) (delivered st n))
    (slice_get st.batch 0)

-- the poller posts, as for a report, to a slot that was ever opened
abbrev pub sweep : State → ℕ → Option State
sweep st s = when (is_limited st) (option_and_then (λ (g : ℕ). when (nat_lt 0 g) (post_at st s g)) (slice_get st.table s))

-- the first of the poller's tickets goes to the end of the ready queue
abbrev pub put_by_poller : State → List Ticket → Option State
put_by_poller st [] = None
put_by_poller st (t ∷ rest) = Some (record st { hand = rest; ready = st.ready ++ t ∷ [] })

abbrev pub batched : State → List Name → Option State
batched st names = when (length st.batch == 0) (over_kernel (record st { batch = names }) (kernel.poll st.kernel names))

abbrev pub polled : State → Polling → Option State
polled st polling.Open = when st.accepted (option_and_then (λ (s : ℕ). opening_of st s) (slice_get st.free 0))
polled st (polling.Poll names) = batched st names.items
polled st polling.Deliver = deliver st
polled st (polling.Sweep s) = sweep st s
polled st polling.Put = put_by_poller st st.hand

-- A worker: w is its number, and k its state

abbrev pub of_worker : State → ℕ → (WorkerState → Option State) → Option State
of_worker st w f = option_and_then f (slice_get st.workers w)

abbrev pub with_worker : State → ℕ → WorkerState → State
with_worker st w k = record st { workers = slice_set st.workers w k }

abbrev pub with_place : State → ℕ → SlotState → State
with_place st s p = record st { slots = slice_set st.slots s p }

abbrev pub doing : State → ℕ → WorkerState → Doing → State
doing st w k d = with_worker st w (record k { doing = d })

-- the worker's first ticket goes to the end of the ready queue
abbrev pub put_by_worker : State → ℕ → WorkerState → List Ticket → Option State
put_by_worker st w k [] = None
put_by_worker st w k (t ∷ rest) = Some (with_worker (record st { ready = st.ready ++ t ∷ [] }) w (record k { hand = rest }))

-- with nothing to put, the worker takes the first ticket of the ready queue
abbrev pub popped : State → ℕ → WorkerState → List Ticket → Option State
popped st w k [] = None
popped st w k (t ∷ rest) = Some (doing (record st { ready = rest }) w k (Tries t))

abbrev pub pop : State → ℕ → WorkerState → Doing → Option State
pop st w k Idle = when (length k.hand == 0) (popped st w k st.ready)
pop st w k d = None

-- the worker holds its ticket's slot with a whole budget; or drops the ticket, if the slot is held
abbrev pub claimed : State → ℕ → WorkerState → ℕ → SlotState → State
claimed st w k s p =
    if is_held p.holder then doing st w k Idle
    else doing (with_place st s (record p { holder = By w })) w k (Holds s st.limits.budget)

abbrev pub claim : State → ℕ → WorkerState → Doing → Option State
claim st w k (Tries t) = option_map (λ (p : SlotState). claimed st w k t.slot p) (slice_get st.slots t.slot)
claim st w k d = None

-- all notes leave the slot; if there was a note, every call is worth a try again
abbrev pub heard : Connection → List ℕ → Connection
heard c notes = if is_nonempty notes then record c { pair = noted c.pair } else c

abbrev pub noted_slot : SlotState → Option SlotState
noted_slot p = option_map (λ (c : Connection). record p { notes = []; connection = Some (heard c p.notes) }) p.connection

abbrev pub take : State → Doing → Option State
take st (Holds s left) = option_and_then
    (λ (p : SlotState). option_map (λ (q : SlotState). with_place st s q) (noted_slot p))
    (slice_get st.slots s)
take st d = None

-- a slot, and the kernel with the ends of its connection
pub record OpenSlot : Type 0 where
  pub kernel : KernelState
  pub place : SlotState

-- the next call of the slot's connection gets a reply at the second `now`
unfoldable pub slot_call : ℕ → OpenSlot → Reply → Option OpenSlot
slot_call now l r = option_and_then
    (λ (c : Connection). option_map
    (λ (line : OpenConnection). record { kernel = line.kernel; place = record l.place { connection = Some line.connection } })
    (called now (record { kernel = l.kernel; connection = c }) r))
    l.place.connection

abbrev pub call : State → ℕ → WorkerState → Doing → Reply → Option State
call st w k (Holds s left) r = when (nat_lt 0 left) (option_and_then
    (λ (p : SlotState). option_map
    (λ (l : OpenSlot). doing (with_place (record st { kernel = l.kernel }) s l.place) w k (Holds s (left - 1)))
    (slot_call st.second (record { kernel = st.kernel; place = p }) r))
    (slice_get st.slots s))
call st w k d r = None

-- the worker posts to the slot that it holds, so it makes no ticket
abbrev pub post : State → Doing → Option State
post st (Holds s left) = option_and_then
    (λ (p : SlotState). option_and_then
    (λ (c : Connection). guard (is_live (verdict c.pair)) (with_place st s (with_note p c.pair.generation)))
    p.connection)
    (slice_get st.slots s)
post st d = None

-- a worker may release a live connection that has no call to make, or has a note to try again for
unfoldable pub may_release : Connection → Bool → Bool
may_release c has_note = is_live (verdict c.pair) && (is_none (next_call c.pair) || has_note)

-- the worker takes the slot's ticket in hand if there are notes in the slot
abbrev pub release : State → ℕ → WorkerState → Doing → Option State
release st w k (Holds s left) = option_and_then
    (λ (p : SlotState). option_and_then
    (λ (c : Connection). guard (may_release c (is_nonempty p.notes))
    (with_worker (with_place st s (record p { holder = Nobody })) w
    (record { doing = Idle; hand = with_ticket (is_nonempty p.notes) s p.generation k.hand })))
    p.connection)
    (slice_get st.slots s)
release st w k d = None

abbrev pub expired_connection : ℕ → ℕ → Connection → Option Connection
expired_connection now limit c = guard (is_overdue now limit c.pair) (record c { pair = timed_out c.pair })

abbrev pub expired_place : ℕ → ℕ → SlotState → Option SlotState
expired_place now limit p =
    option_and_then (λ (c : Connection). option_map (λ (d : Connection). record p { connection = Some d }) (expired_connection now limit c))
    p.connection

-- the connection of the worker's slot fails, since it moved nothing for the idle limit and has no call to make
abbrev pub expire : State → Doing → Option State
expire st (Holds s left) = option_and_then
    (λ (p : SlotState). option_map (λ (q : SlotState). with_place st s q) (expired_place st.second st.limits.idle p))
    (slice_get st.slots s)
expire st d = None

-- both ends of a connection that is done or failed are closed, and `past` keeps the connection as it was
abbrev pub closed_world : State → ℕ → WorkerState → ℕ → SlotState → Connection → Told KernelState Sockets → State
closed_world st w k s p c t =
    doing (with_place (record st {
      kernel = t.value;
      past = st.past ++ record { slot = s; generation = c.pair.generation; verdict = verdict c.pair; ends = t.told } ∷ [];
    }) s (record p { connection = None })) w k (Closed s)

abbrev pub closes_slot : State → ℕ → WorkerState → Doing → Option State
closes_slot st w k (Holds s left) = option_and_then
    (λ (p : SlotState). option_and_then
    (λ (c : Connection). when (not (is_live (verdict c.pair)))
    (option_map (λ (t : Told KernelState Sockets). closed_world st w k s p c t) (kernel.close_both st.kernel c.ends)))
    p.connection)
    (slice_get st.slots s)
closes_slot st w k d = None

abbrev pub retire : State → ℕ → WorkerState → Doing → Option State
retire st w k (Closed s) = option_map
    (λ (p : SlotState). doing (with_place st s (record p { holder = IsFree })) w k (Retired s))
    (slice_get st.slots s)
retire st w k d = None

-- a slot whose last generation was used is not opened again
abbrev pub is_worn : ℕ → Bool
is_worn g = nat_le last_generation g

abbrev pub free_after : List ℕ → ℕ → SlotState → List ℕ
free_after slots s p = if is_worn p.generation then slots else slots ++ s ∷ []

abbrev pub free : State → ℕ → WorkerState → Doing → Option State
free st w k (Retired s) = option_map
    (λ (p : SlotState). doing (record st { free = free_after st.free s p }) w k Idle)
    (slice_get st.slots s)
free st w k d = None

abbrev pub acted : State → ℕ → WorkerState → Act → Option State
acted st w k act.Put = put_by_worker st w k k.hand
acted st w k act.Pop = pop st w k k.doing
acted st w k act.Claim = claim st w k k.doing
acted st w k act.Take = take st k.doing
acted st w k (act.Call r) = call st w k k.doing r
acted st w k act.Post = post st k.doing
acted st w k act.Release = release st w k k.doing
acted st w k act.Expire = expire st k.doing
acted st w k act.Close = closes_slot st w k k.doing
acted st w k act.Retire = retire st w k k.doing
acted st w k act.Free = free st w k k.doing

abbrev pub worked : State → ℕ → Act → Option State
worked st w a = of_worker st w (λ (k : WorkerState). acted st w k a)

abbrev pub step : State → Event → Option State
step st (event.Tick n) = tick st n
step st (event.Network s side change) = network st s side change
step st (event.Spurious who) = report_spurious st who
step st (event.Vanish who) = report_vanishes st who
step st (event.Listen l) = listen st l
step st (event.Poll p) = polled st p
step st (event.Work w a) = worked st w a
