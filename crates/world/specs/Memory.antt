-- The events for which memory may run out: those that, if they are allowed, make a list longer. Any other event happens
-- if it is allowed.
use Rattle.std.specs.Prelude.{ℕ, Bool, true, false, ◌||◌, nat_lt, length, Option, Some, None, slice_get}
use Rattle.token.specs.declared.{side.Side.Side, name.Name.Name}
use Rattle.kernel_model.specs.Replies.{needs_memory}
use Rattle.world.specs.{declared.event.{Event.Event, Change.{Change, TheVariants.Arrive}, Polling.Polling, Act.Act}, States.{State, is_entry}, Steps.{batched, listen, network, report_spurious, worked}}
use Rattle.token.specs.declared.name.Name.TheVariants as name
use Rattle.world.specs.declared.event.Event.TheVariants as event
use Rattle.world.specs.declared.event.Polling.TheVariants as polling
use Rattle.world.specs.declared.event.Act.TheVariants as act

-- a delivered name becomes a note if it is of an end and has the table's generation
abbrev pub becomes_note : State → Option Name → Bool
becomes_note st (Some (name.End n)) = is_entry (slice_get st.table n.slot) n.generation
becomes_note st m = false

-- an event is allowed, and makes a list longer
abbrev pub grows : (State → ℕ) → State → Option State → Bool
grows count st None = false
grows count st (Some after) = nat_lt (count st) (count after)

abbrev pub queue_length : State → ℕ
queue_length st = length st.kernel.queue

abbrev pub batch_length : State → ℕ
batch_length st = length st.batch

abbrev pub free_length : State → ℕ
free_length st = length st.free

abbrev pub change_brings_bytes : Change → Bool
change_brings_bytes (Arrive bytes) = true
change_brings_bytes change = false

-- bytes arrive, or a report is queued
abbrev pub network_allocates : State → ℕ → Side → Change → Bool
network_allocates st s side change = change_brings_bytes change || grows queue_length st (network st s side change)

-- the poller makes a connection, fills its batch, leaves a note (as every sweep does), or adds to the ready queue
abbrev pub polling_allocates : State → Polling → Bool
polling_allocates st polling.Open = true
polling_allocates st (polling.Poll names) = grows batch_length st (batched st names.items)
polling_allocates st polling.Deliver = becomes_note st (slice_get st.batch 0)
polling_allocates st (polling.Sweep s) = true
polling_allocates st polling.Put = true

-- a worker adds to the ready queue, writes bytes, leaves a note, adds to the closed connections or to the free queue
abbrev pub act_allocates : State → ℕ → Act → Bool
act_allocates st w act.Put = true
act_allocates st w (act.Call reply) = needs_memory reply
act_allocates st w act.Post = true
act_allocates st w act.Close = true
act_allocates st w act.Free = grows free_length st (worked st w act.Free)
act_allocates st w a = false

abbrev pub may_allocate : State → Event → Bool
may_allocate st (event.Tick n) = false
may_allocate st (event.Network s side change) = network_allocates st s side change
may_allocate st (event.Spurious who) = grows queue_length st (report_spurious st who)
may_allocate st (event.Vanish who) = false
may_allocate st (event.Listen l) = grows queue_length st (listen st l)
may_allocate st (event.Poll p) = polling_allocates st p
may_allocate st (event.Work w a) = act_allocates st w a
