-- The exchanges of the slot's word with their answers; when a state of the threads and one of the machine are alike;
-- and the law. The machine has one slot. It makes an opening in one event, and the threads make seven acts: until the
-- last of these the machine is ahead.
use Rattle.std.specs.{List.flat_map, Prelude.{List, None, Option, Some, [], drop, false, if◌then◌else◌, length, map, option_map, replicate, slice_get, true, unwrap_or, ℕ, ◌&&◌, ◌++◌, ◌==◌, ◌∷◌, ◌≡◌, ◌≢◌, ◌≤◌}}
use Rattle.token.specs.declared.name.Name.{Name}
use Rattle.kernel_model.specs.{Ends.is_nonempty, declared.both.Descriptors.Descriptors}
use Rattle.relay_core.specs.Pairs.{is_live, verdict}
use Rattle.claims.specs.{Words.{StepKind, WordState, made as exchange_made, some_wait, word_after}, declared.view.Exchange.Exchange}
use Rattle.world.specs.{Acts.busy, Headline.HeadlineHolds, Slots.{SlotState, WorkerState, is_by_worker}, States.State, Steps.{may_release, step as machine_step}, Words.{steps, word_at}, declared.{actors.{Holder.TheVariants.{By, Nobody}, Ticket.Ticket}, connection.Connection.Connection, event.{Event.Event, Reported.Reported}, limits.Limits.Limits}}
use Rattle.interleaving.specs.Threads.{Accept, Act, Acts, Adopt, Calls, Claim, Connect, Deliver, Discard, Drop, Network, Poll, Post, PutIn, Release, Retire, Spurious, Step, Sweep, System, TakeNotes, TakeOut, Thread, Tick, Vanish, again, end_acts, open_slot, plan, run, start, step, turn}
use Rattle.token.specs.declared.name.Name.TheVariants as name
use Rattle.claims.specs.Words as word
use Rattle.world.specs.declared.actors.Doing.TheVariants as doing
use Rattle.world.specs.declared.event.Event.TheVariants as event
use Rattle.world.specs.declared.event.Act.TheVariants as act
use Rattle.world.specs.declared.event.Listening.TheVariants as listening
use Rattle.world.specs.declared.event.Polling.TheVariants as polling
use Rattle.world.specs.declared.event.Reported.TheVariants as reported
use Rattle.world.specs.States as machine
use Rattle.world.specs.Runs as events

-- Exchanges

-- the kind of exchange that an act makes, or none
abbrev pub kinds_of : Act → List StepKind
kinds_of Claim = word.claim ∷ []
kinds_of TakeNotes = word.take ∷ []
kinds_of Discard = word.take ∷ []
kinds_of Post = word.post ∷ []
kinds_of Release = word.release ∷ []
kinds_of Retire = word.retire ∷ []
kinds_of Adopt = word.adopt ∷ []
kinds_of act = []

-- that of the first of these acts
abbrev pub first_kinds : List Act → List StepKind
first_kinds [] = []
first_kinds (act ∷ rest) = kinds_of act

-- a report of an end is posted if it has the table's generation
abbrev pub posts : System → List Name → List StepKind
posts st (name.End n ∷ rest) = if (n.slot == 0) && (st.entry == n.generation) then word.post ∷ [] else []
posts st batch = []

abbrev pub kinds_in : System → Step → List StepKind
kinds_in st (Acts i) = unwrap_or (option_map (λ (t : Thread). first_kinds t.todo) (slice_get st.threads i)) []
kinds_in st Deliver = posts st st.batch
kinds_in st Sweep = word.post ∷ []
kinds_in st s = []

-- the exchanges of these kinds with the answers that the word gives, made one after the other
abbrev pub made_all : List StepKind → WordState → List Exchange
made_all [] w = []
made_all (kind ∷ kinds) w = exchange_made kind w ∷ made_all kinds (word_after kind w)

-- the exchanges of a list of steps
abbrev pub exchanges : System → List Step → List Exchange
exchanges st [] = []
exchanges st (s ∷ rest) = made_all (kinds_in st s) st.word ++ unwrap_or (option_map (λ (q : System). exchanges q rest) (step st s)) []

-- the exchanges of an event of the machine, at its one slot
abbrev pub exchanges_of : State → Event → List Exchange
exchanges_of st e = unwrap_or (option_map (λ (p : SlotState). made_all (steps st e 0) (word_at p)) (slice_get st.slots 0)) []

abbrev pub exchanges_in : State → List Event → List Exchange
exchanges_in st [] = []
exchanges_in st (e ∷ es) = exchanges_of st e ++ unwrap_or (option_map (λ (q : State). exchanges_in q es) (machine_step st e)) []

-- the exchanges of the rest of a program, if nobody else changes the word
abbrev pub left_of : List Act → WordState → List Exchange
left_of acts w = made_all (flat_map kinds_of acts) w

-- Likeness

-- the ticket of a generation of the one slot
abbrev pub ticket : ℕ → Ticket
ticket g = record { slot = 0; generation = g }

-- The thread i, with a ticket of generation g, holds the slot, whose state in the machine is p. The slot has this
-- connection, or none once the thread has closed it
pub record Held (p : SlotState) (i g : ℕ) (connection : Option Connection) : Type 0 where
  pub holder : p.holder ≡ By i
  pub there : p.connection ≡ connection
  pub generation : p.generation ≡ g

-- The thread t, which holds the slot, is as far as the machine's worker by the rest of its program. `place` is what
-- the threads have in the slot's place, p is the machine's slot, and the worker has `more` calls left. In order, the
-- cases are: the connection c is in its place, and notes wait; t has c out, and notes wait; t has taken the notes too,
-- and goes by its plan; c is back, and t is to post; c is back, and t is to release the slot
pub data HolderLike (budget : ℕ) (place : Option Connection) (p : SlotState) (t : Thread) (c : Connection) (more : ℕ)
    : List Act → Type 0 where
  Holds : place ≡ Some c → t.left ≤ budget → more ≡ budget → is_nonempty p.notes ≡ true
      → HolderLike budget place p t c more (drop 1 turn)
  HasOut : place ≡ None → t.out ≡ Some c → t.left ≤ budget → more ≡ budget → is_nonempty p.notes ≡ true
      → HolderLike budget place p t c more (drop 2 turn)
  Goes : place ≡ None → t.out ≡ Some c → t.left ≤ more → HolderLike budget place p t c more (plan t.left c.pair)
  Stays : place ≡ Some c → is_live (verdict c.pair) ≡ true → HolderLike budget place p t c more (drop 1 again)
  Leaves : place ≡ Some c → may_release c (is_nonempty p.notes) ≡ true → HolderLike budget place p t c more (drop 2 again)

-- The thread i, which is t, is as far as the machine's worker i, which is k, by the rest of its program
pub data ThreadLike (budget : ℕ) (place : Option Connection) (p : SlotState) (i : ℕ) (t : Thread) (k : WorkerState)
    : List Act → Type 0 where
  Rests : k ≡ machine.resting_worker → ThreadLike budget place p i t k []
  Opens : i ≡ 0 → k ≡ machine.resting_worker → ThreadLike budget place p i t k open_slot
  Tries : t.left ≤ budget → k ≡ busy (doing.Tries (ticket t.generation)) → ThreadLike budget place p i t k turn
  IsHolder : {todo : List Act} (c : Connection) (more : ℕ) → Held p i t.generation (Some c) → k ≡ busy (doing.Holds 0 more)
      → HolderLike budget place p t c more todo → ThreadLike budget place p i t k todo
  HasClosed : Held p i t.generation None → place ≡ None → k ≡ busy (doing.Closed 0) → ThreadLike budget place p i t k (drop 1 end_acts)
  HasRetired : p.generation ≡ t.generation → k ≡ busy (doing.Retired 0) → ThreadLike budget place p i t k (drop 2 end_acts)

-- the machine has a worker i that is as far as the thread i
pub record WorkerFor (budget : ℕ) (place : Option Connection) (p : SlotState) (workers : List WorkerState) (i : ℕ) (t : Thread)
    : Type 0 where
  pub worker : WorkerState
  pub there : slice_get workers i ≡ Some worker
  pub like : ThreadLike budget place p i t worker t.todo

abbrev pub WorkersFor : ℕ → Option Connection → SlotState → List WorkerState → List Thread → Type 0
WorkersFor budget place p workers threads =
    (i : ℕ) (t : Thread) → slice_get threads i ≡ Some t → WorkerFor budget place p workers i t

abbrev pub descriptors_of : SlotState → Option Descriptors
descriptors_of p = option_map (λ (c : Connection). c.ends) p.connection

-- The machine that has what the threads have, and in it this slot p, this entry in its table, tickets of these
-- generations, and these workers
abbrev pub machine_of : System → SlotState → ℕ → List ℕ → List WorkerState → State
machine_of st p entry tickets workers = record {
  limits = st.limits;
  second = st.second;
  kernel = st.kernel;
  flag = st.flag;
  accepted = st.accepted;
  table = entry ∷ [];
  batch = st.batch;
  hand = [];
  ready = map ticket tickets;
  free = replicate st.free 0;
  slots = p ∷ [];
  workers = workers;
  past = st.past;
}

-- No opening is half way: the word and the place are those of the slot p, and each thread is as far as its worker.
-- While the connection is out with the holder of the slot, the place is empty
pub record Settled (st : System) (p : SlotState) (workers : List WorkerState) : Type 0 where
  pub ends : st.ends ≡ descriptors_of p
  pub word : st.word ≡ word_at p
  pub place : is_by_worker p.holder ≡ false → st.place ≡ p.connection
  pub threads : WorkersFor st.limits.budget st.place p workers st.threads

-- the word of a slot that an opening has adopted, with this many notes
abbrev pub taken_word : ℕ → WordState
taken_word notes = record { pending = notes; free = false; held = true }

-- How far the poller's thread t is with the opening of c, by the word, the place, the table's entry and the rest of its
-- program. Each name says what t has done last: Entered that the entry is made, Emptied that the old notes are gone
pub data Stage (word : WordState) (place : Option Connection) (entry : ℕ) (t : Thread) (c : Connection) : List Act → Type 0 where
  Registered : (notes : ℕ) → word ≡ record { pending = notes; free = true; held = true } → place ≡ None → t.out ≡ Some c
      → Stage word place entry t c (drop 1 open_slot)
  Adopted : (notes : ℕ) → word ≡ taken_word notes → place ≡ None → t.out ≡ Some c → Stage word place entry t c (drop 2 open_slot)
  Entered : (notes : ℕ) → word ≡ taken_word notes → place ≡ None → t.out ≡ Some c → entry ≡ t.generation
      → Stage word place entry t c (drop 3 open_slot)
  Emptied : word ≡ taken_word 0 → place ≡ None → t.out ≡ Some c → entry ≡ t.generation → Stage word place entry t c (drop 4 open_slot)
  Placed : word ≡ taken_word 0 → place ≡ Some c → entry ≡ t.generation → Stage word place entry t c (drop 5 open_slot)
  Posted : word ≡ taken_word 1 → place ≡ Some c → entry ≡ t.generation → Stage word place entry t c (drop 6 open_slot)

-- the slot in the machine once the machine has made the opening
abbrev pub opened_slot : ℕ → Connection → SlotState
opened_slot g c = record { generation = g; connection = Some c; holder = Nobody; notes = g ∷ [] }

-- each thread but the poller's rests, and its worker rests too
abbrev pub OthersRest : List Thread → List WorkerState → Type 0
OthersRest threads workers =
    (i : ℕ) (t : Thread) → i ≢ 0 → slice_get threads i ≡ Some t → (t.todo ≡ []) × (slice_get workers i ≡ Some machine.resting_worker)

-- An opening is half way: the machine has made it, and only the poller's thread t has anything to do with the slot
pub record HalfOpen (st : System) (t : Thread) (c : Connection) (workers : List WorkerState) : Type 0 where
  pub first : slice_get st.threads 0 ≡ Some t
  pub worker : slice_get workers 0 ≡ Some machine.resting_worker
  pub others : OthersRest st.threads workers
  pub tickets : st.tickets ≡ []
  pub ends : st.ends ≡ Some c.ends
  pub stage : Stage st.word st.place st.entry t c t.todo

pub data Like (st : System) (w : State) : Type 0 where
  IsSettled : (p : SlotState) (workers : List WorkerState) → w ≡ machine_of st p st.entry st.tickets workers
      → Settled st p workers → Like st w
  IsHalfOpen : (t : Thread) (c : Connection) (workers : List WorkerState)
      → w ≡ machine_of st (opened_slot t.generation c) t.generation (t.generation ∷ []) workers → HalfOpen st t c workers → Like st w

-- What the machine is ahead by: if an opening is half way, those of its exchanges that the threads have not made yet
abbrev pub ahead : (st : System) (w : State) → Like st w → List Exchange
ahead st w (IsSettled p workers is set) = []
ahead st w (IsHalfOpen t c workers is half) = left_of t.todo st.word

-- What a thread with a ticket of this generation finds at its next act. If it claims the slot, nobody holds the slot;
-- if it takes the connection out, the ticket's own is in the place; if it takes the notes, there are some; if it puts
-- a connection in, the place is empty; if it adopts the slot, the slot is free
abbrev pub Finds : WordState → Option Connection → ℕ → List Act → Type 0
Finds word place g (Claim ∷ rest) = word.held ≡ false
Finds word place g (TakeOut ∷ rest) = (c : Connection) × (place ≡ Some c) × (c.pair.generation ≡ g)
Finds word place g (TakeNotes ∷ rest) = some_wait word.pending ≡ true
Finds word place g (PutIn ∷ rest) = place ≡ None
Finds word place g (Adopt ∷ rest) = word.free ≡ true
Finds word place g acts = Unit {0}

-- Each thread finds what it needs. There is at most one ticket of the slot, and the slot is free at most once
pub record NoActInVain (st : System) : Type 0 where
  pub finds : (i : ℕ) (t : Thread) → slice_get st.threads i ≡ Some t → Finds st.word st.place t.generation t.todo
  pub one_ticket : length st.tickets ≤ 1
  pub free_once : st.free ≤ 1

-- What can be seen, as events of the machine: what clock, network and kernel do, and the poller at its listener and with a
-- poll; and each call, with who makes it and its reply. First by the steps of the threads, then among the machine's events

abbrev pub here : Reported → Reported
here reported.Listener = reported.Listener
here reported.Waker = reported.Waker
here (reported.End s side) = reported.End 0 side

abbrev pub visible_of : Step → List Event
visible_of (Tick n) = event.Tick n ∷ []
visible_of (Network side change) = event.Network 0 side change ∷ []
visible_of Connect = event.Listen listening.Connect ∷ []
visible_of (Spurious who) = event.Spurious (here who) ∷ []
visible_of (Vanish who) = event.Vanish (here who) ∷ []
visible_of (Accept reply) = event.Listen (listening.Accept reply) ∷ []
visible_of Drop = event.Listen listening.Drop ∷ []
visible_of (Poll names) = event.Poll (polling.Poll names) ∷ []
visible_of (Calls i r) = event.Work i (act.Call r) ∷ []
visible_of s = []

abbrev pub visible_in : Event → List Event
visible_in (event.Poll (polling.Poll names)) = event.Poll (polling.Poll names) ∷ []
visible_in (event.Poll p) = []
visible_in (event.Work i (act.Call r)) = event.Work i (act.Call r) ∷ []
visible_in (event.Work i a) = []
visible_in e = e ∷ []

-- These steps of threads are a run of the machine: events, allowed one after the other from its opening, lead to a
-- like state. Of the steps and of the events these are the same, in the same order: what can be seen; and exchanges of
-- the slot's word with their answers, but for those that the machine is ahead by. So the headline holds
pub record IsARun (l : Limits) (steps : List Step) (st : System) : Type 0 where
  pub made : List Event
  pub world : State
  pub allowed : events.run (machine.opening l) made ≡ Some world
  pub like : Like st world
  pub visible : flat_map visible_in made ≡ flat_map visible_of steps
  pub words : exchanges_in (machine.opening l) made ≡ exchanges (start l) steps ++ ahead st world like
  pub holds : HeadlineHolds l made world
  pub nothing : NoActInVain st

abbrev pub EveryInterleavingIsARun : Type 0
EveryInterleavingIsARun = (l : Limits) (steps : List Step) (st : System) → l.slots ≡ 1 → run (start l) steps ≡ Some st → IsARun l steps st

-- From like states w and st, of which `was` says how, the step s of the threads led to q. It is followed by these events
-- of the machine, none or more, which lead to a state like q. By them the machine does what can be seen of the step, and
-- makes its exchanges, but for those that it is ahead by
pub record IsFollowed (w : State) (st q : System) (was : Like st w) (s : Step) : Type 0 where
  pub made : List Event
  pub world : State
  pub allowed : events.run w made ≡ Some world
  pub like : Like q world
  pub visible : flat_map visible_in made ≡ visible_of s
  pub words : ahead st w was ++ exchanges_in w made ≡ made_all (kinds_in st s) st.word ++ ahead q world like

-- Both begin alike, and from any state of the machine that events lead to, each step is followed. So the events of a
-- longer list of steps continue those of a shorter one. So exchanges keep their order among what can be seen, but for those
-- of an opening, all of which the machine makes as it begins
pub record EveryStepIsFollowed : Type 0 where
  pub begins : (l : Limits) → l.slots ≡ 1 → Like (start l) (machine.opening l)
  pub follows : (l : Limits) (before : List Event) (w : State) (st q : System) (was : Like st w) (s : Step)
      → events.run (machine.opening l) before ≡ Some w → step st s ≡ Some q → IsFollowed w st q was s
