-- The threads of the server at one slot. First come the programs of a turn and of an opening, as lists of atomic acts;
-- then what the threads share (the slot's word, its place, the queues and the kernel), and what each act does to that.
-- Acts of different threads come in any order.
use Rattle.std.specs.{Global.Global, Prelude.{◌≡◌, Vec, ℕ, zero, suc, ◌+◌, ◌-◌, ◌==◌, Bool, true, false, not, ◌&&◌, nat_lt, nat_le, if◌then◌else◌, List, [], ◌∷◌, ◌++◌, length, replicate, slice_get, slice_set, Option, Some, None, option_map, option_and_then}, Option.is_none}
use Rattle.token.specs.{declared.{side.Side.{Side, TheVariants.{Client, Target}}, name.Name.Name}, Names.EndName}
use Rattle.kernel_model.specs.{declared.{reply.Reply.Reply, watched.Watched.Watched, accepting.Accepting.{Accepting, TheVariants.{Accepted, Blocked, Again, Starved}}, both.{Descriptors.Descriptors, Sockets.Sockets}}, Outcome.{guard, Told}, Kernel.KernelState}
use Rattle.relay_core.specs.{Pairs.{PairState, fresh, noted, verdict, is_live}, Order.next_call, Idle.expired}
use Rattle.claims.specs.Words.{WordState, word_after, wakes, some_wait}
use Rattle.world.specs.{declared.{connection.Connection.Connection, limits.Limits.Limits, past.Past.Past, event.{Change.Change, Reported.Reported}}, Calls.{when, OpenConnection, descriptor, called}, Leads.lead_at, Steps.{change_at, token_of, is_worn}}
pub use Rattle.shared.specs.Acts.{Act, Claim, TakeOut, TakeNotes, Call, Play, PutIn, Post, Release, Close, Retire, Give, Register, Adopt, Enter, Discard, Settle, PutTicket}
use Rattle.shared.specs.Acts.{busy_turn, gone_turn, quiet_turn, again_turn, ended_turn}
use Rattle.token.specs.declared.name.Name.TheVariants as name
use Rattle.kernel_model.specs.declared.watched.Watched.TheVariants as watched
use Rattle.kernel_model.specs.Kernel as kernel
use Rattle.claims.specs.Words as word
use Rattle.world.specs.declared.event.Reported.TheVariants as reported
use Rattle.shared.specs.Acts as server

-- Programs

-- how a turn begins
abbrev pub turn : List Act
turn = Claim ∷ TakeOut ∷ TakeNotes ∷ []

-- how a turn ends if the slot has no connection of the ticket's generation
abbrev pub gone : List Act
gone = Discard ∷ Release ∷ []

-- how a turn ends if the connection has no call to make
abbrev pub quiet : List Act
quiet = PutIn ∷ Release ∷ []

-- how a turn ends if the budget of calls is spent
abbrev pub again : List Act
again = PutIn ∷ Post ∷ Release ∷ []

-- how a turn ends if the connection is done or failed
abbrev pub end_acts : List Act
end_acts = Close ∷ Retire ∷ Give ∷ []

-- what comes next in a turn, by the pair and by the calls that are left
abbrev pub plan : ℕ → PairState → List Act
plan left p = if is_live (verdict p) then (if is_none (next_call p) then quiet else (if left == 0 then again else Call ∷ [])) else end_acts

-- the opening of a connection
abbrev pub open_slot : List Act
open_slot = Register ∷ Adopt ∷ Enter ∷ Discard ∷ PutIn ∷ Post ∷ Release ∷ []

-- The acts without the two that change nothing here: after `Settle` the sockets hold nothing back, and a ticket counts
-- alike in the queue and in a hand
abbrev pub seen : List Act → List Act
seen [] = []
seen (Settle ∷ acts) = seen acts
seen (PutTicket ∷ acts) = seen acts
seen (act ∷ acts) = act ∷ seen acts

-- The acts of the server's turns and of its opening are these programs. `Play` stands for the calls that `plan` adds one by
-- one. If another connection was found, which never happens, it is put back; a slot that had its last generation is not given
pub record ProgramsAreThese : Type 0 where
  pub busy : busy_turn ≡ Claim ∷ []
  pub gone : (other woke : Bool) → seen (gone_turn other woke) ≡ Claim ∷ TakeOut ∷ (if other then PutIn ∷ gone else gone)
  pub quiet : (woke : Bool) → seen (quiet_turn woke) ≡ turn ++ Play ∷ quiet
  pub again : (woke : Bool) → seen (again_turn woke) ≡ turn ++ Play ∷ again
  pub ended : (given : Bool) → seen (ended_turn given) ≡ turn ++ Play ∷ (if given then end_acts else Close ∷ Retire ∷ [])
  pub opening : server.open_slot ≡ open_slot

-- What the threads share

-- A thread: the generation of its ticket or of the connection that it opens, the connection that it has out of its
-- place, how many calls are left, and the rest of its program. It rests if no program is left
pub record Thread : Type 0 where
  pub generation : ℕ
  pub out : Option Connection
  pub left : ℕ
  pub todo : List Act

-- `second` is how many seconds have passed, and `kernel` has the sockets. The poller has the accept flag (`flag`), perhaps a
-- client that was `accepted`, the rest of its `batch`, and the slot's `entry` in its table. `ends` are the sockets of the
-- slot's connection, `word` is the slot's word, and `place` the connection in its place. `tickets` are the generations of the
-- slot's tickets in the ready queue and in hands, oldest first. `free` is how often the slot is in the queue of free slots or
-- in the poller's hand. The first of the `threads` is the poller's. `past` has the closed connections, in order
pub record System : Type 0 where
  pub limits : Limits
  pub second : ℕ
  pub kernel : KernelState
  pub flag : Bool
  pub accepted : Bool
  pub batch : List Name
  pub entry : ℕ
  pub ends : Option Descriptors
  pub word : WordState
  pub place : Option Connection
  pub tickets : List ℕ
  pub free : ℕ
  pub threads : List Thread
  pub past : List Past

abbrev pub resting_thread : Thread
resting_thread = record { generation = 0; out = None; left = 0; todo = [] }

-- how it begins, with a thread for each worker of the limits
abbrev pub start : Limits → System
start l = record {
  limits = l;
  second = 0;
  kernel = kernel.idle;
  flag = true;
  accepted = false;
  batch = [];
  entry = l.generation;
  ends = None;
  word = record { pending = 0; free = true; held = true };
  place = None;
  tickets = [];
  free = 1;
  threads = replicate l.workers resting_thread;
  past = [];
}

-- What may happen: some seconds pass (`Tick`); the network does something (`Network`, `Connect`); a report comes
-- without cause (`Spurious`) or is taken back (`Vanish`). The poller calls accept(2) (`Accept`), drops what it
-- accepted (`Drop`), polls (`Poll`), delivers the first report of its batch (`Deliver`), posts for time (`Sweep`), or
-- begins an opening (`Open`). A thread begins a turn with the oldest ticket and a number of calls, at most the budget
-- (`Begin`), or makes the next act of its program: `Acts`, or `Calls` with the reply of a call
pub data Step : Type 0 where
  Tick : ℕ → Step
  Network : Side → Change → Step
  Connect : Step
  Spurious : Reported → Step
  Vanish : Reported → Step
  Accept : Accepting → Step
  Drop : Step
  Poll : Vec Name Global → Step
  Deliver : Step
  Sweep : Step
  Open : Step
  Begin : ℕ → ℕ → Step
  Acts : ℕ → Step
  Calls : ℕ → Reply → Step

abbrev pub with_thread : System → ℕ → Thread → System
with_thread st i t = record st { threads = slice_set st.threads i t }

-- the thread has no program
abbrev pub is_over : List Act → Bool
is_over [] = true
is_over (act ∷ rest) = false

abbrev pub rests : Thread → Bool
rests t = is_over t.todo

abbrev pub rests_at : Option Thread → Bool
rests_at None = false
rests_at (Some t) = rests t

abbrev pub poller_rests : System → Bool
poller_rests st = rests_at (slice_get st.threads 0)

abbrev pub on_kernel : System → Option KernelState → Option System
on_kernel st k = option_map (λ (q : KernelState). record st { kernel = q }) k

-- Exchanges of the slot's word

-- a note is posted; if the post answers Wake, a ticket of this generation is in hand
abbrev pub note_posted : System → ℕ → System
note_posted st g = record st {
  word = word_after word.post st.word;
  tickets = if wakes st.word then st.tickets ++ g ∷ [] else st.tickets;
}

-- a release; if notes wait, a ticket of this generation is in hand
abbrev pub released : System → ℕ → System
released st g = record st {
  word = word_after word.release st.word;
  tickets = if some_wait st.word.pending then st.tickets ++ g ∷ [] else st.tickets;
}

-- an exchange whose answer changes nothing else
abbrev pub exchanged : System → word.StepKind → System
exchanged st kind = record st { word = word_after kind st.word }

-- The acts of the thread i, which is t, with this rest of its program after the act

abbrev pub then_acts : Thread → List Act → Thread
then_acts t rest = record t { todo = rest }

-- the thread holds the slot; or drops its ticket, if the slot is held
abbrev pub slot_claimed : System → ℕ → Thread → List Act → System
slot_claimed st i t rest =
    if st.word.held then with_thread st i resting_thread
    else with_thread (exchanged st word.claim) i (then_acts t rest)

-- The thread has the connection out, if it is the ticket's own. Another one, which is never found, stays in its place
abbrev pub taken_out : System → ℕ → Thread → List Act → Option Connection → System
taken_out st i t rest None = with_thread st i (then_acts t gone)
taken_out st i t rest (Some c) =
    if c.pair.generation == t.generation then with_thread (record st { place = None }) i (record t { out = Some c; todo = rest })
    else with_thread st i (then_acts t gone)

-- a turn goes on with the connection c out and `left` calls left; c fails if the idle limit has passed
abbrev pub planned : System → Thread → ℕ → Connection → Thread
planned st t left c =
    let p : PairState = expired st.second st.limits.idle c.pair in
    record t { out = Some (record c { pair = p }); left = left; todo = plan left p }

-- if there were notes, every call is worth a try again
abbrev pub notes_heard : ℕ → Connection → Connection
notes_heard notes c = if some_wait notes then record c { pair = noted c.pair } else c

-- all notes are taken; that no connection is out never happens
abbrev pub taking : System → ℕ → Thread → List Act → Option Connection → System
taking st i t rest None = with_thread (exchanged st word.take) i (then_acts t rest)
taking st i t rest (Some c) = with_thread (exchanged st word.take) i (planned st t t.left (notes_heard st.word.pending c))

abbrev pub put_in : System → ℕ → Thread → List Act → System
put_in st i t rest = with_thread (record st { place = t.out }) i (record t { out = None; todo = rest })

abbrev pub system_closed : System → ℕ → Thread → List Act → Connection → Option System
system_closed st i t rest c = option_map
    (λ (told : Told KernelState Sockets). with_thread (record st {
      kernel = told.value;
      ends = None;
      past = st.past ++ record { slot = 0; generation = c.pair.generation; verdict = verdict c.pair; ends = told.told } ∷ [];
    }) i (record t { out = None; todo = rest }))
    (kernel.close_both st.kernel c.ends)

-- a slot whose last generation was used is not opened again
abbrev pub slot_given : System → ℕ → System
slot_given st g = if is_worn g then st else record st { free = suc st.free }

-- both sockets are open, and the connection is out with the thread
abbrev pub registered : System → ℕ → Thread → List Act → ℕ → ℕ → Told KernelState Descriptors → System
registered st i t rest free g told = with_thread
    (record st { kernel = told.value; accepted = false; free = free; ends = Some told.told })
    i (record t {
      generation = g;
      out = Some (record { pair = fresh 0 g st.limits.ring st.second (lead_at st.limits.lead 0 g); ends = told.told });
      todo = rest;
    })

-- an opening needs a free slot, an accepted client, and a generation after the table's
abbrev pub registering : System → ℕ → Thread → List Act → ℕ → Option System
registering st i t rest zero = None
registering st i t rest (suc free) = when st.accepted (option_and_then
    (λ (client : EndName). option_map
    (λ (target : EndName). registered st i t rest free (st.entry + 1) (kernel.open_both st.kernel client target))
    (token_of 0 Target (st.entry + 1)))
    (token_of 0 Client (st.entry + 1)))

-- the thread holds the slot; or, which never happens, the slot was not free and is no longer used
abbrev pub adopted : System → ℕ → Thread → List Act → System
adopted st i t rest =
    if st.word.free then with_thread (exchanged st word.adopt) i (then_acts t rest)
    else with_thread st i resting_thread

abbrev pub after_act : System → ℕ → Thread → Act → List Act → Option System
after_act st i t Claim rest = Some (slot_claimed st i t rest)
after_act st i t TakeOut rest = Some (taken_out st i t rest st.place)
after_act st i t TakeNotes rest = Some (taking st i t rest t.out)
after_act st i t Call rest = None
after_act st i t Play rest = None
after_act st i t PutIn rest = Some (put_in st i t rest)
after_act st i t Post rest = Some (with_thread (note_posted st t.generation) i (then_acts t rest))
after_act st i t Release rest = Some (with_thread (released st t.generation) i (then_acts t rest))
after_act st i t Close rest = option_and_then (λ (c : Connection). system_closed st i t rest c) t.out
after_act st i t Retire rest = Some (with_thread (exchanged st word.retire) i (then_acts t rest))
after_act st i t Give rest = Some (with_thread (slot_given st t.generation) i (then_acts t rest))
after_act st i t Register rest = registering st i t rest st.free
after_act st i t Adopt rest = Some (adopted st i t rest)
after_act st i t Enter rest = Some (with_thread (record st { entry = t.generation }) i (then_acts t rest))
after_act st i t Discard rest = Some (with_thread (exchanged st word.take) i (then_acts t rest))
after_act st i t Settle rest = Some (with_thread st i (then_acts t rest))
after_act st i t PutTicket rest = Some (with_thread st i (then_acts t rest))

-- the next call of the connection that is out gets a reply
abbrev pub calls : System → ℕ → Thread → Reply → List Act → Option System
calls st i t r (Call ∷ rest) = option_and_then
    (λ (c : Connection). option_map
    (λ (line : OpenConnection). with_thread (record st { kernel = line.kernel }) i (planned st t (t.left - 1) line.connection))
    (called st.second (record { kernel = st.kernel; connection = c }) r))
    t.out
calls st i t r todo = None

-- the first act of the rest of the program is made
abbrev pub acts : System → ℕ → Thread → List Act → Option System
acts st i t [] = None
acts st i t (act ∷ rest) = after_act st i t act rest

-- a thread begins a turn with the oldest of these tickets and this many calls
abbrev pub turn_begun : System → ℕ → ℕ → List ℕ → Option System
turn_begun st i most [] = None
turn_begun st i most (g ∷ rest) =
    Some (with_thread (record st { tickets = rest }) i (record { generation = g; out = None; left = most; todo = turn }))

-- a turn has at most as many calls as the budget; the server gives a poller's thread at most 8
abbrev pub begins : System → ℕ → ℕ → Thread → Option System
begins st i most t = when (rests t && nat_le most st.limits.budget) (turn_begun st i most st.tickets)

-- What the poller does between its programs

abbrev pub accept_answer : System → Accepting → System
accept_answer st Accepted = record st { accepted = true }
accept_answer st Blocked = record st { flag = false }
accept_answer st Again = st
accept_answer st Starved = st

-- a report of an end is posted only where its generation is the table's
abbrev pub report_delivered : System → Name → System
report_delivered st name.Listener = record st { flag = true }
report_delivered st name.Waker = st
report_delivered st (name.End n) = if (n.slot == 0) && (st.entry == n.generation) then note_posted st n.generation else st

abbrev pub delivers : System → List Name → Option System
delivers st [] = None
delivers st (n ∷ rest) = Some (record (report_delivered st n) { batch = rest })

-- what a report is about, as the kernel knows it
abbrev pub watched_by : System → Reported → Option Watched
watched_by st reported.Listener = Some watched.Listener
watched_by st reported.Waker = Some watched.Waker
watched_by st (reported.End s side) = option_map (λ (ends : Descriptors). watched.End (descriptor ends side)) st.ends

abbrev pub limit_is_set : System → Bool
limit_is_set st = nat_lt 0 st.limits.idle

abbrev pub step : System → Step → Option System
step st (Tick n) = guard (limit_is_set st && (nat_le 1 n && (nat_le n 4294967295 && nat_le (st.second + n) 18446744073709551615)))
    (record st { second = st.second + n })
step st (Network side change) = option_and_then
    (λ (ends : Descriptors). on_kernel st (change_at st.kernel (descriptor ends side) change)) st.ends
step st Connect = on_kernel st (kernel.connect_in st.kernel)
step st (Spurious who) = option_and_then (λ (w : Watched). on_kernel st (kernel.spurious st.kernel w)) (watched_by st who)
step st (Vanish who) = option_and_then (λ (w : Watched). on_kernel st (kernel.vanish st.kernel w)) (watched_by st who)
step st (Accept reply) = when (poller_rests st && (st.flag && (not st.accepted && nat_lt 0 st.free)))
    (on_kernel (accept_answer st reply) (kernel.accept st.kernel reply))
step st Drop = guard (poller_rests st && st.accepted) (record st { accepted = false })
step st (Poll names) = when (poller_rests st && (length st.batch == 0))
    (on_kernel (record st { batch = names.items }) (kernel.poll st.kernel names.items))
step st Deliver = when (poller_rests st) (delivers st st.batch)
step st Sweep = guard (poller_rests st && (limit_is_set st && nat_lt 0 st.entry)) (note_posted st st.entry)
step st Open = option_and_then
    (λ (t : Thread). guard (rests t && st.accepted) (with_thread st 0 (then_acts t open_slot))) (slice_get st.threads 0)
step st (Begin i most) = option_and_then (λ (t : Thread). begins st i most t) (slice_get st.threads i)
step st (Acts i) = option_and_then (λ (t : Thread). acts st i t t.todo) (slice_get st.threads i)
step st (Calls i r) = option_and_then (λ (t : Thread). calls st i t r t.todo) (slice_get st.threads i)

-- a list of steps, each of which can be made
abbrev pub run : System → List Step → Option System
run st [] = Some st
run st (s ∷ steps) = option_and_then (λ (q : System). run q steps) (step st s)
