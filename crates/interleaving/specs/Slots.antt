-- A server of many slots and pollers, and the law that each of its slots can be looked at alone. What is done at a slot
-- is a step of `System`, which has one slot (`Threads.antt`). Here is only what slots share.
use Rattle.std.specs.{Prelude.{◌≡◌, ◌≢◌, ℕ, ◌+◌, ◌-◌, ◌<◌, ◌≤◌, ◌==◌, Bool, true, false, not, ◌&&◌, ◌||◌, nat_lt, nat_le, if◌then◌else◌, List, [], ◌∷◌, ◌++◌, length, map, drop, get_or, slice_get, Option, Some, None, option_map, option_and_then, unwrap_or, IfSome, Vec}, Global.Global, Option.is_none, List.list_any}
use Rattle.token.specs.declared.{side.Side.Side, name.Name.Name}
use Rattle.kernel_model.specs.{declared.{reply.Reply.Reply, accepting.Accepting.{Accepting, TheVariants.{Accepted, Blocked, Again, Starved}}}, Outcome.guard, Names.{has, without_names}}
use Rattle.world.specs.{declared.{limits.Limits.Limits, event.Change.Change}, Calls.when, Leads.lead_at}
use Rattle.interleaving.specs.{Threads.{System, rests_at}, Likeness.IsARun}
use Rattle.world.specs.declared.event.Reported.TheVariants as reported
use Rattle.interleaving.specs.Threads as alone

-- The server

-- The limits are those of each slot, but for `slots`, the number of slots; `workers`, the number of all threads,
-- pollers' and others; and the leads, which are by slot. `owner` says which thread is a slot's poller, and `share` how
-- many connections that thread may open in all
pub record Server : Type 0 where
  pub limits : Limits
  pub owner : ℕ → ℕ
  pub share : ℕ → ℕ

-- what a poll gives: a report of the listener, of the waker, or of an end at this slot, by the end's name there
pub data Report : Type 0 where
  Listener : Report
  Waker : Report
  Of : ℕ → Name → Report

-- A poller: whether it listens; its accept flag; whether the next client must be reported to it (`armed`), and whether a
-- report of the listener is queued for it (`reported`); perhaps a client that it `accepted`; how many it has opened; the
-- rest of its batch
pub record Front : Type 0 where
  pub listens : Bool
  pub flag : Bool
  pub armed : Bool
  pub reported : Bool
  pub accepted : Bool
  pub opened : ℕ
  pub batch : List Report

-- a ticket is in this thread's hand, or in the ready queue (None)
pub record Ticket : Type 0 where
  pub slot : ℕ
  pub generation : ℕ
  pub hand : Option ℕ

-- `backlog` clients wait at the listener, which all pollers share. `places` has what is of one slot: in a `System`, of
-- which the rest does not count. Each slot has its own clock: the second by which its last turn or opening went, since
-- a thread reads the time once for a turn. `fronts` are the pollers. `tickets` has all tickets, those of the queue and
-- those of each hand oldest first. `busy_at` is the slot at which a thread is
pub record Many : Type 0 where
  pub server : Server
  pub backlog : ℕ
  pub places : ℕ → System
  pub fronts : ℕ → Front
  pub tickets : List Ticket
  pub busy_at : ℕ → ℕ

-- One slot of it

-- its limits: the slot's leads are those of slot 0, the only one there
abbrev pub one_slot : Limits → ℕ → Limits
one_slot l s = record l { slots = 1; lead = record l.lead { own = get_or l.lead.own s [] ∷ [] } }

-- the number that a thread has at the slots of a poller: the poller is the first, in exchange with thread 0
abbrev pub rank : ℕ → ℕ → ℕ
rank poller i = if i == poller then 0 else (if i == 0 then poller else i)

abbrev pub rank_at : Many → ℕ → ℕ → ℕ
rank_at m s i = rank (m.server.owner s) i

-- the names of this slot's ends in a batch, in order
abbrev pub names_at : ℕ → List Report → List Name
names_at s [] = []
names_at s (Of slot name ∷ rest) = if slot == s then name ∷ names_at s rest else names_at s rest
names_at s (r ∷ rest) = names_at s rest

-- the generations of this slot's tickets, in order
abbrev pub tickets_at : ℕ → List Ticket → List ℕ
tickets_at s [] = []
tickets_at s (t ∷ rest) = if t.slot == s then t.generation ∷ tickets_at s rest else tickets_at s rest

-- the slot alone: its place, with what the slots share. No client waits there, since one connects just before it is opened
abbrev pub slot_of : Many → ℕ → System
slot_of m s = record (m.places s) {
  limits = one_slot m.server.limits s;
  flag = true;
  accepted = false;
  batch = names_at s (m.fronts (m.server.owner s)).batch;
  tickets = tickets_at s m.tickets;
}

-- how it begins
abbrev pub start : Server → Many
start server = record {
  server = server;
  backlog = 0;
  places = λ s. alone.start (one_slot server.limits s);
  fronts = λ p. record { listens = true; flag = true; armed = false; reported = false; accepted = false; opened = 0; batch = [] };
  tickets = [];
  busy_at = λ i. 0;
}

-- What may happen: seconds pass for a slot; the network does something at a slot; a report of an end comes without cause or is
-- taken back; a client connects; a report of the listener comes to a poller without cause, or is taken back (`Rumour`,
-- `Retract`); all that wait are refused, as when nobody listens. A poller polls, delivers the first report of its batch, posts
-- for time at a slot, calls accept(2), drops its client, opens a slot for it, or stops to listen. A thread begins a turn, with
-- the oldest ticket of the queue (None) or with its ticket of a slot, and a number of calls; puts its ticket of a slot into
-- the queue; makes its program's next act or call
pub data Step : Type 0 where
  Tick : ℕ → ℕ → Step
  Network : ℕ → Side → Change → Step
  Spurious : ℕ → Side → Step
  Vanish : ℕ → Side → Step
  Connect : Step
  Rumour : ℕ → Step
  Retract : ℕ → Step
  Refuse : Step
  Poll : ℕ → List Report → Step
  Deliver : ℕ → Step
  Sweep : ℕ → ℕ → Step
  Accept : ℕ → Accepting → Step
  Drop : ℕ → Step
  Open : ℕ → ℕ → Step
  Stop : ℕ → Step
  Begin : ℕ → Option ℕ → ℕ → Step
  Put : ℕ → ℕ → Step
  Acts : ℕ → Step
  Calls : ℕ → Reply → Step

abbrev pub set_to : {X : Type 0} → (ℕ → X) → ℕ → X → ℕ → X
set_to f i x j = if j == i then x else f j

abbrev pub set_front : Many → ℕ → Front → Many
set_front m p front = record m { fronts = set_to m.fronts p front }

-- Tickets

abbrev pub is_hand : ℕ → Option ℕ → Bool
is_hand i None = false
is_hand i (Some j) = i == j

-- thread i may take this ticket: it is in the queue (None), or in the thread's hand and of this slot
abbrev pub suits : ℕ → Option ℕ → Ticket → Bool
suits i None t = is_none t.hand
suits i (Some s) t = t.slot == s && is_hand i t.hand

pub record Taken : Type 0 where
  pub ticket : Ticket
  pub rest : List Ticket

-- the first ticket that passes the test, and all others
abbrev pub first_ticket : (Ticket → Bool) → List Ticket → Option Taken
first_ticket test [] = None
first_ticket test (t ∷ ts) =
    if test t then Some (record { ticket = t; rest = ts })
    else option_map (λ (c : Taken). record { ticket = c.ticket; rest = t ∷ c.rest }) (first_ticket test ts)

-- a new ticket of this slot, in the hand of thread i
abbrev pub in_hand : ℕ → ℕ → ℕ → Ticket
in_hand s i g = record { slot = s; generation = g; hand = Some i }

-- What is done at one slot

-- It is these steps of the slot alone. The tickets that they make are in the hand of this thread
pub record Deed : Type 0 where
  pub slot : ℕ
  pub thread : ℕ
  pub own : List alone.Step

-- a client connects and is accepted, the opening begins, and both sockets are registered
abbrev pub opening_at_slot : List alone.Step
opening_at_slot = alone.Connect ∷ alone.Accept Accepted ∷ alone.Open ∷ alone.Acts 0 ∷ []

abbrev pub delivering : ℕ → List Report → Option Deed
delivering p (Of s name ∷ rest) = Some (record { slot = s; thread = p; own = alone.Deliver ∷ [] })
delivering p batch = None

abbrev pub deed : Many → Step → Option Deed
deed m (Tick s n) = Some (record { slot = s; thread = 0; own = alone.Tick n ∷ [] })
deed m (Network s side change) = Some (record { slot = s; thread = 0; own = alone.Network side change ∷ [] })
deed m (Spurious s side) = Some (record { slot = s; thread = 0; own = alone.Spurious (reported.End 0 side) ∷ [] })
deed m (Vanish s side) = Some (record { slot = s; thread = 0; own = alone.Vanish (reported.End 0 side) ∷ [] })
deed m (Deliver p) = delivering p (m.fronts p).batch
deed m (Sweep p s) = Some (record { slot = s; thread = p; own = alone.Sweep ∷ [] })
deed m (Open p s) = Some (record { slot = s; thread = p; own = opening_at_slot })
deed m (Begin i from most) = option_map
    (λ (c : Taken). record { slot = c.ticket.slot; thread = i; own = alone.Begin (rank_at m c.ticket.slot i) most ∷ [] })
    (first_ticket (suits i from) m.tickets)
deed m (Acts i) = Some (record { slot = m.busy_at i; thread = i; own = alone.Acts (rank_at m (m.busy_at i) i) ∷ [] })
deed m (Calls i r) = Some (record { slot = m.busy_at i; thread = i; own = alone.Calls (rank_at m (m.busy_at i) i) r ∷ [] })
deed m x = None

-- the slot has become q by a deed
abbrev pub written : Many → Deed → System → Many
written m d q = record m {
  places = set_to m.places d.slot q;
  tickets = m.tickets ++ map (in_hand d.slot d.thread) (drop (length (tickets_at d.slot m.tickets)) q.tickets);
}

-- what a step with a deed does besides: a report leaves the batch; a client is no longer accepted, but opened; a ticket
-- is taken. A thread that begins something at a slot is there from then on
abbrev pub besides : Many → Step → Many → Many
besides m (Deliver p) n = set_front n p (record (m.fronts p) { batch = drop 1 (m.fronts p).batch })
besides m (Open p s) n = record (set_front n p (record (m.fronts p) { accepted = false; opened = (m.fronts p).opened + 1 }))
    { busy_at = set_to n.busy_at p s }
besides m (Begin i from most) n = unwrap_or (option_map
    (λ (c : Taken). record n { tickets = c.rest; busy_at = set_to n.busy_at i c.ticket.slot }) (first_ticket (suits i from) m.tickets)) n
besides m x n = n

-- What is done at no slot, or at all

abbrev pub is_listener : Report → Bool
is_listener Listener = true
is_listener r = false

-- poller p may be given each of these reports; one of an end is queued at a slot of the poller's; each comes once
abbrev pub are_queued : Many → ℕ → List Report → Bool
are_queued m p [] = true
are_queued m p (Listener ∷ rest) = ((m.fronts p).reported && not (list_any is_listener rest)) && are_queued m p rest
are_queued m p (Waker ∷ rest) = are_queued m p rest
are_queued m p (Of s name ∷ rest) = (nat_lt s m.server.limits.slots && m.server.owner s == p)
    && (has name (m.places s).kernel.queue && (not (has name (names_at s rest)) && are_queued m p rest))

abbrev pub unqueued : System → List Name → System
unqueued st names = record st { kernel = record st.kernel { queue = without_names names st.kernel.queue } }

abbrev pub polled : Many → ℕ → List Report → Many
polled m p reports = record m {
  places = λ s. if m.server.owner s == p then unqueued (m.places s) (names_at s reports) else m.places s;
  fronts = set_to m.fronts p (record (m.fronts p) {
    batch = reports;
    reported = (m.fronts p).reported && not (list_any is_listener reports);
  });
}

-- a report of no slot is delivered
abbrev pub other_heard : Many → ℕ → List Report → Option Many
other_heard m p (Listener ∷ rest) = Some (set_front m p (record (m.fronts p) { flag = true; batch = rest }))
other_heard m p (Waker ∷ rest) = Some (set_front m p (record (m.fronts p) { batch = rest }))
other_heard m p batch = None

-- as for one poller, but at the backlog of all
abbrev pub accept_answered : Many → ℕ → Accepting → Option Many
accept_answered m p Accepted = guard (nat_lt 0 m.backlog)
    (record (set_front m p (record (m.fronts p) { accepted = true })) { backlog = m.backlog - 1 })
accept_answered m p Blocked = guard (m.backlog == 0) (set_front m p (record (m.fronts p) { flag = false; armed = true }))
accept_answered m p Again = Some m
accept_answered m p Starved = Some m

-- a client that connects is reported to each poller to which it must be
abbrev pub client_told : Front → Front
client_told f = record f { armed = false; reported = f.reported || f.armed }

-- the poller may open one more
abbrev pub may_take_one : Server → ℕ → Front → Bool
may_take_one server p f = (f.listens && f.flag) && (not f.accepted && nat_lt f.opened (server.share p))

abbrev pub shared : Many → Step → Option Many
shared m Connect = Some (record m { backlog = m.backlog + 1; fronts = λ p. client_told (m.fronts p) })
shared m (Rumour p) = Some (set_front m p (record (m.fronts p) { reported = true }))
shared m (Retract p) = guard ((m.fronts p).reported && m.backlog == 0)
    (set_front m p (record (m.fronts p) { reported = false; armed = true }))
shared m Refuse = Some (record m { backlog = 0 })
shared m (Stop p) = Some (set_front m p (record (m.fronts p) { listens = false; armed = false; reported = false }))
shared m (Poll p reports) =
    guard (nat_le (length reports) 256 && (length (m.fronts p).batch == 0 && are_queued m p reports)) (polled m p reports)
shared m (Deliver p) = other_heard m p (m.fronts p).batch
shared m (Accept p reply) = when (may_take_one m.server p (m.fronts p)) (accept_answered m p reply)
shared m (Drop p) = guard (m.fronts p).accepted (set_front m p (record (m.fronts p) { accepted = false }))
shared m (Put i s) = option_map
    (λ (c : Taken). record m { tickets = c.rest ++ record c.ticket { hand = None } ∷ [] })
    (first_ticket (suits i (Some s)) m.tickets)
shared m x = None

-- Any step

-- it is a thread, and has no program where it is
abbrev pub thread_rests : Many → ℕ → Bool
thread_rests m i = nat_lt i m.server.limits.workers && rests_at (slice_get (m.places (m.busy_at i)).threads (rank_at m (m.busy_at i) i))

-- A thread begins nothing, and as a poller does nothing, while it has a program. A poller opens and sweeps its own slots
abbrev pub may : Many → Step → Bool
may m (Poll p reports) = thread_rests m p
may m (Deliver p) = thread_rests m p
may m (Sweep p s) = thread_rests m p && m.server.owner s == p
may m (Accept p reply) = thread_rests m p
may m (Drop p) = thread_rests m p
may m (Stop p) = thread_rests m p
may m (Open p s) = thread_rests m p && (m.server.owner s == p && (m.fronts p).accepted)
may m (Begin i from most) = thread_rests m i
may m x = true

abbrev pub makes : Many → Step → Option Deed → Option Many
makes m x None = shared m x
makes m x (Some d) = when (nat_lt d.slot m.server.limits.slots)
    (option_map (λ (q : System). besides m x (written m d q)) (alone.run (slot_of m d.slot) d.own))

abbrev pub step : Many → Step → Option Many
step m x = when (may m x) (makes m x (deed m x))

abbrev pub run : Many → List Step → Option Many
run m [] = Some m
run m (x ∷ xs) = option_and_then (λ (n : Many). run n xs) (step m x)

-- The law

abbrev pub steps_at : ℕ → Option Deed → List alone.Step
steps_at s None = []
steps_at s (Some d) = if d.slot == s then d.own else []

-- What the slot s sees of a step, as its own steps: its deed, if that is there; and a poll of its poller, with its names.
-- Of all else it sees nothing
abbrev pub SeesPoll : ℕ → List Report → List alone.Step → Bool → Type 0
SeesPoll s reports own true = (names : Vec Name Global) × (names.items ≡ names_at s reports) × (own ≡ alone.Poll names ∷ [])
SeesPoll s reports own false = own ≡ []

abbrev pub Sees : Many → ℕ → Step → List alone.Step → Type 0
Sees m s (Poll p reports) own = SeesPoll s reports own (m.server.owner s == p)
Sees m s x own = own ≡ steps_at s (deed m x)

-- what it sees of a list of steps, in order
abbrev pub SeesAll : Many → ℕ → List Step → List alone.Step → Type 0
SeesAll m s [] own = own ≡ []
SeesAll m s (x ∷ xs) own = (first : List alone.Step) × (rest : List alone.Step) × (own ≡ first ++ rest) × Sees m s x first
    × IfSome (step m x) (λ (n : Many). SeesAll n s xs rest)

-- What the slot s sees of the server's steps leads `System`, of one slot, from its start to that slot as it is. So it is
-- a run of the machine, of which the headline holds. Its calls, exchanges, arrivals, polls and ticks are the server's
-- there, in order, since its steps are; and each connection has its own lead there
pub record StandsApart (server : Server) (steps : List Step) (m : Many) (s : ℕ) : Type 0 where
  pub own : List alone.Step
  pub sees : SeesAll (start server) s steps own
  pub leads : alone.run (alone.start (one_slot server.limits s)) own ≡ Some (slot_of m s)
  pub run : IsARun (one_slot server.limits s) own (slot_of m s)
  pub lead : (g : ℕ) → lead_at (one_slot server.limits s).lead 0 g ≡ lead_at server.limits.lead s g

-- While a client waits and the poller listens, its accept flag is up, or a report of the listener is queued for it or in
-- its batch. And it has opened no more than its share
pub record PollerHolds (m : Many) (p : ℕ) : Type 0 where
  pub listener : (m.fronts p).listens ≡ true → (m.fronts p).flag ≡ false
      → (m.backlog == 0) || ((m.fronts p).reported || list_any is_listener (m.fronts p).batch) ≡ true
  pub share : (m.fronts p).opened ≤ m.server.share p

-- each slot, each poller, and that a thread has no program but where it is
pub record AllStandApart (server : Server) (steps : List Step) (m : Many) : Type 0 where
  pub slots : (s : ℕ) → StandsApart server steps m s
  pub pollers : (p : ℕ) → PollerHolds m p
  pub one_place : (i s : ℕ) → i < server.limits.workers → s ≢ m.busy_at i
      → rests_at (slice_get (m.places s).threads (rank (server.owner s) i)) ≡ true

-- For each list of steps of a server, whatever its limits, whichever of its threads is each slot's poller
abbrev pub SlotsStandApart : Type 0
SlotsStandApart = (server : Server) (steps : List Step) (m : Many)
    → ((s : ℕ) → server.owner s < server.limits.workers) → run (start server) steps ≡ Some m → AllStandApart server steps m
