-- What accepting and opening connections does to what the poller's thread owns.
use Rattle.std.specs.{Prelude.{◌≡◌, ◌⊎◌, ℕ, ◌+◌, ◌<◌, ◌≤◌, ◌==◌, Bool, true, false, List, [], ◌∷◌, ◌++◌, length, drop, map, Option, Some, None, Result, Ok, Err, replicate, slice_index, slice_set}, List.count_by, declared.net.socket_addr.SocketAddrV4.SocketAddrV4, Net.{Addr.ipv4_octets, Socket.{v4_ip, v4_port}}}
use Rattle.claims.specs.{declared.view.Exchange.Exchange, Seats.{TableId, Adds, HoldsNothing}}
use Rattle.queues.specs.declared.ticket.Ticket.{Ticket}
use Rattle.shared.specs.{declared.{shared.Own.Own, places.Berth.Berth, front.{Unopened.Unopened, Route.Route}}, Hands.ticket_room, Told.Seen}
use Rattle.sizes.specs.{declared.{split.Part.Part, cause.Cause.Cause}, Splits.IsIn}
use Rattle.token.specs.Names.{EndName, last_generation}
use Rattle.rounds.specs.{Pollers.{PollerState, HasRisen, counted_up}, Acts.{SeatAct, due_of, opening, ActsMade, AreTries, InOrder, at_slot}, Episodes.{dropped_for, no_episodes, opened_after}, declared.opening.Opening.Opening}
use Rattle.log.specs.declared.level.Level.{Level}
use Rattle.statistics.specs.declared.event.Event.{Event}
use Rattle.relay_log.specs.Messages.{open_message}
use Rattle.relay_core.specs.{Pairs.fresh, Proxy.proxy_line}
use Rattle.claims.specs.declared.view.Exchange.TheVariants as exchange
use Rattle.shared.specs.Acts as act
use Rattle.log.specs.declared.level.Level.TheVariants as level
use Rattle.statistics.specs.declared.event.Event.TheVariants as event
use Rattle.sizes.specs.declared.cause.Cause.TheVariants as cause
use Rattle.shared.specs.declared.front.Unopened.TheVariants as unopened

-- Between two steps of a round the poller's thread holds no slot of these claim words, and its table has a generation
-- for each slot
pub record Between (claims : TableId) (own : Own) (poller : PollerState) : Type 0 where
  pub same : own.seat.table ≡ claims
  pub idle : HoldsNothing own.seat
  pub sized : length poller.table ≡ claims.words

-- A poller that has opened nothing yet. Its front shows this, there are this many slots, these are its own, its
-- connections are opened with this, and it may open `most` in all
abbrev pub fresh_poller : Seen → ℕ → Part → Opening → ℕ → PollerState
fresh_poller seen slots part opening most = record {
  seen = seen;
  table = replicate slots 0;
  batch = [];
  accepting = true;
  starved = false;
  left = false;
  tries = 0;
  opening = opening;
  part = part;
  heavy = replicate slots 0;
  most = most;
  opened = 0;
  lost = 0;
  second = 0;
  swept = 0;
  over = false;
  episodes = no_episodes;
}

-- how often a slot stands in a list
abbrev pub times : ℕ → List ℕ → ℕ
times slot slots = count_by (λ s. s == slot) slots

-- the free slots that a thread has taken out of their queue so far
abbrev pub slots_in : Own → List ℕ
slots_in own = map (λ (take : ℕ × ℕ). take.1) own.free.history.taken

-- Connections that were opened, in order. Each has its slot's next generation, which the table has from then on
abbrev pub AreOpened : List ℕ → List Ticket → List ℕ → Type 0
AreOpened old [] new = new ≡ old
AreOpened old (t ∷ ts) new = (t.generation ≡ slice_index old t.slot + 1) × AreOpened (slice_set old t.slot t.generation) ts new

-- the heavy marks after these openings: a new connection has none
abbrev pub unmarked : List Ticket → List ℕ → List ℕ
unmarked [] heavy = heavy
unmarked (t ∷ ts) heavy = unmarked ts (slice_set heavy t.slot 0)

-- all of these tickets are for a poller's own slots
abbrev pub AreIn : Part → List Ticket → Type 0
AreIn part tickets = (slot : ℕ) → (IsIn part slot → ⊥) → at_slot slot tickets ≡ 0

-- each slot that was taken out of the queue or was in hand is in hand, or was opened, or is no longer used
abbrev pub SlotsCounted : Own → Own → List Ticket → List ℕ → Type 0
SlotsCounted had has opened lost =
    (slot : ℕ) → times slot (slots_in has) + times slot had.hand.slots
    ≡ times slot (slots_in had) + (times slot has.hand.slots + (at_slot slot opened + times slot lost))

-- free slots were taken in hand, as many as the queue gave, and nothing else changed
pub record OnlyTook (had has : Own) : Type 0 where
  pub seat : has.seat ≡ had.seat
  pub ready : has.ready ≡ had.ready
  pub tickets : has.hand.tickets ≡ had.hand.tickets
  pub capacity : has.hand.capacity ≡ had.hand.capacity
  pub gave : has.free.history.put ≡ had.free.history.put
  pub slots : SlotsCounted had has [] []
  pub grew : length had.free.history.taken ≤ length has.free.history.taken
  pub gained : length has.hand.slots + length had.free.history.taken ≡ length had.hand.slots + length has.free.history.taken

-- the rest of an opening, after its slot was adopted: its one ticket is in hand
pub record Started (ticket : Ticket) (old new : Own) : Type 0 where
  pub noted : ℕ
  pub seat : Adds ticket.slot (drop 1 (opening 0 noted)) old.seat new.seat
  pub hand : new.hand ≡ record old.hand { tickets = old.hand.tickets ++ ticket ∷ [] }

-- no connection can be opened in this slot: it is another poller's, or the table or the names lack it, or its
-- generation is the last
abbrev pub IsSpent : PollerState → ℕ → Type 0
IsSpent p slot = (IsIn p.part slot → ⊥) ⊎ ((length p.table ≤ slot) ⊎ ((32768 ≤ slot) ⊎ (last_generation ≤ slice_index p.table slot)))

-- Why each of these slots is no longer used, in order: it is spent, or it is the next one in `found`, the slots that
-- were found not to be free. All of `found` are among these
abbrev pub AreLost : PollerState → List ℕ → List ℕ → Type 0
AreLost p found [] = found ≡ []
AreLost p found (slot ∷ lost) = (IsSpent p slot × AreLost p found lost) ⊎ ((rest : List ℕ) × (found ≡ slot ∷ rest) × AreLost p rest lost)

-- A try is made for the next connection of one of a poller's slots, by its table. If it opens it, the table has it from then on
pub record TriesNext (part : Part) (try : SeatAct) (old new : List ℕ) : Type 0 where
  pub own : IsIn part try.ticket.slot
  pub next : try.ticket.generation ≡ slice_index old try.ticket.slot + 1
  pub entered : AreOpened old (due_of (try ∷ [])) new

-- accepting changes at most this of what the poller keeps
abbrev pub OnlyAccepted : PollerState → PollerState → Type 0
OnlyAccepted old new = new ≡ record old {
  table = new.table;
  accepting = new.accepting;
  starved = new.starved;
  left = new.left;
  tries = new.tries;
  heavy = new.heavy;
  opened = new.opened;
  lost = new.lost;
  episodes = new.episodes;
}

-- By these tries the `opened` connections were opened in the poller's own slots, each with its slot's next generation,
-- one note and one ticket, which is in hand after the others, and no heavy marks. The `lost` slots are no longer used. Each
-- slot that was taken was opened, or is in hand, or is no longer used. Each try leaves at most one ticket more in hand. The
-- seat did nothing else
pub record Connected (tries : List SeatAct) (old new : PollerState) (had has : Own) : Type 0 where
  pub opened : List Ticket
  pub lost : List ℕ
  pub not_free : List ℕ
  pub are : AreTries opened not_free tries
  pub made : ActsMade tries had.seat has.seat
  pub next : InOrder (TriesNext old.part) tries old.table new.table
  pub table : AreOpened old.table opened new.table
  pub heavy : new.heavy ≡ unmarked opened old.heavy
  pub counted : HasRisen old.opened (length opened) new.opened
  pub unused : HasRisen old.lost (length lost) new.lost
  pub why : AreLost new not_free lost
  pub poller : OnlyAccepted old new
  pub own : AreIn old.part opened
  pub tickets : has.hand.tickets ≡ had.hand.tickets ++ opened
  pub room : ticket_room had.hand ≤ ticket_room has.hand + length tries
  pub ready : has.ready ≡ had.ready
  pub gave : has.free.history.put ≡ had.free.history.put
  pub grew : length had.free.history.taken ≤ length has.free.history.taken
  pub slots : SlotsCounted had has opened lost

-- a connection was opened: its slot has its generation, and no heavy marks, and nothing else of the poller changed
abbrev pub IsOpened : Ticket → PollerState → PollerState → Type 0
IsOpened t old new = new ≡ record old {
  table = slice_set old.table t.slot t.generation;
  heavy = slice_set old.heavy t.slot 0;
  opened = counted_up old.opened 1;
  episodes = opened_after old.episodes;
}

-- a connection was dropped: that was logged, or counted for a later line, and nothing else of the poller changed
abbrev pub DropLogged : Cause → PollerState → PollerState → Type 0
DropLogged cause old new = new ≡ record old { episodes = record old.episodes { drops = dropped_for cause old.second old.episodes.drops } }

-- What a target is sent before the client's own bytes

-- the PROXY line from a client's own address to the address on which it was accepted, if both are given
abbrev pub line_between : Option SocketAddrV4 → Option SocketAddrV4 → Option (List ℕ)
line_between (Some client) (Some accepted) =
    Some (proxy_line (ipv4_octets (v4_ip client)) (v4_port client) (ipv4_octets (v4_ip accepted)) (v4_port accepted))
line_between client accepted = None

-- the PROXY line, or None if an address is missing; nothing is sent if targets get no line
abbrev pub lead_of : Bool → Route → Option (List ℕ)
lead_of true route = line_between route.client route.accepted
lead_of false route = Some []

-- what was lacking if there is no lead: an address, or else memory
abbrev pub lacks : Option (List ℕ) → Cause
lacks None = cause.Address
lacks (Some lead) = cause.Memory

-- this is the lead, or None, for a route that the front may give
abbrev pub LeadGiven : (Route → Type 0) → Bool → Option (List ℕ) → Type 0
LeadGiven may_tell proxy lead = (route : Route) × may_tell route × (lead_of proxy route ≡ lead)

-- A connection as it is opened: it has made no call yet, its rings have the poller's size, its lead is one that may be
-- given, and it counts from the round's second
pub record IsFresh {C T : Type 0} (tells : Route → Type 0) (opening : Opening) (second : ℕ) (t : Ticket) (berth : Berth C T) : Type 0 where
  pub pair : berth.pair ≡ fresh t.slot t.generation opening.ring second berth.pair.up.lead
  pub lead : LeadGiven tells opening.proxy (Some berth.pair.up.lead)
  pub since : berth.second ≡ second

-- what is known of acts, of which PutIn put this connection into its place
abbrev pub Putting : {S C T : Type 0} → (Berth C T → S → Type 0) → act.Made S → Berth C T → act.Made S
Putting moved made berth act.PutIn slot from to = made act.PutIn slot from to × moved berth to
Putting moved made berth act slot from to = made act slot from to

-- the connection of an end
abbrev pub of_end : EndName → Ticket
of_end end = record { slot = end.slot; generation = end.generation }

-- what is known of a connection's acts, of which Register registered its sockets under the names of its ends, and left these wires
abbrev pub Naming : {S : Type 0} → (Ticket → S → Type 0) → (S → Type 0) → act.Made S → Ticket → act.Made S
Naming named wires made ticket act.Register slot from to = made act.Register slot from to × (named ticket to × wires to)
Naming named wires made ticket act slot from to = made act slot from to

-- the sockets of a connection were registered, which left these two wires
abbrev pub Wires : {S C T : Type 0} → (C → T → S → Type 0) → S → Type 0
Wires {C = C} {T = T} registered to = (client : C) × (target : T) × registered client target to

-- of a connection that is dropped no act was made, or its sockets were registered, which are closed
abbrev pub DropMade : {S : Type 0} → (Ticket → act.Made S) → Ticket → S → S → Type 0
DropMade made ticket from to = (to ≡ from) ⊎ act.AreMade (made ticket) ticket.slot (act.Register ∷ []) from to

-- before a connection is placed, its sockets are registered
abbrev pub RegisteredFirst : {S T E : Type 0} → (Ticket → act.Made S) → Ticket → Result T E → S → S → Type 0
RegisteredFirst made ticket (Ok opened) from to = made ticket act.Register ticket.slot from to
RegisteredFirst made ticket (Err cause) from to = DropMade made ticket from to

-- a connection's sockets were registered, but its slot was found not to be free
abbrev pub FindsHeld : {S : Type 0} → (Ticket → act.Made S) → Ticket → S → S → Type 0
FindsHeld made ticket from to = act.AreMade (made ticket) ticket.slot (act.Register ∷ act.Adopt ∷ []) from to

-- what became of an accepted connection: it was opened; it was dropped, for this cause; the slot can have no connection; or
-- one exchange found the slot not free
pub data Fate : Type 0 where
  Opened : Fate
  Dropped : Cause → Fate
  Spent : Fate
  NotFree : Fate

-- What is known of a poller's acts: that each was `made`, which connection one `moved` into its place, and of one that
-- registered sockets, under which names and as which wires. Also which routes the front may tell of a client, how the poller
-- opens connections, and the second of its round
module _ {C S T : Type 0} (moved : Berth C T → S → Type 0) (named : Ticket → S → Type 0) (registered : C → C → T → S → Type 0)
    (made : act.Made S) (may_tell : C → Route → Type 0) (opening : Opening) (second : ℕ) where
  -- The acts of an opening of this client, which put a fresh connection into its place. Its wires are those that Register left,
  -- of this very client and of the target that it opened
  abbrev pub OpensFresh : C → Ticket → S → S → Type 0
  OpensFresh client ticket from to =
      (berth : Berth C T) × IsFresh (may_tell client) opening second ticket berth
      × act.AreMade (Putting moved (Naming named (registered client berth.client berth.target) made ticket) berth) ticket.slot
      act.open_slot from to

  -- which acts were made for this client, by what became of its connection
  abbrev pub FateMade : Fate → C → Ticket → S → S → Type 0
  FateMade Opened client ticket from to = OpensFresh client ticket from to
  FateMade (Dropped why) client ticket from to = DropMade (Naming named (Wires (registered client)) made) ticket from to
  FateMade Spent client ticket from to = to ≡ from
  FateMade NotFree client ticket from to = FindsHeld (Naming named (Wires (registered client)) made) ticket from to

  -- the acts of a try for this client, by its exchanges: it dropped it, or found its slot not to be free, or opened it
  abbrev pub ActsOf : C → Ticket → List Exchange → S → S → Type 0
  ActsOf client ticket [] from to = DropMade (Naming named (Wires (registered client)) made) ticket from to
  ActsOf client ticket (exchange.NotFree ∷ rest) from to = FindsHeld (Naming named (Wires (registered client)) made) ticket from to
  ActsOf client ticket exchanges from to = OpensFresh client ticket from to

  -- the acts of a try, and no others, for a client that accept(2) gave
  pub record TryMade (accepted : C → Type 0) (try : SeatAct) (from to : S) : Type 0 where
    pub client : C
    pub given : accepted client
    pub acts : ActsOf client try.ticket try.exchanges from to

module _ {C S T : Type 0} (moved : Berth C T → S → Type 0) (named : Ticket → S → Type 0) (registered : C → C → T → S → Type 0)
    (made : act.Made S) (accepted : C → Type 0) (may_tell : C → Route → Type 0) where
  -- the acts of a poller's tries, in order, and no others: each was made for a client as accept(2) gave it
  pub record TriesMade (p : PollerState) (from to : S) (tries : List SeatAct) : Type 0 where
    pub acts : InOrder (TryMade moved named registered made may_tell p.opening p.second accepted) tries from to

-- Why an accepted connection is closed unopened: the front refused to open it; or the front opened it, but an address
-- for the line is missing, or memory ran out
abbrev pub DropsFor : (Unopened → Type 0) → (Route → Type 0) → Bool → Cause → Type 0
DropsFor may_refuse may_tell proxy cause.Memory = (lead : List ℕ) × LeadGiven may_tell proxy (Some lead)
DropsFor may_refuse may_tell proxy cause.Connect = may_refuse unopened.Connect
DropsFor may_refuse may_tell proxy cause.Register = may_refuse unopened.Register
DropsFor may_refuse may_tell proxy cause.Address = LeadGiven may_tell proxy None

-- the next connection of a slot
abbrev pub next_in : PollerState → ℕ → Ticket
next_in p slot = record { slot = slot; generation = slice_index p.table slot + 1 }

-- all that changed of the poller, by what became of a connection for this slot
abbrev pub FateKept : Fate → ℕ → PollerState → PollerState → Type 0
FateKept Opened slot old new = IsOpened (next_in old slot) old new
FateKept (Dropped why) slot old new = DropLogged why old new
FateKept Spent slot old new = (new ≡ record old { lost = counted_up old.lost 1 }) × IsSpent old slot
FateKept NotFree slot old new = new ≡ record old { lost = counted_up old.lost 1 }

-- the log was passed the line of an opening, which was counted at its slot
abbrev pub OpeningLogged : (Level → Option (List ℕ) → Type 0) → (ℕ → Event → Type 0) → Ticket → Type 0
OpeningLogged logged counted t = logged level.Info (Some (open_message t.slot t.generation)) × counted t.slot event.Opened

-- what is logged and counted: an opening's line, and a drop's event; of a drop the front hears if memory was lacking
abbrev pub FateTold : (Level → Option (List ℕ) → Type 0) → (ℕ → Event → Type 0) → Type 0 → Fate → Ticket → Type 0
FateTold logged counted lacked Opened t = OpeningLogged logged counted t
FateTold logged counted lacked (Dropped why) t = counted t.slot event.Dropped × (why ≡ cause.Memory → lacked)
FateTold logged counted lacked Spent t = Unit {0}
FateTold logged counted lacked NotFree t = Unit {0}

-- this is the next connection of one of the poller's own slots
pub record IsNext (p : PollerState) (t : Ticket) : Type 0 where
  pub inside : t.slot < length p.table
  pub own : IsIn p.part t.slot
  pub generation : t.generation ≡ slice_index p.table t.slot + 1
  pub most : t.generation ≤ last_generation

-- before the oldest slot in hand was taken to be opened
abbrev pub with_slot : ℕ → Own → Own
with_slot slot own = record own { hand = record own.hand { slots = slot ∷ own.hand.slots } }

pub record SameQueues (old new : Own) : Type 0 where
  pub ready : new.ready ≡ old.ready
  pub free : new.free ≡ old.free
