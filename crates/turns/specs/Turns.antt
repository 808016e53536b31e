-- What a turn does to what its thread owns, by its answer.
use Rattle.std.specs.{Prelude.{◌≡◌, ◌≢◌, ◌⊎◌, ℕ, zero, suc, ◌<◌, ◌≤◌, Bool, true, false, nat_lt, if◌then◌else◌, Option, Some, None, Result, Ok, Err, List, [], ◌∷◌, drop, length, slice_get, slice_set, IfSome, IfErr, OnOk}, Option.is_some}
use Rattle.claims.specs.{declared.view.Exchange.{Exchange, TheVariants.{Post, Busy, Held, Take, Release, Retire}}, Views.minted_by, Seats.{TableId, account_at, Adds}}
use Rattle.queues.specs.declared.ticket.Ticket.{Ticket}
use Rattle.relay_core.specs.{Pairs.{PairState, noted}, Replies.AnswerValue, declared.Side.Side}
use Rattle.engine.specs.Turns.{IsTurn, outcome_of}
use Rattle.turns.specs.declared.worker.{HandPut.HandPut, Worked.Worked}
use Rattle.sizes.specs.{declared.faults.ServerFault.ServerFault, Limits.heavy_marks}
use Rattle.shared.specs.{declared.{places.Berth.Berth, shared.Own.Own}, Acts.{Act, Made, TakeOut, Play, Settle, PutIn, Close, AreMade, busy_turn, gone_turn, quiet_turn, again_turn, ended_turn, leaving}, Hands.HasRoom, Posts.{HoldsOnly, OnlyWorn}, Outgoing.{Inserted, KeepsTicket, KeepsSlot, TookNothing, tickets_out, slots_out, without_first}}
use Rattle.token.specs.Names.{last_generation}
use Rattle.engine.specs.declared.outcome.Turn.TheVariants as turn
use Rattle.turns.specs.declared.worker.Worked.TheVariants as worked

-- the claim got the slot: the answer is not Busy
abbrev pub WasHeld : Result Worked ServerFault → Type 0
WasHeld (Ok worked.Busy) = ⊥
WasHeld result = Unit {0}

-- The exchanges of a turn at its slot, by its answer: its claim found `found` notes, its take `noted`, and its release
-- answered Wake if `woke`. A post that finds the seat worn makes no exchange
abbrev pub turn_exchanges : Result Worked ServerFault → ℕ → ℕ → Bool → List Exchange
turn_exchanges (Ok worked.Busy) found noted woke = Busy ∷ []
turn_exchanges (Ok worked.Gone) found noted woke = Held found ∷ Take noted ∷ Release woke ∷ []
turn_exchanges (Ok worked.Quiet) found noted woke = Held found ∷ Take noted ∷ Release woke ∷ []
turn_exchanges (Ok worked.Again) found noted woke = Held found ∷ Take noted ∷ Post false ∷ Release true ∷ []
turn_exchanges (Ok worked.Ended) found noted woke = Held found ∷ Take noted ∷ Retire ∷ []
turn_exchanges (Err fault) found noted woke = Held found ∷ Take noted ∷ Release woke ∷ []

-- The acts of a turn, in order, by its answer and the ticket's generation. `other`: another connection
-- was in the place. `woke`: the release answered Wake
abbrev pub acts_of : Result Worked ServerFault → ℕ → Bool → Bool → List Act
acts_of (Ok worked.Busy) generation other woke = busy_turn
acts_of (Ok worked.Gone) generation other woke = gone_turn other woke
acts_of (Ok worked.Quiet) generation other woke = quiet_turn woke
acts_of (Ok worked.Again) generation other woke = again_turn true
acts_of (Ok worked.Ended) generation other woke = ended_turn (nat_lt generation last_generation)
acts_of (Err fault) generation other woke = again_turn woke

-- the thread holds this slot of these claim words and no other, and its hand has room
pub record AtWork (claims : TableId) (slot : ℕ) (own : Own) : Type 0 where
  pub same : own.seat.table ≡ claims
  pub inside : slot < claims.words
  pub holder : HoldsOnly slot own.seat
  pub room : HasRoom own.hand

-- the ticket was put, or is the last in hand. The other tickets that the thread had to put stay
pub record TicketPut (ticket : Ticket) (old new : Own) : Type 0 where
  pub kept : KeepsTicket ticket new.ready.history new.hand
  pub tickets : Inserted ticket (tickets_out old) (tickets_out new)

-- the ticket was put if the exchanges made one. They make one at most
abbrev pub TicketsKept : Ticket → ℕ → Own → Own → Type 0
TicketsKept ticket zero old new = tickets_out new ≡ tickets_out old
TicketsKept ticket (suc n) old new = TicketPut ticket old new

-- the ticket's slot was given, unless its generation is the last
pub record SlotGiven (ticket : Ticket) (old new : Own) : Type 0 where
  pub kept : ticket.generation < last_generation → KeepsSlot ticket.slot new.free.history new.hand
  pub slots : ticket.generation < last_generation → Inserted ticket.slot (slots_out old) (slots_out new)
  pub last : last_generation ≤ ticket.generation → slots_out new ≡ slots_out old

-- only a connection that has ended gives its slot
abbrev pub SlotsKept : Ticket → Result Worked ServerFault → Own → Own → Type 0
SlotsKept ticket (Ok worked.Ended) old new = SlotGiven ticket old new
SlotsKept ticket result old new = slots_out new ≡ slots_out old

-- What a turn with these exchanges does to what its thread owns: the seat made no others, the ticket was put if one of
-- them answered Wake, and the slot was given if the connection ended
pub record TurnDone (ticket : Ticket) (exchanges : List Exchange) (result : Result Worked ServerFault) (old new : Own) : Type 0 where
  pub seat : Adds ticket.slot exchanges old.seat new.seat
  pub tickets : TicketsKept ticket (minted_by exchanges) old new
  pub slots : SlotsKept ticket result old new
  pub took : TookNothing old new

module _ {S : Type 0} (made : Made S) (ticket : Ticket) where
  -- a release alone, which answers Quiet only if the seat knew of no note
  pub record LeftSlot (old new : Own) (from to : S) : Type 0 where
    pub woke : Bool
    pub quiet : woke ≡ false → (account_at old.seat ticket.slot).known ≡ 0
    pub done : TurnDone ticket (Release woke ∷ []) (Ok worked.Quiet) old new
    pub acts : AreMade made ticket.slot (leaving woke) from to

  module _ (result : Result Worked ServerFault) where
    -- the acts of a turn after its first n were made
    abbrev pub ActsLeft : ℕ → Bool → Bool → S → S → Type 0
    ActsLeft n other woke from to = AreMade made ticket.slot (drop n (acts_of result ticket.generation other woke)) from to

    -- The rest of a turn, after `exchanged` of its exchanges and `acted` of its acts
    pub record TurnRest (other : Bool) (exchanged acted : ℕ) (old new : Own) (from to : S) : Type 0 where
      pub noted : ℕ
      pub woke : Bool
      pub held : WasHeld result
      pub refused : IfErr result (λ fault. OnlyWorn fault new.seat)
      pub done : TurnDone ticket (drop exchanged (turn_exchanges result 0 noted woke)) result old new
      pub acts : ActsLeft acted other woke from to

-- the exchanges of a turn with a ticket of this slot: if the claim words lack the slot, none, and the answer is Gone
pub record IsTurnOf (words slot : ℕ) (result : Result Worked ServerFault) (exchanges : List Exchange) : Type 0 where
  pub found : ℕ
  pub noted : ℕ
  pub woke : Bool
  pub inside : slot < words → exchanges ≡ turn_exchanges result found noted woke
  pub outside : words ≤ slot → (exchanges ≡ []) × (result ≡ Ok worked.Gone)

-- what a turn does to what its thread owns
pub record TurnMade (words : ℕ) (ticket : Ticket) (result : Result Worked ServerFault) (old new : Own) : Type 0 where
  pub exchanges : List Exchange
  pub are : IsTurnOf words ticket.slot result exchanges
  pub done : TurnDone ticket exchanges result old new
  pub outside : words ≤ ticket.slot → new.seat ≡ old.seat

-- the pair, noted if there were notes
abbrev pub noted_by : ℕ → PairState → PairState
noted_by notes pair = if nat_lt 0 notes then noted pair else pair

-- How a wire is served: at this second these answers to a pair's calls on a side led it from one state to another
abbrev pub WireServes : Type 0 → Type 1
WireServes S = ℕ → S → S → Side → PairState → List AnswerValue → Type 0

-- how a connection is played after this many notes were taken: what it was, and what it was after its calls
abbrev pub Playing : Type 0 → Type 0 → Type 1
Playing C T = ℕ → Berth C T → Berth C T → Type 0

-- a connection had one turn on its two wires: with this budget, at this second, and with this idle limit
abbrev pub Plays : {C T : Type 0} → WireServes C → WireServes T → ℕ → ℕ → ℕ → Playing C T
Plays client target budget second limit notes old new = IsTurn budget second limit (noted_by notes old.pair) new.pair
    (client second old.client new.client) (target second old.target new.target)

-- How a connection is played: at a second that the clock may show, with no more calls than the budget, and with this idle limit
abbrev pub PlaysAt : {C T : Type 0} → WireServes C → WireServes T → (ℕ → Type 0) → ℕ → ℕ → Playing C T
PlaysAt client target tells budget limit notes old new = (second : ℕ) × tells second × Plays client target budget second limit notes old new

-- A turn's connection: which it found in the place, what that was before and after its calls, and before and after its sockets
-- sent what they held back, and which was put in or closed
pub record Handled (C T : Type 0) : Type 0 where
  pub found : Option (Berth C T)
  pub played : Option (Berth C T × Berth C T)
  pub settled : Option (Berth C T × Berth C T)
  pub left : Option (Berth C T)

-- What is known of a turn's acts: the one that looks into the place finds the connection that was found, those that work with
-- its sockets do so as was said, and the one that puts a connection in or closes it does so with the one that was left
abbrev pub Handling : {S C T : Type 0} → (Option (Berth C T) → S → Type 0) → (Berth C T → Berth C T → S → Type 0)
    → (Berth C T → S → Type 0) → Made S → Handled C T → Made S
Handling found played moved made h TakeOut slot from to = made TakeOut slot from to × found h.found to
Handling found played moved made h Play slot from to = made Play slot from to × IfSome h.played (λ both. played both.0 both.1 to)
Handling found played moved made h Settle slot from to = made Settle slot from to × IfSome h.settled (λ both. played both.0 both.1 to)
Handling found played moved made h PutIn slot from to = made PutIn slot from to × IfSome h.left (λ berth. moved berth to)
Handling found played moved made h Close slot from to = made Close slot from to × IfSome h.left (λ berth. moved berth to)
Handling found played moved made h act slot from to = made act slot from to

-- What a turn with this answer leaves of a connection, by what it was after its calls: the same, but after Quiet its sockets
-- sent what they held back. A refused one, whose seat is worn, leaves it as Again does. Busy and Gone play none
abbrev pub LeavesAs : {C T : Type 0} → Result Worked ServerFault → Handled C T → Berth C T → Berth C T → Type 0
LeavesAs (Ok worked.Busy) h played new = ⊥
LeavesAs (Ok worked.Gone) h played new = ⊥
LeavesAs (Ok worked.Quiet) h played new =
    (h.settled ≡ Some (played, new)) × (new.pair ≡ played.pair) × (outcome_of new.pair ≡ turn.Quiet)
LeavesAs (Ok worked.Again) h played new = (new ≡ played) × (outcome_of new.pair ≡ turn.Again)
LeavesAs (Ok worked.Ended) h played new =
    (new ≡ played) × ((outcome_of new.pair ≡ turn.Done) ⊎ (outcome_of new.pair ≡ turn.Failed))
LeavesAs (Err fault) h played new = (new ≡ played) × (outcome_of new.pair ≡ turn.Again)

-- the ticket of a connection
abbrev pub ticket_of : PairState → Ticket
ticket_of pair = record { slot = pair.slot; generation = pair.generation }

-- it found the ticket's own connection, played it after it took these notes, and put it back or closed it
abbrev pub HandlesOwn : {C T : Type 0} → Playing C T → ℕ → Ticket → Result Worked ServerFault → Handled C T → Type 0
HandlesOwn plays notes ticket result h = (old : Berth _ _) × (played : Berth _ _) × (new : Berth _ _) × (h.found ≡ Some old)
    × (h.played ≡ Some (record old { pair = noted_by notes old.pair }, played)) × (h.left ≡ Some new)
    × (ticket_of old.pair ≡ ticket) × plays notes old played × LeavesAs result h played new

-- What a turn did with its connection, by its answer. A busy turn does not look. One that is Gone found no connection that has
-- the ticket, and put back what it found
abbrev pub Handles : {C T : Type 0} → Playing C T → ℕ → Ticket → Result Worked ServerFault → Handled C T → Type 0
Handles plays notes ticket (Ok worked.Busy) h = Unit {0}
Handles plays notes ticket (Ok worked.Gone) h = IfSome h.found (λ berth. ticket_of berth.pair ≢ ticket) × (h.left ≡ h.found)
Handles plays notes ticket (Ok worked.Quiet) h = HandlesOwn plays notes ticket (Ok worked.Quiet) h
Handles plays notes ticket (Ok worked.Again) h = HandlesOwn plays notes ticket (Ok worked.Again) h
Handles plays notes ticket (Ok worked.Ended) h = HandlesOwn plays notes ticket (Ok worked.Ended) h
Handles plays notes ticket (Err fault) h = HandlesOwn plays notes ticket (Err fault) h

-- what was in hand was put, until nothing was left or the queue refused it, as it shows
pub record PutFirst (put : HandPut) (old new : Own) : Type 0 where
  pub seat : new.seat ≡ old.seat
  pub tickets : tickets_out new ≡ tickets_out old
  pub slots : slots_out new ≡ slots_out old
  pub took : TookNothing old new
  pub all_tickets : OnOk put.tickets (new.hand.tickets ≡ [])
  pub all_slots : OnOk put.slots (new.hand.slots ≡ [])

-- What is known of a turn's acts, which handle this much, and how it plays a connection
module _ {S C T : Type 0} (made : Handled C T → Made S) (plays : Playing C T) where
  -- the rest of a turn that found this connection of its own, once it was taken out, and what the turn did with it
  pub record RunRest (ticket : Ticket) (connection : Berth C T) (result : Result Worked ServerFault) (old new : Own)
      (from to : S) : Type 0 where
    pub did : Handled C T
    pub found : did.found ≡ Some connection
    pub rest : TurnRest (made did) ticket result (is_some did.found) 1 2 old new from to
    pub handles : Handles plays rest.noted ticket result did

  module _ (words : ℕ) where
    -- `TurnMade`, with the turn's acts, in order, and what it did with the connection; no act if the claim words lack the slot
    abbrev pub TurnInOrder : Ticket → Result Worked ServerFault → Own → Own → S → S → Type 0
    TurnInOrder ticket result old new from to =
        (turn : TurnMade words ticket result old new)
        × (ticket.slot < words → (h : Handled C T) × Handles plays turn.are.noted ticket result h
        × ActsLeft (made h) ticket result 0 (is_some h.found) turn.are.woke from to)
        × (words ≤ ticket.slot → to ≡ from)

    -- A worker's turn. What was in hand was put before anything else. Then the turn made its exchanges and its acts in order,
    -- by its answer, and played the connection that it found
    pub record WorkerTurn (ticket : Ticket) (first : HandPut) (result : Result Worked ServerFault) (old new : Own) (from to : S)
        : Type 0 where
      pub begun : Own
      pub put : PutFirst first old begun
      pub turn : TurnInOrder ticket result begun new from to

    -- the oldest ticket in hand was taken out, and had its turn
    pub record OldestRan (result : Result Worked ServerFault) (old new : Own) (from to : S) : Type 0 where
      pub ticket : Ticket
      pub oldest : slice_get old.hand.tickets 0 ≡ Some ticket
      pub turn : TurnInOrder ticket result (without_first old) new from to

    -- a poller's own turn. After None nothing has changed
    abbrev pub OwnTurn : Result (Option Worked) ServerFault → Own → Own → S → S → Type 0
    OwnTurn (Ok None) old new from to = (new ≡ old) × (to ≡ from)
    OwnTurn (Ok (Some worked)) old new from to = OldestRan (Ok worked) old new from to
    OwnTurn (Err fault) old new from to = OldestRan (Err fault) old new from to

-- the heavy marks after an own turn: a slot whose connection spent the budget has all 16
abbrev pub marks_after : Option Ticket → Result (Option Worked) ServerFault → List ℕ → List ℕ
marks_after (Some ticket) (Ok (Some worked.Again)) heavy = slice_set heavy ticket.slot heavy_marks
marks_after ticket result heavy = heavy

-- why a poller's thread runs no turn: no ticket is in hand, or no further slot fits there
abbrev pub NoOwnTurn : Own → Type 0
NoOwnTurn own = (own.hand.tickets ≡ []) ⊎ (own.hand.capacity ≤ length own.hand.slots)
