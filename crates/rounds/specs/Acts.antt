-- What a thread's seat did, act by act, and what a round posts, also by its acts.
use Rattle.std.specs.{Prelude.{◌≡◌, ◌⊎◌, ℕ, zero, suc, ◌==◌, nat_lt, Bool, true, false, if◌then◌else◌, List, [], ◌∷◌, ◌++◌, length, map, Option, Some, None, slice_index}, List.{All, filter_map, flat_map, count_by, range_with_len}}
use Rattle.claims.specs.{declared.view.Exchange.{Exchange, TheVariants.{Post, Take, Release, Adopted, NotFree}}, Views.minted_by, Seats.{SeatState, trace_at}}
use Rattle.queues.specs.declared.ticket.Ticket.{Ticket}
use Rattle.token.specs.{declared.name.Name.{Name, TheVariants.{End}}, Numbers.name_of}
use Rattle.relay_core.specs.Idle.{is_past}
use Rattle.shared.specs.{Acts.{Made, Post as PostAct}, Hands.HandState, Posts.IsWorn}
use Rattle.rounds.specs.Pollers.{PollerState}

-- exchanges of a seat at the slot of a ticket
pub record SeatAct : Type 0 where
  pub ticket : Ticket
  pub exchanges : List Exchange

abbrev pub tickets_of : List SeatAct → List Ticket
tickets_of acts = map (λ (act : SeatAct). act.ticket) acts

-- the exchanges of acts at this slot, in order
abbrev pub exchanges_at : ℕ → List SeatAct → List Exchange
exchanges_at slot acts = flat_map (λ (act : SeatAct). if act.ticket.slot == slot then act.exchanges else []) acts

-- the ticket once, or nothing if it was made 0 times
abbrev pub made_by : ℕ → Ticket → List Ticket
made_by zero ticket = []
made_by (suc n) ticket = ticket ∷ []

-- the tickets that acts made, in order
abbrev pub due_of : List SeatAct → List Ticket
due_of acts = flat_map (λ (act : SeatAct). made_by (minted_by act.exchanges) act.ticket) acts

-- this seat made these acts, in order, and nothing else
pub record ActsMade (acts : List SeatAct) (old new : SeatState) : Type 0 where
  pub table : new.table ≡ old.table
  pub traces : (slot : ℕ) → trace_at new slot ≡ trace_at old slot ++ exchanges_at slot acts

-- a note was posted
abbrev pub IsPost : SeatAct → Type 0
IsPost act = (woke : Bool) × (act.exchanges ≡ Post woke ∷ [])

-- One note was posted for each of these connections, in order; but for those that are left, since the seat is worn
pub record ArePosts (tickets : List Ticket) (posts : List SeatAct) (seat : SeatState) : Type 0 where
  pub left : List Ticket
  pub each : All IsPost posts
  pub in_order : tickets_of posts ++ left ≡ tickets
  pub all : (left ≡ []) ⊎ IsWorn seat

-- the exchanges of an opening: the slot was adopted, old notes were taken, the opening's note was posted, and the slot
-- was released
abbrev pub opening : ℕ → ℕ → List Exchange
opening found noted = Adopted found ∷ Take noted ∷ Post false ∷ Release true ∷ []

-- a connection was opened, or its slot was found not to be free, or it was dropped, without an exchange
abbrev pub IsTry : SeatAct → Type 0
IsTry act = ((found : ℕ) × (noted : ℕ) × (act.exchanges ≡ opening found noted))
    ⊎ ((act.exchanges ≡ NotFree ∷ []) ⊎ (act.exchanges ≡ []))

-- the slot, if these exchanges found that it is not free
abbrev pub found_not_free : List Exchange → ℕ → List ℕ
found_not_free (NotFree ∷ rest) slot = slot ∷ []
found_not_free exchanges slot = []

-- the slots that acts found not to be free, in order
abbrev pub not_free_of : List SeatAct → List ℕ
not_free_of acts = flat_map (λ (act : SeatAct). found_not_free act.exchanges act.ticket.slot) acts

-- by these acts these connections were opened, and these slots were found not to be free
pub record AreTries (opened : List Ticket) (not_free : List ℕ) (tries : List SeatAct) : Type 0 where
  pub each : All IsTry tries
  pub made : due_of tries ≡ opened
  pub found : not_free_of tries ≡ not_free

-- The connection whose end a name names, if the slot's generation in the table is the name's. A slot that the table
-- lacks reads as generation 0, which no end has
abbrev pub connection : List ℕ → Option Name → Option Ticket
connection generations (Some (End end)) =
    if slice_index generations end.slot == end.generation then Some (record { slot = end.slot; generation = end.generation }) else None
connection generations name = None

-- the connection that a report is for, by its number
abbrev pub connection_reported : List ℕ → ℕ → Option Ticket
connection_reported generations number = connection generations (name_of number)

-- the connections that the reports of a batch are for, in order
abbrev pub all_reported : List ℕ → List ℕ → List Ticket
all_reported generations batch = filter_map (connection_reported generations) batch

-- how many of these tickets are for this slot
abbrev pub at_slot : ℕ → List Ticket → ℕ
at_slot slot tickets = count_by (λ t. t.slot == slot) tickets

-- For each of these connections, in order, one exchange posted a note at its slot; but for the last of them, if the
-- seat is worn. If the post answered Wake, the ticket is in hand. Nothing else of the seat or of the hand changed, and
-- nothing at all if the seat could post no more before
pub record ArePosted (tickets : List Ticket) (old new : SeatState) (had has : HandState) : Type 0 where
  pub posts : List SeatAct
  pub are : ArePosts tickets posts new
  pub made : ActsMade posts old new
  pub hand : has ≡ record had { tickets = had.tickets ++ due_of posts }
  pub still : IsWorn old → (new ≡ old) × (has ≡ had)

-- these steps were made, one after the other, and no others
abbrev pub InOrder : {S X : Type 0} → (X → S → S → Type 0) → List X → S → S → Type 0
InOrder step [] from to = to ≡ from
InOrder {S} step (x ∷ xs) from to = (between : S) × step x from between × InOrder step xs between to

-- these acts were made: for each of these connections, in order, a post at its slot
abbrev pub PostsMade : {S : Type 0} → Made S → List Ticket → S → S → Type 0
PostsMade made tickets from to = InOrder (λ (t : Ticket). made PostAct t.slot) tickets from to

-- the last connection that was opened in a slot, if one was
abbrev pub last_in : List ℕ → ℕ → Option Ticket
last_in table slot =
    if nat_lt 0 (slice_index table slot) then Some (record { slot = slot; generation = slice_index table slot }) else None

-- the last connections of the first this many slots, in rising order
abbrev pub opened_below : List ℕ → ℕ → List Ticket
opened_below table slots = filter_map (last_in table) (range_with_len 0 slots)

abbrev pub all_opened : List ℕ → List Ticket
all_opened table = opened_below table (length table)

-- a sweep is due in a round: at the second that the round before it read, the limit had passed since the last sweep
abbrev pub is_due : ℕ → PollerState → Bool
is_due limit p = is_past p.second limit p.swept

-- what counts as the second of the last sweep: `second`, if the limit had passed by then since `last`, else `last`
abbrev pub swept_after : ℕ → ℕ → ℕ → ℕ
swept_after limit second last = if is_past second limit last then second else last

-- the connections for which a round's sweep posted: the last of each slot, or none if the last sweep's second stayed
abbrev pub sweep_of : PollerState → PollerState → List Ticket
sweep_of old new = if new.swept == old.swept then [] else all_opened old.table
