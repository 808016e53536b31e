-- What a thread had to put into a queue so far: what its end of the queue has put, and then what is in hand for that
-- queue. While this list stays as it is, nothing of it is lost, doubled or moved.
use Rattle.std.specs.Prelude.{◌≡◌, ◌⊎◌, ℕ, List, [], ◌∷◌, ◌++◌, drop, map}
use Rattle.queues.specs.{declared.{history.History.History, ticket.Ticket.Ticket}, Steps.PutLast}
use Rattle.shared.specs.{Hands.HandState, declared.shared.Own.Own}

module _ {T : Type 0} where
  -- what an end has put, and then what is still in hand
  abbrev pub outgoing : History T → List T → List T
  outgoing history hand = map (λ (put : ℕ × T). put.1) history.put ++ hand

  -- one item more, at some place of the list. The others are what they were, in order
  pub record Inserted (item : T) (old new : List T) : Type 0 where
    pub before : List T
    pub after : List T
    pub was : old ≡ before ++ after
    pub is : new ≡ before ++ item ∷ after

-- the tickets that a thread had to put so far, in order
abbrev pub tickets_out : Own → List Ticket
tickets_out own = outgoing own.ready.history own.hand.tickets

-- the free slots that it had to give so far, in order
abbrev pub slots_out : Own → List ℕ
slots_out own = outgoing own.free.history own.hand.slots

-- a thread took nothing from the queue of tickets, and nothing from its queue of free slots
pub record TookNothing (old new : Own) : Type 0 where
  pub tickets : new.ready.history.taken ≡ old.ready.history.taken
  pub slots : new.free.history.taken ≡ old.free.history.taken

-- the thread without the oldest ticket in its hand
abbrev pub without_first : Own → Own
without_first own = record own { hand = record own.hand { tickets = drop 1 own.hand.tickets } }

-- the ticket is not lost: it is the last that this end of the queue has put, or the last in hand
abbrev pub KeepsTicket : Ticket → History Ticket → HandState → Type 0
KeepsTicket ticket history hand = PutLast ticket history ⊎ ((before : List Ticket) × (hand.tickets ≡ before ++ ticket ∷ []))

-- the slot is not lost: put last, or last in hand
abbrev pub KeepsSlot : ℕ → History ℕ → HandState → Type 0
KeepsSlot slot history hand = PutLast slot history ⊎ ((before : List ℕ) × (hand.slots ≡ before ++ slot ∷ []))
