-- What a thread has in hand: the tickets and the free slots that it has put into no queue yet, oldest first.
use Rattle.std.specs.Prelude.{◌≡◌, ℕ, ◌-◌, ◌<◌, ◌≤◌, List, [], length}
use Rattle.queues.specs.declared.ticket.Ticket.{Ticket}

-- at most `capacity` tickets, and as many slots
pub record HandState : Type 0 where
  pub tickets : List Ticket
  pub slots : List ℕ
  pub capacity : ℕ

-- a hand that has nothing
abbrev pub empty_hand : ℕ → HandState
empty_hand capacity = record { tickets = []; slots = []; capacity = capacity }

-- how many more tickets fit
abbrev pub ticket_room : HandState → ℕ
ticket_room h = h.capacity - length h.tickets

-- one ticket more and one slot more fit
pub record HasRoom (h : HandState) : Type 0 where
  pub tickets : length h.tickets < h.capacity
  pub slots : length h.slots < h.capacity

-- nothing came in, so at least as much fits as before
pub record Shrank (old new : HandState) : Type 0 where
  pub tickets : length new.tickets ≤ length old.tickets
  pub slots : length new.slots ≤ length old.slots
  pub capacity : new.capacity ≡ old.capacity
