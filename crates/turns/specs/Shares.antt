-- Which tickets a poller's thread keeps for turns of its own, and which it puts for the workers.
use Rattle.std.specs.Prelude.{◌≡◌, ◌⊎◌, ℕ, suc, ◌<◌, List, [], ◌∷◌, ◌++◌, slice_index, Option, IsSome}
use Rattle.queues.specs.{declared.ticket.Ticket.Ticket, Steps.{IsStill, PutOne, QueueEnd}}
use Rattle.shared.specs.{Heavy.looked_at, declared.shared.Own.Own}
use Rattle.sizes.specs.Limits.{first_light}

-- the ticket was put
pub record Puts (ticket : Ticket) (old new : QueueEnd Ticket) : Type 0 where
  pub put : PutOne old.history ticket new.history
  pub same : IsStill old new

-- the ticket's slot has no heavy mark
abbrev pub IsLight : List ℕ → Ticket → Type 0
IsLight heavy ticket = slice_index heavy ticket.slot ≡ 0

-- the ticket is light, and fewer than 16 have stayed
pub record Stays (stayed : ℕ) (heavy : List ℕ) (ticket : Ticket) : Type 0 where
  pub light : IsLight heavy ticket
  pub few : stayed < first_light

-- What becomes of a ticket in hand, once `stayed` others have stayed. A light one stays while fewer than 16 have, and a
-- later one may. Any other is put, or is in hand if the queue was full, as `full` shows. After that, `then` tickets have
-- stayed, `behind` has the ticket if it is in hand, and `next` is the queue's end
abbrev pub OneShared : {X : Type 0} → Option X → ℕ → List ℕ → Ticket → QueueEnd Ticket → ℕ → List Ticket → QueueEnd Ticket → Type 0
OneShared full stayed heavy ticket queue then behind next =
    (IsLight heavy ticket × (then ≡ suc stayed) × (behind ≡ ticket ∷ []) × (next ≡ queue))
    ⊎ ((Stays stayed heavy ticket → ⊥) × (then ≡ stayed)
    × ((Puts ticket queue next × (behind ≡ [])) ⊎ (IsSome full × (next ≡ queue) × (behind ≡ ticket ∷ []))))

-- What becomes of these tickets, in order. Each uses up one of its slot's marks, if there is any. Then the tickets
-- `kept` are in hand, the marks `left` are left, and `end` is the queue's end
abbrev pub AreShared : {X : Type 0} → Option X → ℕ → List ℕ → List Ticket → QueueEnd Ticket → List Ticket → List ℕ
    → QueueEnd Ticket → Type 0
AreShared full stayed heavy [] queue kept left end = (kept ≡ []) × (left ≡ heavy) × (end ≡ queue)
AreShared full stayed heavy (t ∷ ts) queue kept left end =
    (then : ℕ) × (behind : List Ticket) × (next : QueueEnd Ticket) × (rest : List Ticket)
    × OneShared full stayed heavy t queue then behind next × (kept ≡ behind ++ rest)
    × AreShared full then (looked_at t.slot heavy) ts next rest left end

-- a ticket that was in no hand was put, or is the last in hand if the queue was full, as `full` shows
abbrev pub Passed : {X : Type 0} → Option X → Ticket → Own → Own → Type 0
Passed full ticket old new =
    (Puts ticket old.ready new.ready × (new.hand ≡ old.hand))
    ⊎ (IsSome full × (new.ready ≡ old.ready) × (new.hand ≡ record old.hand { tickets = old.hand.tickets ++ ticket ∷ [] }))

-- the tickets in hand were shared. The marks were `heavy` and are `left`. Nothing else changed
pub record TicketsShared {X : Type 0} (full : Option X) (heavy left : List ℕ) (old new : Own) : Type 0 where
  pub tickets : AreShared full 0 heavy old.hand.tickets old.ready new.hand.tickets left new.ready
  pub took : new.ready.history.taken ≡ old.ready.history.taken
  pub seat : new.seat ≡ old.seat
  pub free : new.free ≡ old.free
  pub slots : new.hand.slots ≡ old.hand.slots
  pub capacity : new.hand.capacity ≡ old.hand.capacity
