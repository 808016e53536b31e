-- What an end of a queue has put, and after it what is in hand.
use Rattle.std.{proofs.{Common.{◌≡◌, ℕ, List, [], ◌∷◌, ◌++◌, sym, refl, append_assoc}, lemmas.List.{map-append, append-nil}}, specs.Prelude.map}
use Rattle.queues.specs.{declared.{history.History.History, ticket.Ticket.Ticket}, Steps.{EndState, PutOne, QueueEnd}}
use Rattle.shared.specs.{declared.shared.Own.Own, Hands.HandState, Outgoing.{outgoing, Inserted, tickets_out, slots_out}}

module _ {T : Type 0} where
  -- an item that was not in hand is put
  pub put_inserts : (old new : History T) (item : T) (hand : List T) → PutOne old item new →
      Inserted item (outgoing old hand) (outgoing new hand)
  put_inserts old new item hand put = record {
    before = map (λ (put : ℕ × T). put.1) old.put;
    after = hand;
    was = refl;
    is = rw (put.put, map-append, append_assoc);
  }

  -- it is kept in hand
  pub kept_inserts : (history : History T) (item : T) (hand : List T) →
      Inserted item (outgoing history hand) (outgoing history (hand ++ item ∷ []))
  kept_inserts history item hand = record {
    before = outgoing history hand;
    after = [];
    was = sym (append-nil (outgoing history hand));
    is = sym (append_assoc (map (λ (put : ℕ × T). put.1) history.put) hand (item ∷ []));
  }

-- the queue refused a ticket, which is the last in hand now
pub refused_ticket : (own : Own) (ready : QueueEnd Ticket) (hand : HandState) (item ticket : Ticket) →
    ready ≡ own.ready → item ≡ ticket → hand ≡ record own.hand { tickets = own.hand.tickets ++ item ∷ [] } →
    Inserted ticket (tickets_out own) (outgoing ready.history hand.tickets)
refused_ticket own ready hand item ticket same is kept =
    rw (same, kept, is) (kept_inserts own.ready.history ticket own.hand.tickets)

-- it refused a slot
pub refused_slot : (own : Own) (free : EndState ℕ) (hand : HandState) (item slot : ℕ) →
    free ≡ own.free → item ≡ slot → hand ≡ record own.hand { slots = own.hand.slots ++ item ∷ [] } →
    Inserted slot (slots_out own) (outgoing free.history hand.slots)
refused_slot own free hand item slot same is kept =
    rw (same, kept, is) (kept_inserts own.free.history slot own.hand.slots)
