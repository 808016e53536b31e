-- What the calls of a poller's loop add up to.
use Rattle.std.{proofs.Common.{◌≡◌, ℕ, ◌+◌, ◌≤◌, Bool, List, length, refl, add-one, inl, inr}, specs.Prelude.{◌↔◌, Option, Some, None, Ok, Err, IsOk, slice_get, ◌⊎◌}}
use Rattle.queues.specs.declared.ticket.Ticket.{Ticket}
use Rattle.sizes.specs.{declared.faults.ServerFault.{ServerFault, TheVariants.{Poll, Worn}}, Limits.own_turns}
use Rattle.shared.specs.{declared.{front.Unaccepted.Unaccepted, shared.Own.Own}, Posts.IsWorn}
use Rattle.turns.specs.Turns.{NoOwnTurn, marks_after}
use Rattle.threads.specs.PollerLoops.{OnlyMarked, OwnTurnMade, SharedAndRan, TurnsAfter, StopAsked, RoundMade, RoundOver}
use Rattle.rounds.specs.{Pollers.PollerState, Rounds.{LacksRoom, NoRound, RoundDone, RoundEnded, RoundKeeps, WaitedAsMay}}

-- a turn that was not made, or met a fault, marks no slot
none_marks : (t : Option Ticket) (heavy : List ℕ) → marks_after t (Ok None) heavy ≡ heavy
none_marks None heavy = refl
none_marks (Some t) heavy = refl

fault_marks : (t : Option Ticket) (fault : ServerFault) (heavy : List ℕ) → marks_after t (Err fault) heavy ≡ heavy
fault_marks None fault heavy = refl
fault_marks (Some t) fault heavy = refl

pub ran_fewer : {n : ℕ} {p q r : PollerState} {a b c : Own} → SharedAndRan n p q a b → OnlyMarked (Ok None) b q r → c ≡ b → n ≤ own_turns → NoOwnTurn b → TurnsAfter p r a c
ran_fewer {n} {q = q} {b = b} made marked same most none =
    rw (same, marked, none_marks (slice_get b.hand.tickets 0) q.heavy) (record { count = n; made = made; most = most; ended = inr none })

pub marked_none : (fault : ServerFault) {n : ℕ} {p q r : PollerState} {a b : Own} → SharedAndRan n p q a b → OnlyMarked (Err fault) b q r → SharedAndRan n p r a b
marked_none fault {q = q} {b = b} made marked = rw (marked, fault_marks (slice_get b.hand.tickets 0) fault q.heavy) made

-- one turn more was run
pub one_more : {n : ℕ} {p q r : PollerState} {a b c : Own} → SharedAndRan n p q a b → OwnTurnMade q r b c → SharedAndRan (n + 1) p r a c
one_more {q = q} {b = b} made turn = rw add-one (record {
  full = made.full;
  heavy = made.heavy;
  shared = made.shared;
  sharing = made.sharing;
  turns = (q, b, made.turns, turn);
})

module _ {said : Bool → Type 0} (tells : ℕ → Type 0) (gave_none : Unaccepted → Type 0) {limit words : ℕ} {p q : PollerState} {a b : Own} where
  -- a round, after a look at the flag
  abbrev pub round_made : {begun : PollerState} → StopAsked said p begun → RoundDone begun q a b → RoundKeeps limit begun q a b
      → words ≡ length q.table → LacksRoom words a ⊎ WaitedAsMay limit begun q a b
      → RoundMade said tells gave_none limit p q a b
  round_made {begun} asked done keeps same waits = record { begun = begun; asked = asked; round = done; keeps = keeps; waits = rw same at waits }

  -- it was not refused
  pub round_over : {done : Unit {0}} (made : RoundMade said tells gave_none limit p q a b) → words ≡ length q.table
      → (LacksRoom words a → IsOk {E = ServerFault} (Ok done) × NoRound made.begun q a b)
      → LacksRoom words a ⊎ ((Ok done ≡ Err Poll) ⊎ (((Ok done ≡ Err Worn) ↔ IsWorn b.seat) × RoundEnded tells gave_none limit made.begun q b))
      → RoundOver said tells gave_none limit p q a b
  round_over made same early (inl few) = record { made = made; ended = inl (rw (← same) few, (early few).1) }
  round_over made same early (inr (inl failed)) = absurd (cc failed)
  round_over made same early (inr (inr ended)) = record { made = made; ended = inr ((λ worn. cc (ended.0.1 worn)), ended.1) }
