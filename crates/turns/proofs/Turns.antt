-- The end of a turn, after the steps that took the notes and ran the connection; and the tickets in hand of which some
-- were looked at: each of those is put, or after the others in hand.
use Rattle.std.{proofs.{Common.{◌≡◌, ◌⊎◌, ◌+◌, ◌<◌, ◌≤◌, ℕ, List, [], ◌∷◌, length, drop, slice_get, get_or, Bool, true, false, Option, Some, None, Result, Ok, IfSome, IfErr, IfNone, inl, inr, refl, sym, ap, ◌∙◌, arith, suc, ◌++◌, append_assoc, zero}, lemmas.{Option.same_Some, Bool.{cases_lt, false≢true}, List.{append-nil, drop_more, drop_all}}}, specs.Option.{is_some, ok_or, option_or, IsSome}}
use Rattle.claims.{specs.{declared.{view.{Account.Account, Exchange.{Exchange, TheVariants.{Held, Take, Post}}}, answers.Posted.Posted}, Calls.PostChange, Views.{after_all, minted_by}, Seats.{TableId, SeatState, Holds, OnlyAt, Adds}}, proofs.Seats.{adds_both, account_after, minted_both, holds_nothing_again}}
use Rattle.shared.{proofs.Holding.holds_from, specs.{declared.{places.Berth.Berth, shared.Own.Own}, Posts.{AtRest, HoldsOnly, IsWorn, OnlyWorn}, Hands.{HandState, HasRoom}, Acts.{AreMade, Made, giving}, Heavy.looked_at}}
use Rattle.queues.specs.{declared.ticket.Ticket.Ticket, Steps.QueueEnd}
use Rattle.engine.specs.Turns.{outcome_of}
use Rattle.sizes.specs.declared.faults.ServerFault.{ServerFault, TheVariants.Worn}
use Rattle.turns.specs.{declared.worker.Worked.Worked, Turns.{noted_by, ActsLeft, Handled, Handles, LeavesAs, Playing, RunRest, WasHeld, TurnInOrder, turn_exchanges, AtWork, TicketsKept, SlotGiven, SlotsKept, TurnDone, TurnRest, TurnMade, ticket_of}, Shares.{AreShared, IsLight, OneShared, Passed, Stays}}
use Rattle.claims.specs.declared.answers.Posted.TheVariants as posted
use Rattle.engine.specs.declared.outcome.Turn.TheVariants as turn
use Rattle.turns.specs.declared.worker.Worked.TheVariants as worked
use Rattle.shared.specs.Acts as act

abbrev Answer : Type 0
Answer = Result Worked ServerFault

-- What was to be put is what it was before some exchanges

-- nothing was put or taken
abbrev pub Still : Own → Own → Type 0
Still a b = (b.ready ≡ a.ready) × (b.free ≡ a.free) × (b.hand ≡ a.hand)

tickets_as : (t : Ticket) (a b c : Own) → Still a b → (minted : ℕ) → TicketsKept t minted b c → TicketsKept t minted a c
tickets_as t a b c still zero same = rw (still.0, still.2) at same
tickets_as t a b c still (suc n) put = record { kept = put.kept; tickets = rw (still.0, still.2) at put.tickets }

slots_as : (t : Ticket) (a b c : Own) → Still a b → (r : Answer) → SlotsKept t r b c → SlotsKept t r a c
slots_as t a b c still (Ok worked.Ended) given = record { kept = given.kept; slots = λ less. rw (still.1, still.2) at (given.slots less); last = λ last. rw (still.1, still.2) at (given.last last) }
slots_as t a b c still _ same = rw (still.1, still.2) at same

-- some exchanges that made no ticket came before
pub done_after : {t : Ticket} {a b c : Own} {fs : List Exchange} {q r : Answer} (es : List Exchange) → Adds t.slot es a.seat b.seat → minted_by es ≡ 0
    → Still a b → (SlotsKept t q b c → SlotsKept t r a c) → TurnDone t fs q b c → TurnDone t (es ++ fs) r a c
done_after {t} {a} {b} {c} {fs} es adds none still slots done =
    let minted : minted_by (es ++ fs) ≡ minted_by fs = omega (arith, minted_both es fs) in
    record {
      seat = adds_both _ _ _ _ _ _ adds done.seat;
      tickets = rw minted (tickets_as t a b c still (minted_by fs) done.tickets);
      slots = slots done.slots;
      took = record { tickets = rw still.0 at done.took.tickets; slots = rw still.1 at done.took.slots };
    }

-- a slot is held after a claim
pub at_work : {slot : ℕ} {a : Own} {s : SeatState} {claims : TableId} {found : ℕ} → AtRest claims a → HasRoom a.hand → slot < claims.words
    → Adds slot (Held found ∷ []) a.seat s → AtWork claims slot (record a { seat = s })
at_work rest room within adds =
    record { same = adds.only.table ∙ rest.same; inside = within; holder = holds_from _ _ _ _ adds rest.idle refl; room = room }

-- and worked on still
pub still_at_work : {slot : ℕ} {a b : Own} {claims : TableId} → AtWork claims slot a → HoldsOnly slot b.seat → OnlyAt slot a.seat b.seat → b.hand ≡ a.hand
    → AtWork claims slot b
still_at_work work holder only hand = record { same = only.table ∙ work.same; inside = work.inside; holder = holder; room = rw hand work.room }

-- What a turn did with the ticket's own connection, which is left as the answer says

pub due_as : {C T : Type 0} (o : Option Worked) (h : Handled C T) (b : Berth C T) → IfSome o (λ w. w ≡ worked.Again) → outcome_of b.pair ≡ turn.Again → LeavesAs (ok_or o Worn) h b b
due_as (Some w) h b is due = rw is (refl, due)
due_as None h b is due = (refl, due)

abbrev pub own_of : {C T : Type 0} → ℕ → Berth C T → Berth C T → Berth C T → Option (Berth C T × Berth C T) → Handled C T
own_of notes old now new settled =
    record { found = Some old; played = Some (record old { pair = noted_by notes old.pair }, now); settled = settled; left = Some new }

-- its notes were taken, its calls were made, and then the turn came to its end
pub played_then : {S C T : Type 0} {acts : Handled C T → Made S} {plays : Playing C T} {t : Ticket} {a b c : Own} {from to : S} (mid then : S)
    (r : Answer) (notes : ℕ) (old now new : Berth C T) (settled : Option (Berth C T × Berth C T)) → let h = own_of notes old now new settled in
    ticket_of old.pair ≡ t → acts h act.TakeNotes t.slot from mid → acts h act.Play t.slot mid then → Adds t.slot (Take notes ∷ []) a.seat b.seat → Still a b
    → ((h : Handled C T) → h.settled ≡ settled → h.left ≡ Some new → TurnRest (acts h) t r true 2 4 b c then to) → plays notes old now → LeavesAs r h now new → RunRest acts plays t old r a c from to
played_then mid then (Ok worked.Busy) notes old now new settled own taken called adds still rest ran ends = absurd ends
played_then mid then (Ok worked.Gone) notes old now new settled own taken called adds still rest ran ends = absurd ends
played_then {t = t} {a = a} {b = b} {c = c} mid then r notes old now new settled own taken called adds still ends_then ran ends =
    let rest = ends_then (own_of notes old now new settled) refl refl in
    record {
      did = own_of notes old now new settled;
      found = refl;
      rest = record {
        noted = notes;
        woke = rest.woke;
        held = tt;
        refused = rest.refused;
        done = done_after (Take notes ∷ []) adds refl still (slots_as t a b c still r) rest.done;
        acts = (mid, taken, (then, called, rest.acts));
      };
      handles = (old, now, new, refl, refl, refl, own, ran, ends);
    }

module _ {S C T : Type 0} (acts : Handled C T → Made S) (plays : Playing C T) {t : Ticket} {words found : ℕ} {a c : Own} {s : SeatState} (from to : S)
    (within : t.slot < words) (adds : Adds t.slot (Held found ∷ []) a.seat s) where
  -- the slot was claimed, and then the turn went on
  pub held_made : {r : Answer} (noted : ℕ) (woke : Bool) (h : Handled C T) → WasHeld r → TurnDone t (drop 1 (turn_exchanges r 0 noted woke)) r (record a { seat = s }) c
      → ActsLeft (acts h) t r 0 (is_some h.found) woke from to → Handles plays noted t r h → TurnInOrder acts plays words t r a c from to
  held_made {r} noted woke h held done made handles = (
    record {
      exchanges = Held found ∷ drop 1 (turn_exchanges r 0 noted woke);
      are = record { found = found; noted = noted; woke = woke; inside = λ lt. all r held; outside = λ past. absurd (omega arith) };
      done = done_after (Held found ∷ []) adds refl (refl, refl, refl) (slots_as t a (record a { seat = s }) c (refl, refl, refl) r) done;
      outside = λ past. absurd (omega arith);
    },
    λ lt. (h, handles, made),
    λ past. absurd (omega arith),
  ) where
    all : (r : Answer) → WasHeld r → Held found ∷ drop 1 (turn_exchanges r 0 noted woke) ≡ turn_exchanges r found noted woke
    all (Ok worked.Busy) held = absurd held
    all _ held = refl

  -- and its place had the ticket's own connection
  pub own_made : {r : Answer} {old : Berth C T} {Plays : Playing C T} (mid then : S) → ((h : Handled C T) → acts h act.Claim t.slot from mid)
      → ((h : Handled C T) → h.found ≡ Some old → acts h act.TakeOut t.slot mid then) → ((notes : ℕ) (x y : Berth C T) → Plays notes x y → plays notes x y)
      → RunRest acts Plays t old r (record a { seat = s }) c then to → TurnInOrder acts plays words t r a c from to
  own_made {r} {Plays = Plays} mid then claimed out more ran =
      held_made ran.rest.noted ran.rest.woke ran.did ran.rest.held ran.rest.done (began r ran.rest.held ran.rest.acts) (told r ran.handles)
    where
      began : (r : Answer) → WasHeld r → ActsLeft (acts ran.did) t r 2 (is_some ran.did.found) ran.rest.woke then to
          → ActsLeft (acts ran.did) t r 0 (is_some ran.did.found) ran.rest.woke from to
      began (Ok worked.Busy) held made = absurd held
      began _ held made = (mid, claimed ran.did, (then, out ran.did ran.found, made))

      told : (r : Answer) → Handles Plays ran.rest.noted t r ran.did → Handles plays ran.rest.noted t r ran.did
      told (Ok worked.Busy) handles = tt
      told (Ok worked.Gone) handles = handles
      told _ (old, now, new, found, had, left, same, played, leaves) = (old, now, new, found, had, left, same, more _ old now played, leaves)

-- what is known of a slot that is given may be said in other words
pub gives_as : {S : Type 0} (made more : Made S) (slot : ℕ) (given : Bool) (from to : S) → ((x y : S) → made act.Give slot x y → more act.Give slot x y)
    → AreMade made slot (giving given) from to → AreMade more slot (giving given) from to
gives_as made more slot true from to same acts = (acts.0, same _ _ acts.1, acts.2)
gives_as made more slot false from to same acts = acts

-- a post by the slot's holder does not answer Wake
pub posted_quiet : (slot : ℕ) (r : Posted) {a b : SeatState} → (r ≡ posted.Wake) ⊎ (r ≡ posted.Quiet) → Holds a slot → PostChange slot a r b → Adds slot (Post false ∷ []) a b
posted_quiet slot posted.Wake is holds change = absurd (false≢true (sym change.1 ∙ holds))
posted_quiet slot posted.Quiet is holds change = change
posted_quiet slot posted.Worn is holds change = absurd (grind arith)

lets_go : (r : Answer) (found noted : ℕ) (woke : Bool) (a : Account) → a.holds ≡ false → (after_all (turn_exchanges r found noted woke) a).holds ≡ false
lets_go (Ok worked.Busy) found noted woke a none = none
lets_go _ found noted woke a none = refl

-- a turn ends with no slot held
pub rests : {claims : TableId} {t : Ticket} {r : Answer} {a b : Own} → AtRest claims a → TurnMade claims.words t r a b → AtRest claims b
rests {claims} {t} {r} rest made = record {
  same = made.done.seat.only.table ∙ rest.same;
  idle = elim (cases_lt t.slot claims.words) [
    | inl lt ↦ holds_nothing_again rest.idle made.done.seat.only (
        ap (λ (x : Account). x.holds) (account_after _ _ _ _ made.done.seat) ∙ rw (made.are.inside lt) (lets_go r _ _ _ _ (rest.idle.nowhere t.slot)))
    | inr past ↦ rw (made.outside past) rest.idle
  ];
}

pub given_if_ended : {t : Ticket} {o : Option Worked} {a b : Own} → SlotsKept t (ok_or o Worn) a b → o ≡ Some worked.Ended → SlotGiven t a b
given_if_ended kept ended = rw ended at kept

-- a turn that is refused met the fault Worn
pub only_worn : (o : Option Worked) (s : SeatState) → IfNone o (IsWorn s) → IfErr (ok_or o Worn) (λ fault. OnlyWorn fault s)
only_worn (Some w) s is = tt
only_worn None s is = (refl, is)

pub answered : (o : Option Worked) (w : Worked) → ok_or o Worn ≡ Ok w → o ≡ Some w
answered (Some v) w is = cc
answered None w is = absurd (cc)

-- Of all these, `done` were looked at and `stayed` have stayed. Whatever becomes of the rest, it is what becomes of all
pub record SharedSoFar {X : Type 0} (full : Option X) (all : List Ticket) (marks : List ℕ) (queue : QueueEnd Ticket)
    (done stayed : ℕ) (hand : List Ticket) (heavy : List ℕ) (now : QueueEnd Ticket) : Type 0 where
  pub kept : List Ticket
  pub is : hand ≡ drop done all ++ kept
  pub whole : (f : Option X) → (IsSome full → IsSome f) → (last : List Ticket) (left : List ℕ) (end : QueueEnd Ticket)
      → AreShared f stayed heavy (drop done all) now last left end → AreShared f 0 marks all queue (kept ++ last) left end

-- what became of the ticket that was taken out of a hand, of which this is left
pub record OneMoved {X : Type 0} (was full : Option X) (stayed : ℕ) (heavy : List ℕ) (t : Ticket) (old : Own) (left : HandState) (then : ℕ) (new : Own) : Type 0 where
  pub behind : List Ticket
  pub one : OneShared full stayed heavy t old.ready then behind new.ready
  pub still : IsSome was → IsSome full
  pub hand : new.hand ≡ record left { tickets = left.tickets ++ behind }
  pub few : then ≤ stayed + 1
  pub took : new.ready.history.taken ≡ old.ready.history.taken
  pub seat : new.seat ≡ old.seat
  pub free : new.free ≡ old.free

one_rises : {X : Type 0} (was full : Option X) {stayed : ℕ} {heavy : List ℕ} {t : Ticket} {queue : QueueEnd Ticket} {then : ℕ} {behind : List Ticket} {next : QueueEnd Ticket}
    → (IsSome was → IsSome full) → OneShared was stayed heavy t queue then behind next → OneShared full stayed heavy t queue then behind next
one_rises was full still (inl stays) = inl stays
one_rises was full still (inr (goes, same, inl put)) = inr (goes, same, inl put)
one_rises was full still (inr (goes, same, inr refused)) = inr (goes, same, inr (still refused.0, refused.1, refused.2))

or_first : {X : Type 0} (a b : Option X) → IsSome a → IsSome (option_or a b)
or_first (Some x) b is = refl
or_first None b is = absurd (false≢true is)

or_second : {X : Type 0} (a b : Option X) → IsSome b → IsSome (option_or a b)
or_second (Some x) b is = refl
or_second None b is = is

module _ {X : Type 0} {was full : Option X} {stayed : ℕ} {heavy : List ℕ} {t : Ticket} {old : Own} {left : HandState} {then : ℕ} {new o : Own} where
  pub kept_moves : full ≡ was → IsLight heavy t → then ≡ stayed + 1 → new ≡ o → o.hand ≡ record left { tickets = left.tickets ++ t ∷ [] }
      → o.ready ≡ old.ready → o.seat ≡ old.seat → o.free ≡ old.free → OneMoved was full stayed heavy t old left then new
  kept_moves same light more is hand ready seat free =
      rw is (record { behind = t ∷ []; one = inl (light, omega arith, refl, ready); still = λ s. rw same s; hand = hand; few = omega arith; took = rw ready; seat = seat; free = free })

  pub passed_moves : (p : Option X) → full ≡ option_or p was → (Stays stayed heavy t → ⊥) → then ≡ stayed → new ≡ o → Passed p t (record old { hand = left }) o
      → o.seat ≡ old.seat → o.free ≡ old.free → OneMoved was full stayed heavy t old left then new
  passed_moves p same goes stay is (inl put) seat free =
      rw is (record {
        behind = [];
        one = inr (goes, stay, inl (put.0, refl));
        still = λ s. rw same (or_second p was s);
        hand = rw append-nil put.1;
        few = omega arith;
        took = rw put.0.put.put;
        seat = seat;
        free = free;
      })
  passed_moves p same goes stay is (inr refused) seat free =
      rw is (record {
        behind = t ∷ [];
        one = inr (goes, stay, inr (rw same (or_first p was refused.0), refused.1, refl));
        still = λ s. rw same (or_second p was s);
        hand = refused.2;
        few = omega arith;
        took = rw refused.1;
        seat = seat;
        free = free;
      })

first_left : (all kept : List Ticket) (done : ℕ) (t : Ticket) → done < length all → slice_get (drop done all ++ kept) 0 ≡ Some t → drop done all ≡ t ∷ drop (done + 1) all
first_left all kept done t more first =
    let next = drop_more all done t more in
    rw (same_Some (get_or all done t) t (rw next at first)) at next

module _ {X : Type 0} {full : Option X} {all : List Ticket} {marks : List ℕ} {queue : QueueEnd Ticket} {done stayed : ℕ} {hand : List Ticket} {heavy : List ℕ} {now : QueueEnd Ticket}
    (so_far : SharedSoFar full all marks queue done stayed hand heavy now) where
  -- one more was looked at, the first in hand
  pub shared_more : {f : Option X} {t : Ticket} {left behind : List Ticket} {then : ℕ} {next : QueueEnd Ticket} → (IsSome full → IsSome f) → done < length all → slice_get hand 0 ≡ Some t
      → left ≡ drop 1 hand → OneShared f stayed heavy t now then behind next → SharedSoFar f all marks queue (done + 1) then (left ++ behind) (looked_at t.slot heavy) next
  shared_more {t = t} {left = left} {behind = behind} {then = then} {next = next} still more first taken one =
      let rest = first_left all so_far.kept done t more (rw so_far.is at first) in
      record {
        kept = so_far.kept ++ behind;
        is = rw (taken, so_far.is, rest) (append_assoc (drop (done + 1) all) so_far.kept behind);
        whole = λ g up last left end given. rw append_assoc (so_far.whole g (λ s. up (still s)) (behind ++ last) left end (rw rest (then, behind, next, last, one_rises _ _ up one, refl, given)));
      }

  -- nothing is left to look at
  pub shared_all : length all ≤ done → AreShared full 0 marks all queue hand heavy now
  shared_all none =
      let rest = drop_all done all none in
      rw (so_far.is, rest) (rw append-nil at (so_far.whole full (λ s. s) [] heavy now (rw rest (refl, refl, refl))))
