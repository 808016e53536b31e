-- Connections that are opened one after the other, why one is closed unopened, and a round of its parts.
use Rattle.std.{proofs.{Common.{◌≡◌, ◌≢◌, ◌⊎◌, ℕ, ◌+◌, ◌<◌, ◌≤◌, List, [], ◌∷◌, ◌++◌, length, drop, slice_get, slice_set, min, cond, Bool, true, refl, sym, ◌∙◌, arith, inl, inr, append_assoc, length-append, Option, Some, None, ◌==◌, Result, Ok, Err, IfErr, IfOk, IfSome, MatchResult, slice_index, ap, ◌↔◌, IsTrue, false, Contains, if◌then◌else◌}, lemmas.{Bool.false≢true, List.{append-nil, length-set, get_or-set_other, get_or_past, Sums.sum_by-append}, Grind.get_or-set_at, Option.{none-some, same_Some}}}, specs.Prelude.IsErr}
use Rattle.claims.{specs.{declared.answers.Posted.Posted, Calls.PostChange, Seats.{SeatState, TableId, Adds, account_at}, declared.view.{Account.Account, Exchange.Exchange}, Views.after_all}, proofs.Seats.{account_after, adds_both, adds_none}}
use Rattle.shared.{specs.{Posts.{HoldsOnly, IsWorn, OnlyWorn}, declared.{places.Berth.Berth, shared.Own.Own, front.{Unaccepted.{Unaccepted, TheVariants.{Again, Blocked, Starved}}, Unopened.Unopened, Route.Route, Waiting.{Waiting, TheVariants.{No, Brief, Long}}}}, Hands.{HandState, ticket_room}, Acts.Made, Told.{cause_of, Seen, Waited}}, proofs.Holding.{holds_still, woke_behind_post, worn_still}}
use Rattle.sizes.specs.{declared.{split.Part.Part, cause.Cause.Cause, faults.ServerFault.{ServerFault, TheVariants.{Poll, Worn}}}, Splits.IsIn}
use Rattle.queues.specs.declared.ticket.Ticket.{Ticket}
use Rattle.relay_core.specs.Pairs.{PairState}
use Rattle.rounds.{specs.{declared.episodes.Episodes.Episodes, Acts.{SeatAct, opening, ActsMade, AreTries, InOrder, all_reported, ArePosted, sweep_of}, Openings.{times, with_slot, AreOpened, OnlyTook, SlotsCounted, Between, Started, Connected, OnlyAccepted, unmarked, IsOpened, IsSpent, AreLost, IsNext, SameQueues, Fate, FateKept, LeadGiven, RegisteredFirst, next_in, Opened, Dropped, Spent, NotFree, DropsFor, ActsOf, DropMade, TriesMade, TriesNext, lacks, lead_of}, Pollers.{PollerState, HasRisen, counted_up, HasOpenedAll}, Episodes.{flag_after, starved_after}, Rounds.{AcceptEnded, AllPosted, RoundInOrder, ListenerKept, ListensNoMore, ListensToOpen, Looked, OnlyAnswered, OnlyListens, RoundRefused, MayNotWait, WaitedAsMay, WaitsAsMay}}, proofs.Acts.{at_slot-append, acts_none, acts_one, acts_both, in_order, none_at, try_dropped, try_opened, tries_none, tries_both, holds_nothing_still, posted_none, posts_still, no_sweep}}
use Rattle.claims.specs.declared.view.Exchange.TheVariants as exchange
use Rattle.claims.specs.declared.answers.Posted.TheVariants as posted
use Rattle.sizes.specs.declared.cause.Cause.TheVariants as cause
use Rattle.shared.specs.declared.front.Unopened.TheVariants as unopened

-- counts

pub counted_same : {old new : ℕ} → new ≡ old → HasRisen old 0 new
counted_same same = inl (omega arith)

pub counted_one : (most old new : ℕ) → new ≡ min (old + 1) most → (new ≡ old + 1) ⊎ ((most ≤ old + 1) × (most ≤ new))
counted_one most old new is = grind arith

counted_both : (most a b c m n : ℕ)
    → (b ≡ a + m) ⊎ ((most ≤ a + m) × (most ≤ b)) → (c ≡ b + n) ⊎ ((most ≤ b + n) × (most ≤ c))
    → (c ≡ a + (m + n)) ⊎ ((most ≤ a + (m + n)) × (most ≤ c))
counted_both most a b c m n first second = grind arith

-- lists of slots

pub times-append : (slot : ℕ) (xs ys : List ℕ) → times slot (xs ++ ys) ≡ times slot xs + times slot ys
times-append slot xs ys = sum_by-append (λ (s : ℕ). cond (s == slot) 1 0) xs ys

opened-append : (xs ys : List Ticket) (a b c : List ℕ) → AreOpened a xs b → AreOpened b ys c → AreOpened a (xs ++ ys) c
opened-append [] ys a b c same rest = rw same at rest
opened-append (x ∷ xs) ys a b c first rest = (first.0, opened-append xs ys (slice_set a x.slot x.generation) b c first.1 rest)

unmarked-append : (xs ys : List Ticket) (heavy : List ℕ) → unmarked (xs ++ ys) heavy ≡ unmarked ys (unmarked xs heavy)
unmarked-append [] ys heavy = refl
unmarked-append (x ∷ xs) ys heavy = unmarked-append xs ys (slice_set heavy x.slot 0)

-- why slots are lost

raised : (xs : List ℕ) (i n slot : ℕ) → n ≡ slice_index xs i + 1 → slice_index xs slot ≤ slice_index (slice_set xs i n) slot
raised xs i n slot next = grind (arith, get_or-set_other, get_or-set_at, get_or_past)

-- an opening leaves the size of the table, and no generation gets less
opened_rises : (ts : List Ticket) (a b : List ℕ) → AreOpened a ts b → (slot : ℕ) → (length b ≡ length a) × (slice_index a slot ≤ slice_index b slot)
opened_rises [] a b same slot = rw same (refl, omega arith)
opened_rises (t ∷ ts) a b opened slot =
    let rest = opened_rises ts (slice_set a t.slot t.generation) b opened.1 slot in
    (rest.0 ∙ length-set a t.slot t.generation, omega (arith, rest.1, raised a t.slot t.generation slot opened.0))

-- a slot that is spent stays so
module _ (p q : PollerState) (ts : List Ticket) (part : q.part ≡ p.part) (opened : AreOpened p.table ts q.table) where
  spent_still : (slot : ℕ) → IsSpent p slot → IsSpent q slot
  spent_still slot (inl others) = inl (rw part others)
  spent_still slot (inr (inl outside)) = inr (inl (omega (arith, (opened_rises ts p.table q.table opened slot).0)))
  spent_still slot (inr (inr (inl wide))) = inr (inr (inl wide))
  spent_still slot (inr (inr (inr last))) = inr (inr (inr (omega (arith, (opened_rises ts p.table q.table opened slot).1))))

  lost_still : (not_free lost : List ℕ) → AreLost p not_free lost → AreLost q not_free lost
  lost_still not_free [] none = none
  lost_still not_free (slot ∷ lost) (inl spent) = inl (spent_still slot spent.0, lost_still not_free lost spent.1)
  lost_still not_free (slot ∷ lost) (inr found) = inr (found.0, found.1, lost_still found.0 lost found.2)

lost_both : (p : PollerState) (h k ls ms : List ℕ) → AreLost p h ls → AreLost p k ms → AreLost p (h ++ k) (ls ++ ms)
lost_both p h k [] ms none two = rw none two
lost_both p h k (slot ∷ ls) ms (inl spent) two = inl (spent.0, lost_both p h k ls ms spent.1 two)
lost_both p h k (slot ∷ ls) ms (inr found) two = inr (found.0 ++ k, rw found.1, lost_both p found.0 k ls ms found.2 two)

-- by these tries connections were opened, and then others
connected_both : {us bs : List SeatAct} {p q r : PollerState} {a b c : Own} → Connected us p q a b → Connected bs q r b c → Connected (us ++ bs) p r a c
connected_both {us} {bs} {p} {q} {r} {a} one two = record {
  opened = one.opened ++ two.opened;
  lost = one.lost ++ two.lost;
  not_free = one.not_free ++ two.not_free;
  are = tries_both one.are two.are;
  made = acts_both _ _ _ _ _ one.made two.made;
  next = in_order (TriesNext p.part) us bs p.table q.table r.table one.next (rw one.poller at two.next);
  table = opened-append one.opened two.opened p.table q.table r.table one.table two.table;
  heavy = two.heavy ∙ ap (unmarked two.opened) one.heavy ∙ sym (unmarked-append one.opened two.opened p.heavy);
  counted = rw (length-append one.opened two.opened) (counted_both _ _ _ _ _ _ one.counted two.counted);
  unused = rw (length-append one.lost two.lost) (counted_both _ _ _ _ _ _ one.unused two.unused);
  why = lost_both r one.not_free two.not_free one.lost two.lost
      (lost_still q r two.opened (ap (λ (s : PollerState). s.part) two.poller) two.table one.not_free one.lost one.why) two.why;
  poller = rw (two.poller, one.poller);
  own = λ slot out. omega (arith, one.own slot out, (rw one.poller at two.own) slot out, at_slot-append slot one.opened two.opened);
  tickets = rw (two.tickets, one.tickets) (append_assoc a.hand.tickets one.opened two.opened);
  room = omega (arith, one.room, two.room, length-append us bs);
  ready = two.ready ∙ one.ready;
  gave = two.gave ∙ one.gave;
  grew = omega (arith, one.grew, two.grew);
  slots = λ slot. omega (arith, one.slots slot, two.slots slot, at_slot-append slot one.opened two.opened, times-append slot one.lost two.lost);
}

-- what connections say of a poller is as it was, as after a change that opens nothing
abbrev pub SamePoller : PollerState → PollerState → Type 0
SamePoller p q = record { table : q.table ≡ p.table; heavy : q.heavy ≡ p.heavy; opened : q.opened ≡ p.opened; lost : q.lost ≡ p.lost; poller : OnlyAccepted p q }

-- nothing was opened by these tries
pub none_opened : {p q : PollerState} {a b : Own} (tries : List SeatAct) (lost not_free : List ℕ) → AreTries [] not_free tries → ActsMade tries a.seat b.seat
    → InOrder (TriesNext p.part) tries p.table p.table → q.table ≡ p.table → q.heavy ≡ p.heavy → q.opened ≡ p.opened → HasRisen p.lost (length lost) q.lost
    → AreLost q not_free lost → OnlyAccepted p q → b.hand.tickets ≡ a.hand.tickets → b.ready ≡ a.ready → b.free.history.put ≡ a.free.history.put
    → length a.free.history.taken ≤ length b.free.history.taken → SlotsCounted a b [] lost → ticket_room a.hand ≤ ticket_room b.hand + length tries
    → Connected tries p q a b
none_opened {a = a} tries lost not_free are made next table heavy opened unused why poller tickets ready gave grew slots room = record {
  opened = [];
  lost = lost;
  not_free = not_free;
  are = are;
  made = made;
  next = rw table next;
  table = table;
  heavy = heavy;
  counted = counted_same opened;
  unused = unused;
  why = why;
  poller = poller;
  own = λ slot out. refl;
  tickets = tickets ∙ sym (append-nil a.hand.tickets);
  room = room;
  ready = ready;
  gave = gave;
  grew = grew;
  slots = slots;
}

pub room_same : {a b : Own} → OnlyTook a b → ticket_room b.hand ≡ ticket_room a.hand
room_same took = rw (took.capacity, took.tickets)

-- slots were taken, and nothing was opened
took_only : {p q : PollerState} {a b : Own} → SamePoller p q → OnlyTook a b → Connected [] p q a b
took_only {a = a} same took = none_opened [] [] [] tries_none (rw took.seat (acts_none a.seat)) refl same.table same.heavy same.opened (counted_same same.lost) refl same.poller
    took.tickets took.ready took.gave took.grew took.slots (omega (arith, room_same took))

-- nothing happened
pub took_none : (a : Own) → OnlyTook a a
took_none a = search arith

put_back : (xs : List ℕ) (x : ℕ) → slice_get xs 0 ≡ Some x → x ∷ drop 1 xs ≡ xs
put_back [] x is = absurd (none-some x is)
put_back (y ∷ ys) x is = rw (same_Some y x is)

times_first : (s : ℕ) (xs : List ℕ) (x : ℕ) → slice_get xs 0 ≡ Some x → times s xs ≡ times s (x ∷ []) + times s (drop 1 xs)
times_first s xs x is = sym (ap (times s) (put_back xs x is)) ∙ times-append s (x ∷ []) (drop 1 xs)

-- what became of a slot that was taken in hand
module _ {p q : PollerState} {a : Own} {hand : HandState} {slot : ℕ} (taken : hand ≡ record a.hand { slots = drop 1 a.hand.slots }) (is : slice_get a.hand.slots 0 ≡ Some slot) where
  -- no connection can be opened in it any more
  pub opened_never : IsSpent p slot → q ≡ record p { lost = counted_up p.lost 1 } → Connected [] p q a (record a { hand = hand })
  opened_never spent lost =
      rw lost (none_opened [] (slot ∷ []) [] tries_none (acts_none a.seat) refl refl refl refl (counted_one _ p.lost _ refl) (inl (spent, refl)) refl
      (rw taken) refl refl (omega arith) (λ s. rw taken (omega (arith, times_first s a.hand.slots slot is))) (rw taken (omega arith)))

  -- its opening failed, and it is in hand again
  pub opened_not : {kept : HandState} → kept ≡ record hand { slots = hand.slots ++ slot ∷ [] } → SamePoller p q → IsIn p.part slot
      → Connected (record { ticket = next_in p slot; exchanges = [] } ∷ []) p q a (record a { hand = kept })
  opened_not again same own =
      let try : SeatAct = record { ticket = next_in p slot; exchanges = [] } in
      none_opened (try ∷ []) [] [] (try_dropped (next_in p slot)) (acts_one try a.seat a.seat (adds_none slot a.seat))
      (p.table, record { own = own; next = refl; entered = refl }, refl) same.table same.heavy same.opened (counted_same same.lost) refl same.poller
      (rw (again, taken)) refl refl (omega arith) (λ s. rw (again, taken) (omega (arith, times_first s a.hand.slots slot is, times-append s (drop 1 a.hand.slots) (slot ∷ []))))
      (rw (again, taken) (omega arith))

  -- a connection was placed in it, or it is no longer used
  pub placed_there : {b : Own} {tries : List SeatAct} → Connected tries p q (with_slot slot (record a { hand = hand })) b → Connected tries p q a b
  placed_there did = rw (taken, put_back a.hand.slots slot is) at did

-- what a look at a seat says
pub not_worn : (b : Bool) (seat : SeatState) → IsTrue b ↔ IsWorn seat → b ≡ false → IsWorn seat → ⊥
not_worn b seat is unset is_worn = false≢true (sym unset ∙ is.1 is_worn)

pub unless : {A B : Type 0} → (A → ⊥) → A ⊎ B → B
unless never (inl a) = absurd (never a)
unless never (inr b) = b

pub answered : (answer : Result (Unit {0}) ServerFault) (old new : PollerState) (had has : Own) → MatchResult answer (λ _. IsWorn has.seat → ⊥) (λ fault. OnlyWorn fault has.seat)
    → ((answer ≡ Err Worn) ↔ IsWorn has.seat) × (answer ≢ Err Poll) × IfErr answer (λ fault. RoundRefused fault old new had has)
answered (Ok done) old new had has more = ((λ refused. absurd (cc refused), λ is_worn. absurd (more is_worn)), λ failed. cc failed, tt)
answered (Err fault) old new had has only = rw only.0 ((λ refused. only.1, λ is_worn. refl), λ failed. cc failed, inr (refl, only.1))

-- an opening, or a failure of it, changes at most this
abbrev pub OnlyOpened : PollerState → PollerState → Type 0
OnlyOpened p q = q ≡ record p { table = q.table; heavy = q.heavy; opened = q.opened; lost = q.lost; episodes = q.episodes }

pub fate_only : (P : ℕ → Type 0) (p q : PollerState) (slots : List ℕ) → 1 ≤ length slots → IfSome (slice_get slots 0) P
    → ((slot : ℕ) → P slot → (fate : Fate) × FateKept fate slot p q) → OnlyOpened p q
fate_only P p q [] some of_slot kept = absurd (omega arith)
fate_only P p q (slot ∷ slots) some of_slot kept = by (kept slot of_slot) where
  by : (fate : Fate) × FateKept fate slot p q → OnlyOpened p q
  by (Opened, is) = rw is
  by (Dropped why, is) = rw is
  by (Spent, is) = rw is.0
  by (NotFree, is) = rw is

-- who can post no more could not before exchanges without a post
pub worn_before : (slot : ℕ) (es : List Exchange) (a b : SeatState) → Adds slot es a b → (after_all es (account_at a slot)).posted ≡ (account_at a slot).posted → IsWorn b → IsWorn a
worn_before slot es a b adds none =
    worn_still slot b a (record { table = sym adds.only.table; others = λ other ne. sym (adds.only.others other ne) })
    (sym none ∙ sym (ap (λ (x : Account). x.posted) (account_after slot es a b adds)))

-- The note of an opening was posted by the slot's holder, who then let it go. `woke`: its release answered Wake
pub started_by : (t : Ticket) (noted : ℕ) (r : Posted) (woke : Bool) (a : Own) (first second : SeatState) (b : Own) → HoldsOnly t.slot a.seat
    → Adds t.slot (exchange.Take noted ∷ []) a.seat first → PostChange t.slot first r second
    → (woke ≡ false → (account_at second t.slot).known ≡ 0) → Adds t.slot (exchange.Release woke ∷ []) second b.seat
    → b.hand ≡ record a.hand { tickets = a.hand.tickets ++ (if woke then t ∷ [] else []) } → IsWorn a.seat ⊎ Started t a b
started_by t noted posted.Wake woke a first second b only took change quiet left hand =
    absurd (false≢true (sym change.1 ∙ (holds_still _ _ _ _ took only refl).here))
started_by t noted posted.Worn woke a first second b only took change quiet left hand = inl (worn_before _ _ _ _ took refl change.1)
started_by t noted posted.Quiet woke a first second b only took change quiet left hand =
    let due = woke_behind_post t.slot first second woke change (holds_still _ _ _ _ took only refl).here quiet in
    inr (record { noted = noted; seat = adds_both _ _ _ _ _ _ took (adds_both _ _ (exchange.Release true ∷ []) _ _ _ change (rw due at left)); hand = rw due at hand })

-- a connection was opened in its slot, unless its note could not be posted
pub opened_once : {t : Ticket} {p q : PollerState} {a b : Own} {middle : SeatState} {found : ℕ} → IsWorn middle ⊎ Started t (record a { seat = middle }) b
    → IsNext p t → Adds t.slot (exchange.Adopted found ∷ []) a.seat middle → SameQueues (record a { seat = middle }) b → IsOpened t p q
    → IsWorn a.seat ⊎ ((found : ℕ) × (noted : ℕ) × Connected (record { ticket = t; exchanges = opening found noted } ∷ []) p q (with_slot t.slot a) b)
opened_once (inl is_worn) next adopted queues is = inl (worn_before _ _ _ _ adopted refl is_worn)
opened_once {t = t} {p = p} {a = a} {found = found} (inr started) next adopted queues is =
    let try : SeatAct = record { ticket = t; exchanges = opening found started.noted } in
    inr (
      found,
      started.noted,
      rw is (record {
        opened = t ∷ [];
        lost = [];
        not_free = [];
        are = try_opened t found started.noted;
        made = acts_one try _ _ (adds_both _ _ _ _ _ _ adopted started.seat);
        next = (_, record { own = next.own; next = next.generation; entered = (next.generation, refl) }, refl);
        table = (next.generation, refl);
        heavy = refl;
        counted = counted_one _ p.opened _ refl;
        unused = counted_same refl;
        why = refl;
        poller = refl;
        own = λ slot out. none_at t slot (λ same. out (rw same next.own));
        tickets = rw started.hand;
        room = rw started.hand (omega (arith, length-append a.hand.tickets (t ∷ [])));
        ready = queues.ready;
        gave = rw queues.free;
        grew = rw queues.free (omega arith);
        slots = λ s. rw (queues.free, started.hand) (omega (arith, times-append s (t.slot ∷ []) a.hand.slots));
      }),
    )

-- what holds between two steps still holds after one that the seat did not see, or that posted
pub between_still : {claims : TableId} {a b : Own} {p q : PollerState} → Between claims a p → b.seat ≡ a.seat → q.table ≡ p.table → Between claims b q
between_still between seat table = record { same = rw seat between.same; idle = rw seat between.idle; sized = rw table between.sized }

pub between_posted : {claims : TableId} {a b : Own} {p q : PollerState} {xs : List Ticket} → Between claims a p → ArePosted xs a.seat b.seat a.hand b.hand → q.table ≡ p.table
    → Between claims b q
between_posted between posted table = record { same = posted.made.table ∙ between.same; idle = holds_nothing_still posted between.idle; sized = rw table between.sized }

-- why a connection is closed unopened: by what the front answered, by what the lead lacked, or for want of memory
module _ (may_refuse : Unopened → Type 0) (may_tell : Route → Type 0) (proxy : Bool) where
  pub refused_drops : (why : Unopened) (c : Cause) → may_refuse why → c ≡ cause_of why → DropsFor may_refuse may_tell proxy c
  refused_drops unopened.Connect c refuses is = rw is refuses
  refused_drops unopened.Register c refuses is = rw is refuses

  pub lacking_drops : (route : Route) (c : Cause) → may_tell route → c ≡ lacks (lead_of proxy route) → DropsFor may_refuse may_tell proxy c
  lacking_drops route c told is = rw is (by_lead (lead_of proxy route) refl) where
    by_lead : (lead : Option (List ℕ)) → lead_of proxy route ≡ lead → DropsFor may_refuse may_tell proxy (lacks lead)
    by_lead None same = (route, told, same)
    by_lead (Some lead) same = (lead, (route, told, same))

  pub memory_drops : (route : Route) (lead : List ℕ) (c : Cause) → may_tell route → lead_of proxy route ≡ Some lead → c ≡ cause.Memory → DropsFor may_refuse may_tell proxy c
  memory_drops route lead c told same is = rw is (lead, (route, told, same))

  pub drops_by : {T : Type 0} (reached : Result (PairState × T) Cause) (c : Cause) → IfErr reached (DropsFor may_refuse may_tell proxy)
      → IfOk reached (λ made. LeadGiven may_tell proxy (Some made.0.up.lead)) → MatchResult reached (λ made. c ≡ cause.Memory) (λ why. c ≡ why)
      → DropsFor may_refuse may_tell proxy c
  drops_by (Ok made) c drops lead is = rw is (made.0.up.lead, lead)
  drops_by (Err why) c drops lead is = rw is drops

-- a connection whose sockets may be registered is dropped
pub registered_drop : {S T E : Type 0} (made : Ticket → Made S) {t : Ticket} (reached : Result T E) {from to : S} → RegisteredFirst made t reached from to → DropMade made t from to
registered_drop made (Ok target) acts = inr (_, acts, refl)
registered_drop made (Err why) acts = acts

-- nothing was posted
none_posted : {S : Type 0} {made : Made S} {part : Part} {tickets : List Ticket} {a : Own} {s : S} → tickets ≡ [] → AllPosted made part tickets a a s s
none_posted {a = a} none = rw none (record { made = refl; posted = posted_none a.seat a.hand; own = λ slot out. refl; queues = assumption })

-- tries of whose acts this is known, and what they did; and no more than one
abbrev pub Tried : (List SeatAct → Type 0) → PollerState → PollerState → Own → Own → Type 0
Tried acts p q a b = (tries : List SeatAct) × acts tries × Connected tries p q a b

abbrev pub TriedOnce : (List SeatAct → Type 0) → PollerState → PollerState → Own → Own → Type 0
TriedOnce acts p q a b = (tries : List SeatAct) × acts tries × Connected tries p q a b × (length tries ≤ 1)

-- A round: the reports were delivered, a sweep was made or none, and connections were opened, with the acts of the tries
module _ {C S T : Type 0} {moved : Berth C T → S → Type 0} {named : Ticket → S → Type 0} {registered : C → C → T → S → Type 0} {made : Made S}
    {accepted : C → Type 0} {may_tell : C → Route → Type 0} where
  -- no try was made
  pub no_tries : {p : PollerState} {s : S} → TriesMade moved named registered made accepted may_tell p s s []
  no_tries = record { acts = refl }

  pub accept_took : {p q : PollerState} {a b : Own} {s : S} → SamePoller p q → OnlyTook a b → TriedOnce (TriesMade moved named registered made accepted may_tell p s s) p q a b
  accept_took same took = ([], no_tries, took_only same took, omega arith)

  pub accept_none : {p q : PollerState} {a : Own} {s : S} → SamePoller p q → TriedOnce (TriesMade moved named registered made accepted may_tell p s s) p q a a
  accept_none {a = a} same = accept_took same (took_none a)

  -- one try was made
  pub tried : {p q : PollerState} {a b : Own} {s t : S} {try : SeatAct} (client : C) → accepted client
      → ActsOf moved named registered made may_tell p.opening p.second client try.ticket try.exchanges s t → Connected (try ∷ []) p q a b
      → TriedOnce (TriesMade moved named registered made accepted may_tell p s t) p q a b
  tried client given acts did = (_, record { acts = (_, record { client = client; given = given; acts = acts }, refl) }, did, omega arith)

  pub done_of : {p q : PollerState} {a b : Own} {s t : S} → TriedOnce (TriesMade moved named registered made accepted may_tell p s t) p q a b
      → Tried (TriesMade moved named registered made accepted may_tell p s t) p q a b
  done_of once = (once.0, once.1, once.2)

  pub accept_both : {p q r : PollerState} {a b c : Own} {s t u : S} → Tried (TriesMade moved named registered made accepted may_tell p s t) p q a b
      → TriedOnce (TriesMade moved named registered made accepted may_tell q t u) q r b c → Tried (TriesMade moved named registered made accepted may_tell p s u) p r a c
  accept_both one two = (one.0 ++ two.0, record { acts = in_order _ _ _ _ _ _ one.1.acts (rw one.2.poller at two.1.acts) }, connected_both one.2 two.2)

  -- one try, after a change that opens nothing
  pub once_after : {p q r : PollerState} {a b : Own} {s t : S} → TriedOnce (TriesMade moved named registered made accepted may_tell q s t) q r a b → SamePoller p q
      → TriedOnce (TriesMade moved named registered made accepted may_tell p s t) p r a b
  once_after once same = (once.0, record { acts = rw same.poller at once.1.acts }, connected_both (took_only same (took_none _)) once.2, once.3)

  -- slots were taken for the next try
  pub accept_and_took : {p q : PollerState} {a b c : Own} {s t : S} → Tried (TriesMade moved named registered made accepted may_tell p s t) p q a b → OnlyTook b c
      → Tried (TriesMade moved named registered made accepted may_tell p s t) p q a c
  accept_and_took done took = accept_both done (accept_took (assumption) took)

  pub round_of : {from delivered_at timed_at to : S} {p q r v w t : PollerState} {a b c d e : Own} → Looked p q → OnlyTook a b
      → AllPosted made q.part (all_reported q.table q.batch) b c from delivered_at → r ≡ record q { accepting = r.accepting }
      → AllPosted made r.part (sweep_of r v) c d delivered_at timed_at → v ≡ record r { second = v.second; swept = v.swept }
      → Tried (TriesMade moved named registered made accepted may_tell v timed_at to) v w d e → (IsWorn d.seat → IsWorn e.seat)
      → t ≡ record w { seen = t.seen; over = t.over; episodes = t.episodes } → RoundInOrder moved named registered made accepted may_tell p t a e from to
  round_of {delivered_at = delivered_at} {timed_at = timed_at} {c = c} {e = e} looked took reports flag sweeps sweep tried still_then end =
      let done = tried.2 in
      let still_all : IsWorn c.seat → IsWorn e.seat = λ is. still_then (rw (sweeps.posted.still is).0 is) in
      rw end (record {
        delivered = delivered_at;
        timed = timed_at;
        reports = rw (done.poller, sweep, flag) (rw looked at reports.made);
        sweep = rw done.poller (rw (flag, looked) at sweeps.made);
        tries = record { acts = rw done.poller tried.1.acts };
        round = record {
          reports = reports.posted.posts;
          sweep = sweeps.posted.posts;
          tries = tried.0;
          opened = done.opened;
          lost = done.lost;
          not_free = done.not_free;
          why = done.why;
          reported = rw (done.poller, sweep, flag) (rw looked at (posts_still {t = e.seat} reports.posted.are still_all));
          swept = rw done.poller (rw (flag, looked) at (posts_still {t = e.seat} sweeps.posted.are still_then));
          tried = done.are;
          made = rw (← took.seat) (acts_both _ _ _ _ _ reports.posted.made (acts_both _ _ _ _ _ sweeps.posted.made done.made));
          part = rw (done.poller, sweep, flag, looked);
          own_reports = rw (done.poller, sweep, flag) (rw looked at reports.own);
          own_sweep = rw done.poller (rw (flag, looked) at sweeps.own);
          own_openings = rw (sweep, flag, looked) at done.own;
          tickets = rw (done.ready, sweeps.queues.ready, reports.queues.ready, done.tickets, sweeps.posted.hand, reports.posted.hand, took.ready, took.tickets)
              (simp append_assoc);
          next = rw (sweep, flag, looked) at done.next;
          table = rw (sweep, flag, looked) at done.table;
          heavy = rw (sweep, flag, looked) at done.heavy;
          counted = rw (sweep, flag, looked) at done.counted;
          unused = rw (sweep, flag, looked) at done.unused;
          gave = rw (done.gave, sweeps.queues.free, reports.queues.free) took.gave;
          slots = λ slot. (
              let counted = rw (sweeps.queues.free, reports.queues.free, sweeps.posted.hand, reports.posted.hand) at (done.slots slot) in omega (arith, took.slots slot));
        };
      })

  -- nothing was reported, nothing was posted for time, and nothing was accepted
  pub round_ended : {s : S} {p q : PollerState} {a b : Own} → Looked p q → q.batch ≡ [] → OnlyTook a b → RoundInOrder moved named registered made accepted may_tell p q a b s s
  round_ended {q = q} looked none took = round_of {r = q} {v = q} {w = q} {t = q} looked took (none_posted (rw none)) refl (none_posted (no_sweep q q.swept refl)) refl
      (done_of (accept_none assumption)) (λ is. is) refl

or_more : {A B X : Type 0} → A ⊎ X → (A → B ⊎ X) → B ⊎ X
or_more (inl a) more = more a
or_more (inr x) more = inr x

-- what answers made of the poller, one after the other
pub answered_both : {gave : Unaccepted → Type 0} {p q r : PollerState} → OnlyAnswered gave p q → OnlyAnswered gave q r → OnlyAnswered gave p r
answered_both one two = record { raised = λ up. one.raised (two.raised up); flag = λ down. or_more (two.flag down) one.flag; starved = λ lack. or_more (two.starved lack) one.starved }

pub answered_none : {gave : Unaccepted → Type 0} {p q : PollerState} → q.accepting ≡ p.accepting → (q.starved ≡ p.starved) ⊎ (q.starved ≡ false) → OnlyAnswered gave p q
answered_none flag (inl same) = record { raised = λ up. sym flag ∙ up; flag = λ down. inl (sym flag ∙ down); starved = λ lack. inl (sym same ∙ lack) }
answered_none flag (inr none) = record { raised = λ up. sym flag ∙ up; flag = λ down. inl (sym flag ∙ down); starved = λ lack. absurd (false≢true (sym none ∙ lack)) }

pub answered_by : {gave : Unaccepted → Type 0} {p q : PollerState} (class : Unaccepted) → gave class → q.accepting ≡ flag_after class p.accepting
    → q.starved ≡ starved_after class p.starved → OnlyAnswered gave p q
answered_by Again gave flag lack = answered_none flag (inl lack)
answered_by Blocked gave flag lack = record { raised = λ up. absurd (false≢true (sym flag ∙ up)); flag = λ down. inr gave; starved = λ up. absurd (false≢true (sym lack ∙ up)) }
answered_by Starved gave flag lack = record { raised = λ up. sym flag ∙ up; flag = λ down. inl (sym flag ∙ down); starved = λ up. inr gave }

-- the accept flag is down at the end
pub flag_ended : {gave : Type 0} (p q r v t : PollerState) → Looked p q → (r.accepting ≡ false → (q.accepting ≡ false) × (Contains q.batch 0 → ⊥))
    → v.accepting ≡ r.accepting → t.batch ≡ q.batch → (v.accepting ≡ false) ⊎ gave → ((p.accepting ≡ false) × (Contains t.batch 0 → ⊥)) ⊎ gave
flag_ended p q r v t looked flag same batch (inl down) = inl (rw batch (rw looked at (flag (rw same at down))))
flag_ended p q r v t looked flag same batch (inr gave) = inr gave

-- the accept flag is up at the end
pub flag_up : (p q r v t : PollerState) → Looked p q → (r.accepting ≡ true → (q.accepting ≡ true) ⊎ Contains q.batch 0)
    → v.accepting ≡ r.accepting → t.batch ≡ q.batch → v.accepting ≡ true → (p.accepting ≡ true) ⊎ Contains t.batch 0
flag_up p q r v t looked flag same batch up = rw batch (rw looked at (flag (rw same at up)))

pub by_err : {T E P : Type 0} (r : Result T E) → IfErr r (λ _. P) → IsErr r → P
by_err (Ok x) p is = absurd (false≢true is)
by_err (Err e) p is = p

-- why accepting ended stays the reason, since the slots are taken back only once all connections were opened
pub ended_still : {p q : PollerState} {a b : Own} → AcceptEnded p a → ((b ≡ a) × (q ≡ p)) ⊎ HasOpenedAll q → AcceptEnded q b
ended_still ended (inl same) = rw (same.1, same.0) ended
ended_still ended (inr all) = inl (inr (inr (inr all)))

pub kept : (p q : PollerState) → ListensNoMore p q → ListenerKept p q
kept p q listens = grind arith

-- a slot that is in hand was so before, or was taken
waits_not : (limit : ℕ) (p : PollerState) (a b : Own) → OnlyTook a b → MayNotWait limit p b b → MayNotWait limit p a b
waits_not limit p a b took may = grind (arith, took.gained, took.tickets)

-- why it waited so is the same once more slots were taken
pub waits_still : (limit : ℕ) (p q : PollerState) (a b c : Own) → WaitedAsMay limit p q a b → length b.free.history.taken ≤ length c.free.history.taken → WaitedAsMay limit p q a c
waits_still limit p q a b c waited grew = grind arith

-- the poller waits only where it may, and for as long
pub waits_if : (waiting : Waiting) (limit : ℕ) (p q r : PollerState) (a b : Own) → OnlyListens p q → WaitsAsMay waiting limit q b
    → (waiting ≡ Long → b ≡ a) → OnlyTook a b → Waited waiting q.seen r.seen → WaitedAsMay limit p r a b
waits_if Long limit p q r a b same may still took waited = inl (ap (λ (s : Seen). s.waited) waited ∙ ap (λ (s : PollerState). s.seen.longest) same, rw (same, still refl) at may)
waits_if Brief limit p q r a b same may still took waited =
    let left = rw same at may in
    inr (inl (ap (λ (s : Seen). s.waited) waited, (left.0, sym took.tickets ∙ left.1, left.2)))
waits_if No limit p q r a b same may still took waited = inr (inr (ap (λ (s : Seen). s.waited) waited, waits_not limit p a b took (rw same at may)))

-- what the steps of a round leave as it was after the look, but that the front may listen no longer
pub lasts : (q : PollerState) {r v w t u : PollerState} {up : Bool} {logged : Episodes} → r ≡ record q { accepting = up } → v ≡ record r { second = v.second; swept = v.swept }
    → OnlyAccepted v w → t ≡ record w { episodes = logged } → OnlyListens (record t { over = u.over }) u
    → u ≡ record u { seen = record q.seen { listens = u.seen.listens }; batch = q.batch; opening = q.opening; most = q.most }
lasts q flag timed accepted told back = rw (back, told, accepted, timed, flag)

-- the hand had room for a round
pub begun_not_early : {X : Type 0} (needed room : ℕ) → needed ≤ room → room < needed → X
begun_not_early needed room enough few = absurd (omega arith)

-- the front listens as before, since it ends only once all connections were opened
pub listens_still : (p : PollerState) {q r : PollerState} {X : Type 0} → ListensNoMore p q → (X × (r ≡ q)) ⊎ HasOpenedAll r → ListensToOpen r → ListenerKept p r
listens_still p {q} {r} same (inl left) closed = kept p r (rw left.1 same)
listens_still p same (inr all) closed = inr (inr all, closed all)
