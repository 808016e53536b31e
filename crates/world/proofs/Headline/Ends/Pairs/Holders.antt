-- Who has a slot: what the rest of the machine has of it, as numbers, and what a slot has to do with them. Every event
-- keeps that, and so every run; and each moves the claim words as it says.
pub mod Events
unfoldable pub use Events.*

-- the numbers of slot s, one actor or ticket or free slot at a time

abbrev pub names : ℕ → ℕ → Ticket → ℕ
names s g t = one (is_ticket s g t)

abbrev pub tried_right : ℕ → ℕ → Doing → ℕ
tried_right s g (Tries t) = names s g t
tried_right s g d = 0

abbrev pub worker_right : ℕ → ℕ → WorkerState → ℕ
worker_right s g k = tried_right s g k.doing + total (names s g) k.hand

abbrev pub holds : ℕ → Doing → ℕ
holds s (Holds t left) = one (t == s)
holds s d = 0

abbrev pub closes : ℕ → Doing → ℕ
closes s (Closed t) = one (t == s)
closes s d = 0

abbrev pub retires : ℕ → Doing → ℕ
retires s (Retired t) = one (t == s)
retires s d = 0

abbrev pub worker_holds : ℕ → WorkerState → ℕ
worker_holds s k = holds s k.doing

abbrev pub worker_closes : ℕ → WorkerState → ℕ
worker_closes s k = closes s k.doing

abbrev pub worker_retires : ℕ → WorkerState → ℕ
worker_retires s k = retires s k.doing

abbrev pub is_number : ℕ → ℕ → ℕ
is_number s t = one (t == s)

-- what the rest of the machine has of a slot of one generation: its entry in the table, its tickets, those that name the
-- generation, the workers that hold it, those that closed it, and those that retired it with its places in the free queue
pub record Facts : Type 0 where
  pub ring : ℕ
  pub slot : ℕ
  pub entry : Option ℕ
  pub tickets : ℕ
  pub right : ℕ
  pub holding : ℕ
  pub closing : ℕ
  pub gone : ℕ

abbrev pub right_tickets : State → ℕ → ℕ → ℕ
right_tickets st s g = total (names s g) st.ready + (total (names s g) st.hand + total (worker_right s g) st.workers)

abbrev pub facts : State → ℕ → ℕ → Facts
facts st s g = record {
  ring = st.limits.ring;
  slot = s;
  entry = slice_get st.table s;
  tickets = tickets st s;
  right = right_tickets st s g;
  holding = total (worker_holds s) st.workers;
  closing = total (worker_closes s) st.workers;
  gone = total (worker_retires s) st.workers + total (is_number s) st.free;
}

-- a slot that nobody holds has a connection, and a free one has none
abbrev pub is_shaped : Holder → Bool → Bool
is_shaped Nobody has = has
is_shaped (By w) has = true
is_shaped Free has = not has

abbrev pub standing : Facts → ℕ → Standing
standing f g = record { slot = f.slot; generation = g; up_capacity = f.ring; down_capacity = f.ring }

-- the connection in a slot is the slot's own, and while nobody holds the slot it is live, and without a
-- note it has no call to make
pub record ConnectionOk (f : Facts) (p : SlotState) (c : Connection) : Type 0 where
  pub stands : pair_place c.pair ≡ standing f p.generation
  pub live : p.holder ≡ Nobody → is_live (verdict c.pair) ≡ true
  pub rest : p.holder ≡ Nobody → p.notes ≡ [] → next_call c.pair ≡ None

abbrev pub are_own : ℕ → List ℕ → Bool
are_own g notes = list_all (λ (n : ℕ). n == g) notes

-- the numbers of a slot that is as it has to be
pub record CountsOk (f : Facts) (p : SlotState) : Type 0 where
  pub tickets : f.tickets ≡ one (not (is_held p.holder) && is_nonempty p.notes)
  pub right : f.right ≡ f.tickets
  pub holding : f.holding ≡ one (is_by_worker p.holder && is_some p.connection)
  pub closing : f.closing ≡ one (is_by_worker p.holder && not (is_some p.connection))
  pub gone : f.gone ≤ one (is_free p.holder)

pub record SlotOk (f : Facts) (p : SlotState) : Type 0 where
  pub entry : f.entry ≡ Some p.generation
  pub notes : are_own p.generation p.notes ≡ true
  pub counts : CountsOk f p
  pub open counts use *
  pub shape : is_shaped p.holder (is_some p.connection) ≡ true
  pub connection : (c : Connection) → p.connection ≡ Some c → ConnectionOk f p c

-- each slot has what it has to
pub record Turns (st : State) : Type 0 where
  pub each : (s : ℕ) (p : SlotState) → slice_get st.slots s ≡ Some p → SlotOk (facts st s p.generation) p

-- the same numbers, but for those that are gone, which may be fewer
pub record SameCounts (f g : Facts) : Type 0 where
  pub ring : f.ring ≡ g.ring
  pub slot : f.slot ≡ g.slot
  pub tickets : f.tickets ≡ g.tickets
  pub right : f.right ≡ g.right
  pub holding : f.holding ≡ g.holding
  pub closing : f.closing ≡ g.closing
  pub gone : g.gone ≤ f.gone

pub record Same (f g : Facts) : Type 0 where
  pub entry : f.entry ≡ g.entry
  pub counts : SameCounts f g
  pub open counts use *

pub same_self : {f : Facts} → Same f f
same_self = record { entry = refl; counts = omega arith }

same_ok : {f g : Facts} {p : SlotState} → Same f g → SlotOk f p → SlotOk g p
same_ok m ok = grind arith

-- an event that changes no slot
pub keep_slots : {st next : State} → Turns st → next.slots ≡ st.slots → ((s g : ℕ) → Same (facts st s g) (facts next s g)) → Turns next
keep_slots turns all same = record { each = λ s p there. same_ok (same s p.generation) (turns.each s p (rw all at there)) }

one_slot : {st : State} (next : State) (s i : ℕ) {old new p : SlotState} → Turns st → (s ≡ i) ⊎ (s ≢ i) → slice_get st.slots s ≡ Some old → next.slots ≡ slice_set st.slots s new
    → ((j g : ℕ) → s ≢ j → Same (facts st j g) (facts next j g)) → SlotOk (facts next s new.generation) new → slice_get next.slots i ≡ Some p → SlotOk (facts next i p.generation) p
one_slot {st} next s i {old} {new} {p} turns h there all others ok here = grind (arith, get-set_same st.slots s old new there, get-set_other st.slots s i new, same_ok, others i, turns.each i)

-- an event that changes one slot, s
pub keep_others : {st next : State} (s : ℕ) {old new : SlotState} → Turns st → slice_get st.slots s ≡ Some old → next.slots ≡ slice_set st.slots s new
    → ((j g : ℕ) → s ≢ j → Same (facts st j g) (facts next j g)) → SlotOk (facts next s new.generation) new → Turns next
keep_others {next = next} s turns there all others ok = record { each = λ i p here. one_slot next s i turns (cases_eq s i) there all others ok here }

-- the numbers of a slot where one worker is replaced
pub record Replaced (st : State) (w : ℕ) (k j : WorkerState) (s g : ℕ) : Type 0 where
  pub tickets : total (worker_tickets s) (slice_set st.workers w j) + worker_tickets s k ≡ total (worker_tickets s) st.workers + worker_tickets s j
  pub right : total (worker_right s g) (slice_set st.workers w j) + worker_right s g k ≡ total (worker_right s g) st.workers + worker_right s g j
  pub holding : total (worker_holds s) (slice_set st.workers w j) + worker_holds s k ≡ total (worker_holds s) st.workers + worker_holds s j
  pub closing : total (worker_closes s) (slice_set st.workers w j) + worker_closes s k ≡ total (worker_closes s) st.workers + worker_closes s j
  pub gone : total (worker_retires s) (slice_set st.workers w j) + worker_retires s k ≡ total (worker_retires s) st.workers + worker_retires s j

pub replaced : (st : State) (w : ℕ) {k : WorkerState} (j : WorkerState) (s g : ℕ) → slice_get st.workers w ≡ Some k → Replaced st w k j s g
replaced st w {k} j s g there = record {
  tickets = total-set _ st.workers w k j there;
  right = total-set _ st.workers w k j there;
  holding = total-set _ st.workers w k j there;
  closing = total-set _ st.workers w k j there;
  gone = total-set _ st.workers w k j there;
}

pub one_same : (s : ℕ) → one (s == s) ≡ 1
one_same s = grind arith

pub one_other : (s i : ℕ) → s ≢ i → one (s == i) ≡ 0
one_other s i apart = grind arith

pub names_of_slot : (s g : ℕ) (t : Ticket) → names s g t ≤ of_slot s t
names_of_slot s g t = grind arith

pub names_other : (s g : ℕ) (t : Ticket) → t.slot ≢ s → names s g t ≡ 0
names_other s g t apart = grind arith

pub names_own : (s g : ℕ) → names s g (record { slot = s; generation = g }) ≡ 1
names_own s g = grind arith

pub tried_less : (s g : ℕ) (d : Doing) → tried_right s g d ≤ tried s d
tried_less s g d = grind arith

-- the parts of a worker in the numbers of a slot, by what it does
pub record Does (c d : Doing) (s g : ℕ) : Type 0 where
  pub tickets : tried s c ≡ tried s d
  pub right : tried_right s g c ≡ tried_right s g d
  pub holding : holds s c ≡ holds s d
  pub closing : closes s c ≡ closes s d
  pub gone : retires s c ≡ retires s d

pub doing_so : {c d : Doing} (s g : ℕ) → c ≡ d → Does c d s g
doing_so s g does = grind arith

-- where one worker, that does d, goes on to e
pub turned : (st : State) (w : ℕ) {k : WorkerState} {d : Doing} (e : Doing) (s g : ℕ) → slice_get st.workers w ≡ Some k → k.doing ≡ d
    → Replaced st w k (record k { doing = e }) s g × Does k.doing d s g
turned st w {k} e s g there does = (replaced st w (record k { doing = e }) s g there, doing_so s g does)

-- where neither has a part in slot i, its numbers stay
pub turned_elsewhere : (st : State) (w : ℕ) {k : WorkerState} {d : Doing} (e : Doing) (i g : ℕ) → slice_get st.workers w ≡ Some k → k.doing ≡ d
    → tried i d + (holds i d + (closes i d + retires i d)) ≡ 0 → tried i e + (holds i e + (closes i e + retires i e)) ≡ 0 → Same (facts st i g) (facts (doing st w k e) i g)
turned_elsewhere st w {k} {d} e i g there does before after =
    let m = turned st w e i g there does in record { entry = refl; counts = omega (arith, tried_less i g d, tried_less i g e) }

-- a test that counts holds
pub sure : (b : Bool) → 1 ≤ one b → b ≡ true
sure b some = grind arith

-- a note more, and the ticket that it brings

pub some_more : (xs : List ℕ) (x : ℕ) → is_nonempty (xs ++ x ∷ []) ≡ true
some_more xs x = grind (arith, nat_tests, length-append xs (x ∷ []))

none_more : (xs : List ℕ) (x : ℕ) → xs ++ x ∷ [] ≡ [] → ⊥
none_more [] x none = absurd (cc)
none_more (y ∷ ys) x none = absurd (cc)

are_own_more : (g : ℕ) (xs : List ℕ) → are_own g xs ≡ true → are_own g (xs ++ g ∷ []) ≡ true
are_own_more g [] own = rw (eq-eqb g g refl) refl
are_own_more g (x ∷ xs) own = let parts = and_parts (x == g) (are_own g xs) own in rw (parts.0) (are_own_more g xs parts.1)

-- a hand that may get one more ticket
pub handed : (f : Ticket → ℕ) (b : Bool) (s g : ℕ) (hand : List Ticket) {n : ℕ} → f (record { slot = s; generation = g }) ≡ n
    → total f (with_ticket b s g hand) ≡ total f hand + n * one b
handed f b s g hand is = grind (arith, total_push f hand (record { slot = s; generation = g }))

-- the poller posts to a slot
posted_turns : (st : State) (s g : ℕ) (p : SlotState) → slice_get st.table s ≡ Some g → slice_get st.slots s ≡ Some p → Turns st → Turns (posted st s g p)
posted_turns st s g p entry lies turns =
    let sv = turns.each s p lies in
    let own : p.generation ≡ g = cc (entry, sv.entry) in
    let more = handed (of_slot s) (brings_ticket p) s p.generation st.hand (one_same s) in
    let more_right = handed (names s p.generation) (brings_ticket p) s p.generation st.hand (names_own s p.generation) in
    rw (← own) (keep_others s turns lies refl (λ j i apart. grind (
      arith,
      handed (of_slot j) (brings_ticket p) s p.generation st.hand (one_other s j apart),
      handed (names j i) (brings_ticket p) s p.generation st.hand (names_other j i (record { slot = s; generation = p.generation }) apart),
    )) (record {
      entry = sv.entry;
      notes = are_own_more p.generation p.notes sv.notes;
      counts = grind (arith, some_more p.notes p.generation);
      shape = sv.shape;
      connection = λ c is. grind (arith, sv.connection c is, none_more p.notes p.generation);
    }))

-- the poller opens a slot

total_first : {X : Type 0} (f : X → ℕ) (xs : List X) (x : X) → slice_get xs 0 ≡ Some x → total f xs ≡ f x + total f (drop 1 xs)
total_first f xs x first = grind arith

free_so : (h : Holder) → is_free h ≡ true → h ≡ Free
free_so h free = grind arith

pub right_is_less : (s g : ℕ) (k : WorkerState) → worker_right s g k ≤ worker_tickets s k
right_is_less s g k = omega (arith, total_le (names s g) (of_slot s) k.hand (names_of_slot s g), tried_less s g k.doing)

right_within : (st : State) (s g : ℕ) → right_tickets st s g ≤ tickets st s
right_within st s g = omega (
  arith,
  total_le (names s g) (of_slot s) st.ready (names_of_slot s g),
  total_le (names s g) (of_slot s) st.hand (names_of_slot s g),
  total_le (worker_right s g) (worker_tickets s) st.workers (right_is_less s g),
)

-- a slot of the free queue is free: so it has no ticket, and no worker holds it
pub record FirstFree (st : State) (s : ℕ) (p : SlotState) : Type 0 where
  pub holder : p.holder ≡ Free
  pub tickets : tickets st s ≡ 0
  pub holding : total (worker_holds s) st.workers ≡ 0
  pub closing : total (worker_closes s) st.workers ≡ 0
  pub gone : total (worker_retires s) st.workers + total (is_number s) (drop 1 st.free) ≡ 0

pub first_free : (st : State) (s : ℕ) (p : SlotState) → slice_get st.slots s ≡ Some p → slice_get st.free 0 ≡ Some s → Turns st → FirstFree st s p
first_free st s p lies first turns = grind (arith, turns.each s p lies, total_first (is_number s) st.free s first, one_same s, free_so p.holder)

opened_connection : (st : State) (s g : ℕ) (ends : Descriptors) (f : Facts) (c : Connection) → f.slot ≡ s → f.ring ≡ st.limits.ring
    → (opened_place s g st.limits st.second ends).connection ≡ Some c → ConnectionOk f (opened_place s g st.limits st.second ends) c
opened_connection st s g ends f c slot ring is = grind arith

opened_turns : (st : State) (s g : ℕ) (p : SlotState) (t : Told KernelState Descriptors) → slice_get st.free 0 ≡ Some s → slice_get st.slots s ≡ Some p → Turns st
    → Turns (opened_world st s g t)
opened_turns st s g p t first lies turns =
    let new : Ticket = record { slot = s; generation = g } in
    let sv = turns.each s p lies in
    keep_others s turns lies refl (λ j i apart. grind (
      arith,
      one_other s j apart,
      names_other j i new apart,
      total_push (of_slot j) st.hand new,
      total_push (names j i) st.hand new,
      total_first (is_number j) st.free s first,
      get-set_other st.table s j g apart,
    ))
    (grind (
      arith,
      first_free st s p lies first turns,
      right_within st s g,
      total_push (of_slot s) st.hand new,
      total_push (names s g) st.hand new,
      one_same s,
      names_own s g,
      get-set_same st.table s p.generation g sv.entry,
      opened_connection st s g t.told (facts (opened_world st s g t) s g),
    ))

-- a ticket is claimed: a slot of which there is a ticket is held by nobody, and has notes
pub record Waiting (p : SlotState) : Type 0 where
  pub holder : p.holder ≡ Nobody
  pub some : is_nonempty p.notes ≡ true
  pub lies : is_some p.connection ≡ true

pub own_generation : (f : Facts) (p : SlotState) (c : Connection) → pair_place c.pair ≡ standing f p.generation → c.pair.generation ≡ p.generation
own_generation f p c stands = grind arith

there_is : {X : Type 0} (o : Option X) → is_some o ≡ true → (x : X) × (o ≡ Some x)
there_is o h = grind arith

module _ (st : State) (w : ℕ) (k : WorkerState) (t : Ticket) (p : SlotState) (there : slice_get st.workers w ≡ Some k) (does : k.doing ≡ Tries t)
    (lies : slice_get st.slots t.slot ≡ Some p) (turns : Turns st) where
  pub waiting : Waiting p
  waiting = grind (arith, turns.each t.slot p lies, total_at (worker_tickets t.slot) st.workers w k there, doing_so t.slot 0 does, one_same t.slot)

  unheld_so : is_held p.holder ≡ true → ⊥
  unheld_so held = grind (arith, waiting)

  claimed_turns : Turns (doing (with_place st t.slot (record p { holder = By w })) w k (Holds t.slot st.limits.budget))
  claimed_turns =
      let s = t.slot in
      keep_others s turns lies refl
      (λ j g apart. let away = one_other s j apart in turned_elsewhere st w (Holds s st.limits.budget) j g there does (omega arith) (omega arith))
      (grind (
        arith,
        turns.each s p lies,
        waiting,
        turned st w (Holds s st.limits.budget) s p.generation there does,
        one_same s,
        right_within (doing st w k (Holds s st.limits.budget)) s p.generation,
      ))

  pub names_it : t.generation ≡ p.generation
  names_it =
      let s : ℕ = t.slot in
      let g : ℕ = p.generation in
      grind (
        arith,
        turns.each s p lies,
        total_le (names s g) (of_slot s) st.ready (names_of_slot s g),
        total_le (names s g) (of_slot s) st.hand (names_of_slot s g),
        total_le (names s g) (of_slot s) k.hand (names_of_slot s g),
        total_le_at (worker_right s g) (worker_tickets s) st.workers w k (right_is_less s g) there,
        doing_so s g does,
        one_same s,
      )

  claims_own : ClaimsByOwnTicket st (Tries t)
  claims_own =
      let sv = turns.each t.slot p lies in
      let has = there_is p.connection waiting.lies in
      (has.0, rw lies has.1, own_generation (facts st t.slot p.generation) p has.0 (sv.connection has.0 has.1).stands ∙ sym names_it)

-- a slot that a worker holds, with its connection or after that was closed; and the slot's numbers
pub record Held (f : Facts) (p : SlotState) (has : Bool) : Type 0 where
  pub by : ℕ
  pub holder : p.holder ≡ By by
  pub some : is_some p.connection ≡ has
  pub tickets : f.tickets ≡ 0
  pub right : f.right ≡ 0
  pub holding : f.holding ≡ one has
  pub closing : f.closing ≡ one (not has)
  pub gone : f.gone ≤ 0

pub held_slot : {st : State} {w : ℕ} (h : Holding st w) → Turns st → Held (facts st h.s h.p.generation) h.p true
held_slot {st} {w} h turns = grind (arith, turns.each h.s h.p h.lies, total_at (worker_holds h.s) st.workers w h.k h.there, doing_so h.s 0 h.does, one_same h.s)

-- a worker keeps the slot that it holds, and changes its notes and the connection's state
keeps_held : {st next : State} {w : ℕ} (h : Holding st w) (notes : List ℕ) (c : Connection) → Turns st
    → next.slots ≡ slice_set st.slots h.s (record h.p { notes = notes; connection = Some c }) → ((j g : ℕ) → Same (facts st j g) (facts next j g))
    → are_own h.p.generation notes ≡ true → pair_place c.pair ≡ pair_place h.c.pair → Turns next
keeps_held {st} {next} h notes c turns all same own stands =
    let sv = turns.each h.s h.p h.lies in keep_others h.s turns h.lies all (λ j g apart. same j g)
    (grind (arith, sv, held_slot h turns, same h.s h.p.generation, sv.connection h.c h.is))

heard_stands : (c : Connection) (some : Bool) → pair_place (if some then record c { pair = noted c.pair } else c).pair ≡ pair_place c.pair
heard_stands c some = grind arith

call_turns : (laws : CoreLaws) {st : State} {w : ℕ} (h : Holding st w) {r : Reply} (m : Made st h.c r) → Turns st → Turns (called_on h m)
call_turns laws {st} {w} h m turns = keeps_held h h.p.notes (after_call m) turns refl
    (λ j g. let m = turned st w (Holds h.s (h.left - 1)) j g h.there h.does in record { entry = refl; counts = omega arith })
    (turns.each h.s h.p h.lies).notes (laws.place st.second h.c.pair m.call m.value)

post_turns : {st : State} {w : ℕ} (h : Holding st w) → Turns st → Turns (with_place st h.s (with_note h.p h.c.pair.generation))
post_turns {st} h turns =
    let sv = turns.each h.s h.p h.lies in
    let own = own_generation (facts st h.s h.p.generation) h.p h.c (sv.connection h.c h.is).stands in
    keeps_held h (h.p.notes ++ h.c.pair.generation ∷ []) h.c turns (rw (← h.is) refl) (λ j g. same_self) (rw own (are_own_more h.p.generation h.p.notes sv.notes)) refl

-- it lets the slot go

or_none : {X : Type 0} (o : Option X) (some : Bool) → (is_none o || some) ≡ true → some ≡ false → o ≡ None
or_none o some h none = grind arith

lets_go : (c : Connection) (some : Bool) → may_release c some ≡ true → (is_live (verdict c.pair) ≡ true) × (some ≡ false → next_call c.pair ≡ None)
unfolding may_release
lets_go c some may = let parts = and_parts (is_live (verdict c.pair)) (is_none (next_call c.pair) || some) may in (parts.0, or_none (next_call c.pair) some parts.1)

released_turns : {st : State} {w : ℕ} (h : Holding st w) → may_release h.c (is_nonempty h.p.notes) ≡ true → Turns st → Turns (released h)
released_turns {st} {w} h may turns =
    let s = h.s in
    let g = h.p.generation in
    let next : WorkerState = record { doing = Idle; hand = hand_after h } in
    let some = is_nonempty h.p.notes in
    keep_others s turns h.lies refl (λ j i apart. grind (
      arith,
      replaced st w next j i h.there,
      doing_so j i h.does,
      handed (of_slot j) some s g h.k.hand (one_other s j apart),
      handed (names j i) some s g h.k.hand (names_other j i (record { slot = s; generation = g }) apart),
    ))
    (grind (
      arith,
      turns.each s h.p h.lies,
      held_slot h turns,
      lets_go h.c some may,
      replaced st w next s g h.there,
      doing_so s g h.does,
      one_same s,
      handed (of_slot s) some s g h.k.hand (one_same s),
      handed (names s g) some s g h.k.hand (names_own s g),
    ))

closed_turns : {st : State} {w : ℕ} (h : Holding st w) (t : Told KernelState Sockets) → Turns st → Turns (closed_world st w h.k h.s h.p h.c t)
closed_turns {st} {w} h t turns = keep_others h.s turns h.lies refl
    (λ j g apart. let away = one_other h.s j apart in turned_elsewhere st w (Closed h.s) j g h.there h.does (omega arith) (omega arith))
    (grind (arith, turns.each h.s h.p h.lies, held_slot h turns, turned st w (Closed h.s) h.s h.p.generation h.there h.does, one_same h.s))

-- the slot is retired

module _ (st : State) (w : ℕ) (k : WorkerState) (s : ℕ) (p : SlotState) (there : slice_get st.workers w ≡ Some k) (does : k.doing ≡ Closed s)
    (lies : slice_get st.slots s ≡ Some p) (turns : Turns st) where
  pub closed_by : Held (facts st s p.generation) p false
  closed_by = grind (arith, turns.each s p lies, total_at (worker_closes s) st.workers w k there, doing_so s 0 does, one_same s)

  retired_turns : Turns (doing (with_place st s (record p { holder = Free })) w k (Retired s))
  retired_turns = keep_others s turns lies refl
      (λ j g apart. let away = one_other s j apart in turned_elsewhere st w (Retired s) j g there does (omega arith) (omega arith))
      (grind (arith, turns.each s p lies, closed_by, turned st w (Retired s) s p.generation there does, one_same s))

freed_most : (i : ℕ) (slots : List ℕ) (s : ℕ) (p : SlotState) → total (is_number i) (free_after slots s p) ≤ total (is_number i) slots + one (s == i)
freed_most i slots s p = grind (arith, total_push (is_number i) slots s)

-- each event keeps it
pub turns_on : (laws : CoreLaws) (st : State) {e : Event} {q : State} → Turns st → Happens st e q → Turns q
turns_on laws st turns (Opens s g p first lies entry) = opened_turns st s (g + 1) p _ first lies turns
turns_on laws st turns (Delivers n p first entry lies) = record { each = (posted_turns st n.slot n.generation p entry lies turns).each }
turns_on laws st turns (Sweeps s g p entry lies) = posted_turns st s g p entry lies turns
turns_on laws st turns (Puts t rest is) = keep_slots turns refl (λ s g.
    let a = total_moved (of_slot s) st.ready st.hand rest t is in let b = total_moved (names s g) st.ready st.hand rest t is in record { entry = refl; counts = omega arith })
turns_on laws st turns (HandsIn w k t rest there is) = keep_slots turns refl (λ s g.
    let r = replaced st w (record k { hand = rest }) s g there in
    let a = total_moved (of_slot s) st.ready k.hand rest t is in let b = total_moved (names s g) st.ready k.hand rest t is in record { entry = refl; counts = omega arith })
turns_on laws st turns (Pops w k t rest there idle is) = keep_slots turns refl (λ s g.
    let r = turned st w (Tries t) s g there idle in let a = ap (total (of_slot s)) is in let b = ap (total (names s g)) is in record { entry = refl; counts = omega arith })
turns_on laws st turns (Claims w k t p there does lies) = claimed_turns st w k t p there does lies turns
turns_on laws st turns (Leaves w k t p there does lies held) = absurd (unheld_so st w k t p there does lies turns held)
turns_on laws st turns (Takes w h) = keeps_held h [] (heard h.c h.p.notes) turns refl (λ j g. same_self) refl (heard_stands h.c (is_nonempty h.p.notes))
turns_on laws st turns (Calls w h r m) = call_turns laws h m turns
turns_on laws st turns (Posts w h) = post_turns h turns
turns_on laws st turns (Releases w h may) = released_turns h may turns
turns_on laws st turns (Expires w h over) = keeps_held h h.p.notes _ turns refl (λ j g. same_self) (turns.each h.s h.p h.lies).notes refl
turns_on laws st turns (Closes w h one two at as_well) = closed_turns h _ turns
turns_on laws st turns (Retires w k s p there does lies) = retired_turns st w k s p there does lies turns
turns_on laws st turns (Frees w k s p there does) = keep_slots turns refl (λ i g.
    let r = turned st w Idle i g there does in let most = freed_most i st.free s p in record { entry = refl; counts = omega arith })
turns_on laws st turns _ = record { each = turns.each }

-- the opening world has it

numbers_past : (n s : ℕ) → n ≤ s → total (is_number s) (numbers_below n) ≡ 0
numbers_past zero s past = refl
numbers_past (suc n) s past =
    let other = one_other n s (λ same. absurd (omega arith)) in
    omega (arith, total_push (is_number s) (numbers_below n) n, numbers_past n s (omega arith))

last_number : (n s : ℕ) → (n ≡ s) ⊎ (n ≢ s) → total (is_number s) (numbers_below n) ≤ 1 → total (is_number s) (numbers_below n) + one (n == s) ≤ 1
last_number n s h before = grind (arith, numbers_past)

-- no number stands twice among the free slots
numbers_once : (n s : ℕ) → total (is_number s) (numbers_below n) ≤ 1
numbers_once zero s = omega arith
numbers_once (suc n) s = omega (arith, total_push (is_number s) (numbers_below n) n, last_number n s (cases_eq n s) (numbers_once n s))

unused_ok : (l : Limits) (s : ℕ) → slice_get (replicate l.slots l.generation) s ≡ Some l.generation → SlotOk (facts (opening l) s l.generation) (unused l.generation)
unused_ok l s entry = grind (
  arith,
  total_none (worker_tickets s) l.workers resting_worker refl,
  total_none (worker_right s l.generation) l.workers resting_worker refl,
  total_none (worker_holds s) l.workers resting_worker refl,
  total_none (worker_closes s) l.workers resting_worker refl,
  total_none (worker_retires s) l.workers resting_worker refl,
  numbers_once l.slots s,
)

opening_turns : (l : Limits) → Turns (opening l)
opening_turns l = record {
  each = λ s p there.
      let same = get-replicate l.slots s (unused l.generation) p there in
      subst (λ (q : SlotState). SlotOk (facts (opening l) s q.generation) q) same (unused_ok l s (get_beside l.slots s (unused l.generation) p l.generation there));
}

-- so every world that a run reaches has it
pub turns_after : (laws : CoreLaws) (l : Limits) (events : List Event) (w : State) → run (opening l) events ≡ Some w → Turns w
turns_after laws l events w ran = holds_after Turns (λ st e q. turns_on laws st) (opening l) w events (opening_turns l) ran

-- what follows from it

pub support_from : (st : State) → Turns st → EdgesHold st → SupportHolds st
support_from st turns edges = record {
  tickets = λ s p there. (turns.each s p there).tickets;
  rest = λ s p c there is none empty. ((turns.each s p there).connection c is).rest none empty;
  table = λ s p there. (turns.each s p there).entry;
  edges = edges;
}

-- a connection is tried on its own notes and tickets

takes_own : (st : State) (d : Doing) → Turns st → TakesOwnNotes st d
takes_own st (Holds s left) turns = λ p c lies is.
    let sv = turns.each s p lies in
    rw (own_generation (facts st s p.generation) p c (sv.connection c is).stands) sv.notes
takes_own st _ turns = tt

tried_own : (st : State) {e : Event} {q : State} → Turns st → Happens st e q → TriedOnOwn st e
tried_own st turns (Takes w h) = λ k there. takes_own st k.doing turns
tried_own st turns (Claims w k t p there does lies) = λ j at. let same : j ≡ k = cc (at, there) in rw (same, does) (claims_own st w k t p there does lies turns)
tried_own st turns (Leaves w k t p there does lies held) = absurd (unheld_so st w k t p there does lies turns held)
tried_own st turns _ = tt

tried_first : (st : State) (e : Event) (events : List Event) (w : State) (o : Option State) → Turns st → Kept (Happens st e) o → option_and_then (λ (q : State). run q events) o ≡ Some w
    → TriedOnOwn st e
tried_first st e events w None turns h ran = absurd (cc)
tried_first st e events w (Some q) turns h ran = tried_own st turns h.kept

rest_ran : (f : State → Option State) (o : Option State) (q w : State) → o ≡ Some q → option_and_then f o ≡ Some w → f q ≡ Some w
rest_ran f o q w is ran = rw is at ran

tried_throughout : (laws : CoreLaws) (st : State) (events : List Event) (w : State) → run st events ≡ Some w → Turns st → Throughout TriedOnOwn st events
tried_throughout laws st [] w ran turns = tt
tried_throughout laws st (e ∷ events) w ran turns = (
  tried_first st e events w (step st e) turns (happens st e) ran,
  λ q is. tried_throughout laws q events w (rest_ran (λ (x : State). run x events) (step st e) q w is ran) (turns_on laws st turns (kept_at (step st e) q is (happens st e))),
)

-- so it all holds after every run from the opening world

pub own_after : (laws : CoreLaws) (l : Limits) (events : List Event) (w : State) → run (opening l) events ≡ Some w → Throughout TriedOnOwn (opening l) events
own_after laws l events w ran = tried_throughout laws (opening l) events w ran (opening_turns l)

-- an event that changes no slot and makes no step
untouched : {st next : State} {e : Event} → next.slots ≡ st.slots → ((s : ℕ) → steps st e s ≡ []) → ((s : ℕ) → tickets next s ≡ tickets st s) → WordsMove st e next
untouched all none same s p there = record { place = p; there = rw all there; word = rw (none s); tickets = rw (none s) (omega (arith, same s)) }

moves_at : {st next : State} {e : Event} (s i : ℕ) {p : SlotState} (r : SlotState) {old : SlotState} (kinds : List StepKind) → (s ≡ i) ⊎ (s ≢ i) → slice_get st.slots s ≡ Some p
    → next.slots ≡ slice_set st.slots s r → steps st e i ≡ kinds_at i s kinds → word_at r ≡ word_after_kinds kinds (word_at p)
    → tickets next s + claims kinds ≡ tickets st s + count_wakes kinds (word_at p) → (s ≢ i → tickets next i ≡ tickets st i) → slice_get st.slots i ≡ Some old → WordMoves st next e i old
moves_at {st} {e = e} s i {p} r {old} kinds (inl same) there all made word count others here =
    let was : p ≡ old = let at : slice_get st.slots s ≡ Some old = rw same here in (cc) in
    let steps_here : steps st e i ≡ kinds = rw (made, eq-eqb s i same) in
    record {
      place = r;
      there = rw (all, ← same) (get-set_same st.slots s p r there);
      word = rw (steps_here, ← was) (ap words.word_of word);
      tickets = rw (steps_here, ← was, ← same) count;
    }
moves_at {st} {e = e} s i r {old} kinds (inr apart) there all made word count others here =
    let none : steps st e i ≡ [] = rw (made, ne_eqb s i apart) in
    record {
      place = old;
      there = rw all (get-set_other st.slots s i r apart ∙ here);
      word = rw none;
      tickets = rw none (omega (arith, others apart));
    }

-- an event that makes steps at one slot
touched : {st next : State} {e : Event} (s : ℕ) {p : SlotState} (r : SlotState) (kinds : List StepKind) → slice_get st.slots s ≡ Some p → next.slots ≡ slice_set st.slots s r
    → ((i : ℕ) → steps st e i ≡ kinds_at i s kinds) → word_at r ≡ word_after_kinds kinds (word_at p)
    → tickets next s + claims kinds ≡ tickets st s + count_wakes kinds (word_at p) → ((i : ℕ) → s ≢ i → tickets next i ≡ tickets st i) → WordsMove st e next
touched s r kinds there all made word count others i old here = moves_at s i r kinds (cases_eq s i) there all (made i) word count (others i) here

neither : (b : Bool) (none : List StepKind) → none ≡ (if b then none else none)
neither b none = grind arith

-- the slot's notes and holder stay, and no step is made
stays : {st next : State} {e : Event} (s : ℕ) {p : SlotState} (r : SlotState) → slice_get st.slots s ≡ Some p → next.slots ≡ slice_set st.slots s r → ((i : ℕ) → steps st e i ≡ [])
    → word_at r ≡ word_at p → ((i : ℕ) → tickets next i ≡ tickets st i) → WordsMove st e next
stays s r there all none word same = touched s r [] there all (λ i. none i ∙ neither (s == i) []) word (omega (arith, same s)) (λ i apart. same i)

-- a note more

noted_word : (p : SlotState) (g : ℕ) → word_at (with_note p g) ≡ word_after_kinds (words.post ∷ []) (word_at p)
noted_word p g = grind (arith, length-append p.notes (g ∷ []))

waits : (n : ℕ) → some_wait n ≡ nat_lt 0 n
waits n = grind (arith, nat_tests)

wakes_so : (held : Bool) (n : ℕ) → (if held then false else (if some_wait n then false else true)) ≡ not (held || nat_lt 0 n)
wakes_so held n = grind (arith, nat_tests)

posted_words : (st : State) {next : State} {e : Event} (s g : ℕ) (p : SlotState) → ((i : ℕ) → steps st e i ≡ kinds_at i s (words.post ∷ [])) → slice_get st.slots s ≡ Some p
    → next.slots ≡ slice_set st.slots s (with_note p g) → ((i : ℕ) → tickets next i ≡ tickets (posted st s g p) i) → WordsMove st e next
posted_words st s g p made there all like =
    let more = handed (of_slot s) (brings_ticket p) s g st.hand (one_same s) in
    let woken : one (words.wakes (word_at p)) ≡ one (brings_ticket p) = rw (wakes_so (is_held p.holder) (length p.notes)) in
    let here = like s in
    touched s (with_note p g) (words.post ∷ []) there all made (noted_word p g) (omega arith) (λ i apart.
    let same = handed (of_slot i) (brings_ticket p) s g st.hand (one_other s i apart) in
    let there = like i in
    omega arith)

-- each event

words_on : (st : State) {e : Event} {q : State} → Turns st → Happens st e q → WordsMove st e q
words_on st turns (Opens s g p first lies entry) =
    let f = first_free st s p lies first turns in
    let new : Ticket = record { slot = s; generation = g + 1 } in
    let more = total_push (of_slot s) st.hand new in
    let this = one_same s in
    touched s (opened_place s (g + 1) st.limits st.second (open_both st.kernel (token_at s Client (g + 1)) (token_at s Target (g + 1))).told)
    (words.adopt ∷ words.take ∷ words.post ∷ words.release ∷ []) lies refl (λ i. rw first) refl (rw f.holder (omega arith))
    (λ i apart. let other = one_other s i apart in let same = total_push (of_slot i) st.hand new in omega arith)
words_on st turns (Hears first) = untouched refl (λ s. rw first) (λ s. refl)
words_on st turns (Wakes first) = untouched refl (λ s. rw first) (λ s. refl)
words_on st turns (Passes n first other) = untouched refl (λ s. rw (first, other)) (λ s. refl)
words_on st turns (Delivers n p first entry lies) = posted_words st n.slot n.generation p (λ i. rw (first, entry, eq-eqb n.generation n.generation refl)) lies refl (λ i. refl)
words_on st turns (Sweeps s g p entry lies) = posted_words st s g p (λ i. refl) lies refl (λ i. refl)
words_on st turns (Puts t rest is) = untouched refl (λ s. refl) (λ s. omega (arith, total_push (of_slot s) st.ready t, ap (total (of_slot s)) is))
words_on st turns (HandsIn w k t rest there is) = untouched refl (λ s. rw there) (λ s.
    let r = replaced st w (record k { hand = rest }) s 0 there in omega (arith, total_push (of_slot s) st.ready t, ap (total (of_slot s)) is))
words_on st turns (Pops w k t rest there idle is) = untouched refl (λ s. rw there) (λ s.
    let r = turned st w (Tries t) s 0 there idle in omega (arith, ap (total (of_slot s)) is))
words_on st turns (Claims w k t p there does lies) =
    let s = t.slot in
    let wait = waiting st w k t p there does lies turns in
    let this = one_same s in
    let m = turned st w (Holds s st.limits.budget) s 0 there does in
    touched s (record p { holder = By w }) (words.claim ∷ []) lies refl (λ i. rw (there, does)) (rw wait.holder) (rw wait.holder (omega arith)) (λ i apart.
    let away = one_other s i apart in let n = turned st w (Holds s st.limits.budget) i 0 there does in omega arith)
words_on st turns (Leaves w k t p there does lies held) = absurd (unheld_so st w k t p there does lies turns held)
words_on st turns (Takes w h) = touched h.s (record h.p { notes = []; connection = Some (heard h.c h.p.notes) }) (words.take ∷ []) h.lies refl (λ i. rw (h.there, h.does)) refl refl (λ i apart. refl)
words_on st turns (Calls w h r m) = stays h.s (record h.p { connection = Some (after_call m) }) h.lies refl (λ i. rw h.there) refl
    (λ i. let m = turned st w (Holds h.s (h.left - 1)) i 0 h.there h.does in omega arith)
words_on st turns (Posts w h) =
    touched h.s (with_note h.p h.c.pair.generation) (words.post ∷ []) h.lies refl (λ i. rw (h.there, h.does)) (noted_word h.p h.c.pair.generation) (rw (held_slot h turns).holder) (λ i apart. refl)
words_on st turns (Releases w h may) =
    let s = h.s in
    let next : WorkerState = record { doing = Idle; hand = hand_after h } in
    let held = held_slot h turns in
    let r = replaced st w next s 0 h.there in
    let did = doing_so s 0 h.does in
    let more = handed (of_slot s) (is_nonempty h.p.notes) s h.p.generation h.k.hand (one_same s) in
    let woken : one (some_wait (length h.p.notes)) ≡ one (is_nonempty h.p.notes) = rw (waits (length h.p.notes)) in
    touched s (record h.p { holder = Nobody }) (words.release ∷ []) h.lies refl (λ i. rw (h.there, h.does)) (rw held.holder) (omega arith) (λ i apart.
    let m = replaced st w next i 0 h.there in
    let a = doing_so i 0 h.does in
    let x = handed (of_slot i) (is_nonempty h.p.notes) s h.p.generation h.k.hand (one_other s i apart) in
    omega arith)
words_on st turns (Expires w h over) = stays h.s _ h.lies refl (λ i. rw h.there) refl (λ i. refl)
words_on st turns (Closes w h one two at as_well) = stays h.s (record h.p { connection = None }) h.lies refl (λ i. rw h.there) refl
    (λ i. let m = turned st w (Closed h.s) i 0 h.there h.does in omega arith)
words_on st turns (Retires w k s p there does lies) =
    let held = closed_by st w k s p there does lies turns in
    let m = turned st w (Retired s) s 0 there does in
    touched s (record p { holder = Free }) (words.retire ∷ []) lies refl (λ i. rw (there, does)) (rw held.holder) (omega arith)
    (λ i apart. let n = turned st w (Retired s) i 0 there does in omega arith)
words_on st turns (Frees w k s p there does) = untouched refl (λ i. rw there) (λ i. let m = turned st w Idle i 0 there does in omega arith)
words_on st turns _ = untouched refl (λ s. refl) (λ s. refl)

-- a step that was made moves the words so, in every world that a run reaches
pub words_met : (laws : CoreLaws) (st next : State) (e : Event) (r : Result (Unit {0}) Refusal) → Meets (step st e) st next r → IfOk r (λ x. WordsMoveInRuns st e next)
words_met laws st next e (Ok x) met = λ l events ran. words_on st (turns_after laws l events st ran) (kept_at (step st e) next met (happens st e))
words_met laws st next e (Err NotAllowed) met = tt
words_met laws st next e (Err NoMemory) met = tt
