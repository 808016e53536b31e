-- What each event does to the ends of each connection, to each slot, and to the closed connections; so after every
-- run: bytes and ends, and no flag down without cover. And of each closed connection: what was sent is a beginning of
-- the preamble and what was given, and all of it where it was done. Nothing more is given for its generation, since
-- its slot has none of that generation any more.
pub mod Pairs
unfoldable pub use Pairs.*

-- the rest of the machine has at least as much for slot s
record Better (st q : State) (s : ℕ) : Type 0 where
  table : slice_get q.table s ≡ slice_get st.table s
  limits : q.limits ≡ st.limits
  ends : (d : ℕ) (r : Registered) → end_at st.kernel.ends d ≡ Some r → r.token.slot ≡ s → end_at q.kernel.ends d ≡ Some r
  pending : (side : Side) (g : ℕ) → slice_get st.table s ≡ Some g → is_pending st (token_at s side g) ≡ true → is_pending q (token_at s side g) ≡ true

-- the ends are as they were
names_on : {st q : State} {s : ℕ} → q.table ≡ st.table → q.limits ≡ st.limits → q.kernel.ends ≡ st.kernel.ends
    → ((side : Side) (g : ℕ) → slice_get st.table s ≡ Some g → is_pending st (token_at s side g) ≡ true → is_pending q (token_at s side g) ≡ true) → Better st q s
names_on table limits ends more = grind arith

-- nothing came to slot s
abbrev Quiet : ℕ → History → History → Type 0
Quiet s past next = (g : ℕ) (side : Side) → next s g side ≡ past s g side

or_more : (a b c : Bool) → (a ≡ true → b ≡ true) → (a || c) ≡ true → (b || c) ≡ true
or_more a b c more h = grind arith

better : {past next : History} {st q : State} {s : ℕ} {p : SlotState} → Quiet s past next → Better st q s → PlaceOk past st s p → PlaceOk next q s p
better {past} {next} {st} {q} {s} {p} quiet f ok = record {
  entry = f.table ∙ ok.entry;
  later = λ g side younger. quiet g side ∙ (ok.later g side younger ∙ same_before s g side f.limits);
  connection = λ c here. (let k = ok.connection c here in record {
    generation = k.generation;
    ends = k.ends;
    there = λ side. f.ends (descriptor c.ends side) (registered s p.generation side (socket_of k.ends side)) (k.there side) refl;
    pair = pair_more k.pair (quiet p.generation) (λ side. or_more _ _ (is_nonempty p.notes) (f.pending side p.generation ok.entry));
  });
}

-- slot s becomes p, which is in order, and every other has at least what it had
keep_next : {past next : History} {st q : State} {s : ℕ} {old p : SlotState} → AllOk past st → slice_get st.slots s ≡ Some old
    → q.slots ≡ slice_set st.slots s p → ((i : ℕ) → (i ≡ s → ⊥) → Quiet i past next) → ((i : ℕ) → (i ≡ s → ⊥) → Better st q i)
    → PlaceOk next q s p → AllOk next q
keep_next {st = st} all was set quiet f this = record {
  each = λ i r here. elim (at_one st.slots i was set here) [
    | inl h ↦ rw (h.0, h.1) this
    | inr h ↦ better (quiet i h.0) (f i h.0) (all.each i r h.1)
  ];
}

keep_place : {past : History} {st q : State} {s : ℕ} {old p : SlotState} → AllOk past st → slice_get st.slots s ≡ Some old
    → q.slots ≡ slice_set st.slots s p → ((i : ℕ) → (i ≡ s → ⊥) → Better st q i) → PlaceOk past q s p → AllOk past q
keep_place all was set f this = keep_next all was set (λ i differ g side. refl) f this

-- the place of a connection
pub record Lies (o : Option SlotState) (c : Connection) : Type 0 where
  pub place : SlotState
  pub there : o ≡ Some place
  pub connection : place.connection ≡ Some c

pub lies_in : (o : Option SlotState) (c : Connection) → option_and_then (λ (p : SlotState). p.connection) o ≡ Some c → Lies o c
lies_in o c e = grind arith

-- the pair changed, or the notes
renewed : {past : History} {st q : State} {s g : ℕ} {notes more : List ℕ} {c d : Connection} (ok : EndsOk past st s g notes c)
    → q.kernel.ends ≡ st.kernel.ends → d.ends ≡ c.ends → d.pair.generation ≡ c.pair.generation
    → PairOk (past s g) (λ side. is_pending q (token_at s side g) || is_nonempty more) d.pair ok.ends → EndsOk past q s g more d
renewed ok kernel ends generation pair = grind arith

-- The network

-- the history with what an event brings
abbrev pub after_event : History → State → Event → History
after_event past st e = λ s g side. past s g side ++ given_by st s g side e

none_after : (a : Bool) → (a && false) ≡ false
none_after a = grind arith

nothing : (b : Bool) → ◌≡◌ {A = List ℕ} (if b then [] else []) []
nothing b = grind arith

-- the bytes that a change brings, to whom it brings them
given_if : (st : State) (s : ℕ) (side : Side) (change : Change) (i g : ℕ) (t : Side) → given_by st i g t (event.Network s side change)
    ≡ (if (s == i && side_number side == side_number t) && has_generation (slice_get st.slots i) g then brought change else [])
given_if st s side change i g t = grind arith

module _ (past : History) (st : State) (s : ℕ) (side : Side) (change : Change) (c : Connection) (l : Lies (slice_get st.slots s) c) where
  abbrev next : History
  next = after_event past st (event.Network s side change)

  elsewhere : (i g : ℕ) (t : Side) → (i ≡ s → ⊥) → next i g t ≡ past i g t
  elsewhere i g t differ = grind (arith, given_if st s side change i g t, append-nil (past i g t))

  younger : (g : ℕ) (t : Side) → (l.place.generation ≡ g → ⊥) → next s g t ≡ past s g t
  younger g t differ = grind (arith, given_if st s side change s g t, append-nil (past s g t))

  came : next s l.place.generation side ≡ past s l.place.generation side ++ brought change
  came = rw (
    given_if st s side change s l.place.generation side,
    eq-eqb s s refl,
    eq-eqb (side_number side) (side_number side) refl,
    l.there,
    eq-eqb l.place.generation l.place.generation refl,
  ) refl

  came_not : next s l.place.generation (other_side side) ≡ past s l.place.generation (other_side side)
  came_not = grind (arith, given_if st s side change s l.place.generation (other_side side), append-nil (past s l.place.generation (other_side side)))

  network_keeps : (r : Registered) (t : Told EndState Bool) → end_there st c side ≡ Some r → change_of change r.socket ≡ Some t → AllOk past st
      → AllOk next (record st {
        kernel = record st.kernel {
          ends = ends_with st c side (Some (record r { socket = t.value }));
          queue = reported st.kernel.queue (End r.token) t.told;
        };
      })
  network_keeps r t at_r now all =
      let p = l.place in
      let slot = all.each s p l.there in
      let ok = slot.connection c l.connection in
      let n = End (token_at s side p.generation) in
      let is = its_end ok side r at_r in
      let done = kept_at (change_of change (socket_of ok.ends side)) t (rw is at now) (changed_end change (socket_of ok.ends side)) in
      rw is (keep_next all l.there (set_same st.slots s p l.there) (λ i differ g other. elsewhere i g other differ)
      (λ i differ. record {
        table = refl;
        limits = refl;
        ends = others_kept ok side _ differ;
        pending = λ other g entry. or_more _ _ _ (has_reported (End (token_at i other g)) n t.told st.kernel.queue);
      })
      (record {
        entry = slot.entry;
        later = λ g other later. younger g other (λ same. omega arith) ∙ slot.later g other later;
        connection = λ b lying. (let same : b ≡ c = (let was = l.connection in cc) in rw same (record {
          generation = ok.generation;
          ends = with_socket ok.ends side t.value;
          there = ends_there ok side t.value;
          pair = pair_changed side ok.pair done came came_not
              (λ other. or_more _ _ (is_nonempty p.notes) (or_more _ _ _ (has_reported (End (token_at s other p.generation)) n t.told st.kernel.queue)))
              (λ told. or_left _ (is_nonempty p.notes) (or_left _ (has n st.batch) (reported_has n t.told st.kernel.queue told)));
        }));
      }))

-- A report is taken back

neither : (a b : Bool) → not (a || b) ≡ true → (a ≡ false) × (b ≡ false)
neither a b h = grind arith

differs : (s g : ℕ) (side : Side) → same (End (token_at s side g)) (End (token_at s (other_side side) g)) ≡ false
differs s g Client = none_after (s == s)
differs s g Target = none_after (s == s)

module _ {past : History} {st : State} (all : AllOk past st) where
  -- what is queued changes, or the batch
  queues : {q : State} → q.slots ≡ st.slots → q.table ≡ st.table → q.limits ≡ st.limits → q.kernel.ends ≡ st.kernel.ends
      → ((n : EndName) → slice_get st.table n.slot ≡ Some n.generation → is_pending st n ≡ true → is_pending q n ≡ true) → AllOk past q
  queues slots table limits ends more = record {
    each = λ i p here. better (λ g side. refl) (names_on table limits ends (λ side g. more (token_at i side g))) (all.each i p (rw slots at here));
  }

  withdrawn : (s : ℕ) (side : Side) (c : Connection) (r : Registered) → Lies (slice_get st.slots s) c → end_there st c side ≡ Some r → is_quiet_end (Some r) ≡ true
      → AllOk past (record st { kernel = record st.kernel { queue = without_name (End r.token) st.kernel.queue } })
  withdrawn s side c r l there quiet =
      let p = l.place in
      let slot = all.each s p l.there in
      let ok = slot.connection c l.connection in
      let n = token_at s side p.generation in
      let is = its_end ok side r there in
      let still = neither _ _ (rw is at quiet) in
      rw is (keep_place all l.there (set_same st.slots s p l.there)
      (λ i differ. names_on refl refl refl (λ t g entry. or_more _ _ _
      (has_without (End (token_at i t g)) (End n) st.kernel.queue (other_slot n (token_at i t g) (λ e. differ (sym e))))))
      (record {
        entry = slot.entry;
        later = slot.later;
        connection = λ b lying. (let same : b ≡ c = (let was = l.connection in cc) in rw same (renewed ok refl refl refl (pair_unready side ok.pair still.0 still.1
            (or_more _ _ (is_nonempty p.notes) (or_more _ _ _ (has_without (End (token_at s (other_side side) p.generation)) (End n) st.kernel.queue (differs s p.generation side)))))));
      }))

  -- a slot changes, and stays in order wherever it was
  turns : {s : ℕ} {old new : SlotState} {hand : List Ticket} {workers : List WorkerState} → slice_get st.slots s ≡ Some old
      → ((q : State) → PlaceOk past q s old → PlaceOk past q s new) → AllOk past (record st { slots = slice_set st.slots s new; hand = hand; workers = workers })
  turns {s} {old} was ok = keep_place all was refl (λ i differ. names_on refl refl refl (λ side g entry h. h))
      (ok _ (better (λ g side. refl) (names_on refl refl refl (λ side g entry h. h)) (all.each s old was)))

-- one slot gets a note more, which covers all flags
noted_ok : {past : History} {st q : State} {s : ℕ} {p : SlotState} (g : ℕ) → q.table ≡ st.table → q.limits ≡ st.limits → q.kernel.ends ≡ st.kernel.ends
    → PlaceOk past st s p → PlaceOk past q s (with_note p g)
noted_ok {q} {s} {p} g table limits ends ok = record {
  entry = rw table ok.entry;
  later = λ g side younger. ok.later g side younger ∙ same_before s g side limits;
  connection = λ c here. (let k = ok.connection c here in
      renewed k ends refl refl (pair_more k.pair (λ side. refl) (λ side h. or_right _ _ (nonempty_more p.notes (g ∷ []) refl))));
}

none_in : (n : Name) (names : List Name) → names ≡ [] → has n names ≡ true → ⊥
none_in n names e h = grind arith

not_this : (st : State) (m n : EndName) → slice_get st.table m.slot ≡ Some m.generation → is_entry (slice_get st.table n.slot) n.generation ≡ false → same (End m) (End n) ≡ false
not_this st m n entry other = grind (arith, same_end_is m n)

module _ {past : History} {st : State} {s : ℕ} {p : SlotState} {c d : Connection} {notes : List ℕ} (is : p.connection ≡ Some c)
    (ok : EndsOk past st s p.generation p.notes c → EndsOk past st s p.generation notes d) where
  connected_ok : PlaceOk past st s p → PlaceOk past st s (record p { notes = notes; connection = Some d })
  connected_ok slot = grind (arith, ok, slot)

held_ok : {past : History} {st : State} {s : ℕ} {p : SlotState} {h : Holder} → PlaceOk past st s p → PlaceOk past st s (record p { holder = h })
held_ok ok = grind arith

heard_ok : {past : History} {st : State} {s g : ℕ} {notes : List ℕ} {c : Connection} (b : Bool) → is_nonempty notes ≡ b
    → EndsOk past st s g notes c → EndsOk past st s g [] (if b then record c { pair = noted c.pair } else c)
heard_ok b some ok = grind (arith, ok.pair.covered, ok.pair.directions, ok.there, some)

-- an overdue connection fails, and keeps all else
timed_out_ok : {past : History} {st : State} {s g : ℕ} {notes : List ℕ} {c : Connection} → EndsOk past st s g notes c → EndsOk past st s g notes (record c { pair = timed_out c.pair })
timed_out_ok ok = grind arith

call_keeps : (laws : CoreLaws) {past : History} {st : State} {w : ℕ} (h : Holding st w) {r : Reply} (m : Made st h.c r) → AllOk past st → AllOk past (called_on h m)
call_keeps laws {past} {st} h m all =
    let slot = all.each h.s h.p h.lies in
    let ok = slot.connection h.c h.is in
    let side = side_of m.call in
    rw (its_end ok side m.old m.there) (keep_place all h.lies refl
    (λ i differ. record { table = refl; limits = refl; ends = others_kept ok side _ differ; pending = λ side g entry h. h })
    (record {
      entry = slot.entry;
      later = slot.later;
      connection = λ b is. (let this : after_call m ≡ b = cc in rw (← this) (record {
        generation = ap (λ (x : Standing). x.generation) (laws.place st.second h.c.pair m.call m.value) ∙ ok.generation;
        ends = with_socket ok.ends side m.socket;
        there = ends_there ok side m.socket;
        pair = pair_called ok m;
      }));
    }))

-- An opening

-- the ends by descriptor with the client's end
abbrev with_client : KernelState → ℕ → ℕ → List (Option Registered)
with_client k s g = with_end k.ends (lowest_free k.ends) (registered s g Client (opened Client))

fresh_direction : (gave : List ℕ) (ring : ℕ) (lead : List ℕ) (x y : Side) → gave ≡ lead → DirectionOk gave (empty_stream ring lead) (opened x) (opened y)
fresh_direction gave ring lead x y same = grind (arith, append-nil lead, append-nil (lead ++ []))

fresh_pair : {h : Side → List ℕ} {r : Side → Bool} (s g : ℕ) (l : Limits) (now : ℕ) → ((side : Side) → h side ≡ before l s g side)
    → PairOk h r (fresh s g l.ring now (lead_at l.lead s g)) (record { client = opened Client; target = opened Target })
fresh_pair {h} s g l now same = grind (arith, fresh_direction (h Client) l.ring (lead_at l.lead s g) Client Target, fresh_direction (h Target) l.ring [] Target Client)

fresh_keeps : {past : History} {st : State} (s g : ℕ) (p : SlotState) → slice_get st.slots s ≡ Some p → slice_get st.table s ≡ Some g → AllOk past st
    → AllOk past (fresh_world st s (g + 1))
fresh_keeps {st = st} s g p here entry all =
    let slot = all.each s p here in
    let same : p.generation ≡ g = (let is = slot.entry in cc) in keep_place all here refl
    (λ i differ. record {
      table = get-set_other st.table s i (g + 1) (λ same. differ (sym same));
      limits = refl;
      ends = λ d b there of_i. opened_other (with_client st.kernel s (g + 1)) d _ (opened_other st.kernel.ends d _ there);
      pending = λ side h there k. k;
    })
    (record {
      entry = get-set_same st.table s g (g + 1) entry;
      later = λ h side younger. slot.later h side (omega arith);
      connection = λ c is. (let this : record {
        pair = fresh s (g + 1) st.limits.ring st.second (lead_at st.limits.lead s (g + 1));
        ends = record { client = lowest_free st.kernel.ends; target = lowest_free (with_client st.kernel s (g + 1)) };
      } ≡ c = cc in
          rw (← this) (record {
            generation = refl;
            ends = record { client = opened Client; target = opened Target };
            there = by_side _
                (opened_other (with_client st.kernel s (g + 1)) (lowest_free st.kernel.ends) _ (opened_here st.kernel.ends _))
                (opened_here (with_client st.kernel s (g + 1)) _);
            pair = fresh_pair s (g + 1) st.limits st.second (λ side. slot.later (g + 1) side (omega arith));
          }));
    })

-- A closing

module _ {past : History} {st : State} {w : ℕ} (h : Holding st w) (all : AllOk past st) where
  closing_ok : EndsOk past st h.s h.p.generation h.p.notes h.c
  closing_ok = (all.each h.s h.p h.lies).connection h.c h.is

  target_left : end_at (ends_with st h.c Client None) h.c.ends.target ≡ Some (registered h.s h.p.generation Target closing_ok.ends.target)
  target_left = end_kept st.kernel.ends h.c.ends.client h.c.ends.target None (closing_ok.there Client) (closing_ok.there Target)
      (λ same. let sides = ap (λ (n : EndName). n.side) same in absurd (cc))

  are_both : (one two : Registered) → end_there st h.c Client ≡ Some one → end_at (ends_with st h.c Client None) h.c.ends.target ≡ Some two
      → (one ≡ registered h.s h.p.generation Client closing_ok.ends.client) × (two ≡ registered h.s h.p.generation Target closing_ok.ends.target)
  are_both one two at as_well = (its_end closing_ok Client one at, cc target_left)

  close_keeps : (one two : Registered) → end_there st h.c Client ≡ Some one → end_at (ends_with st h.c Client None) h.c.ends.target ≡ Some two → AllOk past (closed_on h one two)
  close_keeps one two at as_well =
      let s = h.s in
      let g = h.p.generation in
      let slot = all.each s h.p h.lies in
      let are = are_both one two at as_well in
      rw (are.0, are.1) (keep_place all h.lies refl
      (λ i differ. record {
        table = refl;
        limits = refl;
        ends = λ d b there of_i. end_kept (ends_with st h.c Client None) h.c.ends.target d None target_left (others_kept closing_ok Client None differ d b there of_i)
            (λ same. differ (let slots = ap (λ (n : EndName). n.slot) same in cc));
        pending = λ side h entry. or_more _ _ _ (λ queued. let n = token_at i side h in
            has_without (End n) (End (token_at s Target g)) (without_name (End (token_at s Client g)) st.kernel.queue) (other_slot (token_at s Target g) n (λ same. differ (sym same)))
            (has_without (End n) (End (token_at s Client g)) st.kernel.queue (other_slot (token_at s Client g) n (λ same. differ (sym same))) queued));
      })
      (record { entry = slot.entry; later = slot.later; connection = λ d is. absurd (cc) }))

-- Each event

-- of an event that brings no bytes
abbrev Elsewhere : Event → Type 0 → Type 0
Elsewhere (event.Network s side change) P = Unit {0}
Elsewhere e P = P

rest_on : (laws : CoreLaws) {past : History} {st : State} {e : Event} {q : State} → AllOk past st → Happens st e q → Elsewhere e (AllOk past q)
rest_on laws all (Changes s side change c r t lies there now) = tt
rest_on laws {st = st} all (Reports who n) = queues all refl refl refl refl (λ m entry. or_more _ _ _ (has_with (End m) n st.kernel.queue))
rest_on laws {st = st} all (WithdrawsListener none) = queues all refl refl refl refl (λ m entry. or_more _ _ _ (has_without (End m) Listener st.kernel.queue refl))
rest_on laws {st = st} all WithdrawsWaker = queues all refl refl refl refl (λ m entry. or_more _ _ _ (has_without (End m) Waker st.kernel.queue refl))
rest_on laws {st = st} all (Withdraws s side c r lies there quiet) = withdrawn all s side c r (lies_in (slice_get st.slots s) c lies) there quiet
rest_on laws {st = st} all Connects = queues all refl refl refl refl (λ m entry. or_more _ _ _ (has_reported (End m) Listener st.kernel.armed st.kernel.queue))
rest_on laws all (Opens s g p first lies entry) = fresh_keeps s g p lies entry all
rest_on laws {st = st} all (Polls names none) = queues all refl refl refl refl (λ m entry. or_then _ _ (has_polled (End m) names.items st.kernel.queue)
    (λ k. absurd (none_in (End m) st.batch (nil_from_length st.batch (eqb-true (length st.batch) 0 none)) k)))
rest_on laws {st = st} all (Hears first) = queues all refl refl refl refl (λ m entry. or_both _ _ _ _ (λ k. k) (batch_left (End m) Listener st.batch first refl))
rest_on laws {st = st} all (Wakes first) = queues all refl refl refl refl (λ m entry. or_both _ _ _ _ (λ k. k) (batch_left (End m) Waker st.batch first refl))
rest_on laws {st = st} all (Passes n first other) =
    queues all refl refl refl refl (λ m entry. or_both _ _ _ _ (λ k. k) (batch_left (End m) (End n) st.batch first (not_this st m n entry other)))
rest_on laws {st = st} all (Delivers n p first entry lies) = keep_place all lies refl (λ i differ. names_on refl refl refl
    (λ side h entry. or_both _ _ _ _ (λ k. k) (batch_left (End (token_at i side h)) (End n) st.batch first (other_slot (token_at i side h) n differ))))
    (noted_ok n.generation refl refl refl (all.each n.slot p lies))
rest_on laws all (Sweeps s g p entry lies) = turns all lies (λ q. noted_ok g refl refl refl)
rest_on laws all (Claims w k t p there does lies) = turns all lies (λ q. held_ok)
rest_on laws all (Takes w h) = turns all h.lies (λ q. connected_ok h.is (heard_ok (is_nonempty h.p.notes) refl))
rest_on laws all (Calls w h r m) = call_keeps laws h m all
rest_on laws all (Posts w h) = turns all h.lies (λ q. noted_ok h.c.pair.generation refl refl refl)
rest_on laws all (Releases w h may) = turns all h.lies (λ q. held_ok)
rest_on laws all (Expires w h over) = turns all h.lies (λ q. connected_ok h.is timed_out_ok)
rest_on laws all (Closes w h one two at as_well) = close_keeps h all one two at as_well
rest_on laws all (Retires w k s p there does lies) = turns all lies (λ q. held_ok)
rest_on laws all _ = queues all refl refl refl refl (λ n entry h. h)

renamed : {past next : History} {st : State} → ((i g : ℕ) (side : Side) → next i g side ≡ past i g side) → AllOk past st → AllOk next st
renamed same all = record { each = λ i p here. better (same i) (names_on refl refl refl (λ side g entry h. h)) (all.each i p here) }

ends_on : (laws : CoreLaws) {past : History} {st : State} {e : Event} {q : State} → AllOk past st → Happens st e q → AllOk (after_event past st e) q
ends_on laws {past} {st} all (Changes s side change c r t lies there now) = network_keeps past st s side change c (lies_in (slice_get st.slots s) c lies) r t there now all
ends_on laws {past} all h = renamed (λ i g side. append-nil (past i g side)) (rest_on laws all h)

-- What was in a slot before

-- the failure that an event brings, by a call or by the idle limit
abbrev pub cause_by : State → Event → Option Failure
cause_by st (event.Work w act.Expire) = option_map (λ (x : Named). failed_with x.slot x.generation reason.Idle) (held_connection st w)
cause_by st e = failure_by st e

-- a connection that was there before, and fails by this event if it did not fail already
pub record Continues (st : State) (e : Event) (s : ℕ) (old new : Connection) : Type 0 where
  pub generation : new.pair.generation ≡ old.pair.generation
  pub fails : (fault : Fault) → verdict new.pair ≡ Failed fault → (verdict old.pair ≡ Failed fault) ⊎ (cause_by st e ≡ Some (failed_with s old.pair.generation fault))
  pub since : old.pair.moved ≤ st.second → (old.pair.moved ≤ new.pair.moved) × (new.pair.moved ≤ st.second)

-- a connection that was opened at this second, in a slot that was older
pub record IsFresh (st : State) (old new : SlotState) (c : Connection) : Type 0 where
  pub live : verdict c.pair ≡ Live
  pub moved : c.pair.moved ≡ st.second
  pub older : old.generation < new.generation

-- a slot before an event: it had the connection that it has now, or a fresh one was opened
pub record Was (st : State) (e : Event) (s : ℕ) (new : SlotState) : Type 0 where
  pub old : SlotState
  pub there : slice_get st.slots s ≡ Some old
  pub older : old.generation ≤ new.generation
  pub connection : (c : Connection) → new.connection ≡ Some c → ((b : Connection) × (old.connection ≡ Some b) × Continues st e s b c) ⊎ IsFresh st old new c

module _ {st : State} {e : Event} {s : ℕ} where
  continues : {c d : Connection} → d.pair.generation ≡ c.pair.generation → verdict d.pair ≡ verdict c.pair → d.pair.moved ≡ c.pair.moved → Continues st e s c d
  continues generation same moved = grind arith

  keeps_connection : {old : SlotState} {holder : Holder} {notes : List ℕ} → slice_get st.slots s ≡ Some old → Was st e s (record old { holder = holder; notes = notes })
  keeps_connection {old} lies = record { old = old; there = lies; older = le_refl _; connection = λ c is. inl (c, is, continues refl refl refl) }

  goes_on_in : {old : SlotState} {b c : Connection} {notes : List ℕ} → slice_get st.slots s ≡ Some old → old.connection ≡ Some b → Continues st e s b c
      → Was st e s (record old { connection = Some c; notes = notes })
  goes_on_in lies is goes = grind (arith, goes)

one_was : {st : State} {e : Event} {s : ℕ} {old new : SlotState} (i : ℕ) (p : SlotState) → slice_get st.slots s ≡ Some old → Was st e s new
    → slice_get (slice_set st.slots s new) i ≡ Some p → Was st e i p
one_was {st} i p lies was here = grind (arith, at_one st.slots i lies refl here, keeps_connection)

heard_continues : {st : State} {e : Event} {s : ℕ} (c : Connection) (b : Bool) → Continues st e s c (if b then record c { pair = noted c.pair } else c)
heard_continues c b = grind arith

-- a pair is given a failure where the kernel's reply was one

failed_plain : (said : Reply) (kind : Kind) → plain said ≡ Some (answer.Failed kind) → said ≡ reply.Failed kind
failed_plain said kind h = grind arith

failed_told : (l : OpenConnection) (call : Call) (said : Reply) (kind : Kind) → told_of l call said ≡ Some (answer.Failed kind) → said ≡ reply.Failed kind
failed_told l call said kind h = grind (arith, failed_plain said kind)

-- an answer does not bring the second of the last movement back
later_or_same : (b : Bool) (m n : ℕ) → m ≤ n → (m ≤ (if b then n else m)) × ((if b then n else m) ≤ n)
later_or_same b m n h = grind arith

call_continues : (laws : CoreLaws) {st : State} {w : ℕ} (h : Holding st w) {r : Reply} (m : Made st h.c r) → Continues st (event.Work w (act.Call r)) h.s h.c (after_call m)
call_continues laws {st} h {r} m = record {
  generation = ap (λ (x : Standing). x.generation) (laws.place st.second h.c.pair m.call m.value);
  fails = λ fault failed.
      let tells = (laws.failures st.second h.c.pair m.call m.value fault (record { next = m.next; fit = m.fit })).0 failed in
      inr (rw (failed_told (record { kernel = st.kernel; connection = h.c }) m.call r tells.kind (m.told ∙ ap Some tells.failed), h.there, h.does, h.lies, h.is, m.next)
      (ap (λ (f : Fault). Some (failed_with h.s h.c.pair.generation f)) (sym tells.told)));
  since = later_or_same (moves m.value) h.c.pair.moved st.second;
}

pub was_in : (laws : CoreLaws) {st : State} {e : Event} {q : State} → TableHolds st → Happens st e q → (i : ℕ) (p : SlotState) → slice_get q.slots i ≡ Some p → Was st e i p
was_in laws {st} tables (Opens s g old first lies entry) i p here = one_was i p lies (record {
  old = old;
  there = lies;
  older = (let is = tables s old lies in let same : old.generation ≡ g = cc in omega arith);
  connection = λ c this.
      let is = tables s old lies in
      let same : old.generation ≡ g = cc in
      let both : record {
        pair = fresh s (g + 1) st.limits.ring st.second (lead_at st.limits.lead s (g + 1));
        ends = (open_both st.kernel (token_at s Client (g + 1)) (token_at s Target (g + 1))).told;
      } ≡ c = cc in
      inr (rw (← both) (record { live = refl; moved = refl; older = omega arith }));
}) here
was_in laws tables (Delivers n old first entry lies) i p here = one_was i p lies (keeps_connection lies) here
was_in laws tables (Sweeps s g old entry lies) i p here = one_was i p lies (keeps_connection lies) here
was_in laws tables (Claims w k t old there does lies) i p here = one_was i p lies (keeps_connection lies) here
was_in laws tables (Takes w h) i p here = one_was i p h.lies (goes_on_in h.lies h.is (heard_continues h.c (is_nonempty h.p.notes))) here
was_in laws tables (Calls w h r m) i p here = one_was i p h.lies (goes_on_in h.lies h.is (call_continues laws h m)) here
was_in laws tables (Posts w h) i p here = one_was i p h.lies (keeps_connection h.lies) here
was_in laws tables (Releases w h may) i p here = one_was i p h.lies (keeps_connection h.lies) here
was_in laws tables (Expires w h over) i p here = one_was i p h.lies (goes_on_in h.lies h.is (record {
  generation = refl;
  fails = λ fault failed. inr (let is : reason.Idle ≡ fault = cc in rw (h.there, h.does, h.lies, h.is) (ap (λ (f : Fault). Some (failed_with h.s h.c.pair.generation f)) is));
  since = λ moved. (le_refl _, moved);
})) here
was_in laws tables (Closes w h one two at as_well) i p here = one_was i p h.lies (record { old = h.p; there = h.lies; older = le_refl _; connection = λ c this. absurd (cc) }) here
was_in laws tables (Retires w k s old there does lies) i p here = one_was i p lies (keeps_connection lies) here
was_in laws tables _ i p here = keeps_connection here

-- Closed connections

record ClosedOk (past : History) (st : State) (e : Past) : Type 0 where
  older : (p : SlotState) → slice_get st.slots e.slot ≡ Some p → e.generation ≤ p.generation
  over : (p : SlotState) (c : Connection) → slice_get st.slots e.slot ≡ Some p → p.connection ≡ Some c → e.generation < p.generation
  beginning : (d : Direction) → (rest : List ℕ) × (past e.slot e.generation (source d) ≡ (socket_of e.ends (destination d)).taken ++ rest)
  all : e.verdict ≡ Done → (d : Direction) → past e.slot e.generation (source d) ≡ (socket_of e.ends (destination d)).taken

-- what holds of the ends, and of the closed connections
record Whole (past : History) (st : State) : Type 0 where
  ends : AllOk past st
  closed : (i : ℕ) (e : Past) → slice_get st.past i ≡ Some e → ClosedOk past st e

module _ (laws : CoreLaws) {past : History} {st : State} (all : AllOk past st) where
  -- an event brings nothing to a closed connection
  none_given : {ev : Event} {q : State} (e : Past) (side : Side) → Happens st ev q → ClosedOk past st e → given_by st e.slot e.generation side ev ≡ []
  none_given e side (Changes s other change c r t lies there now) ok = let l = lies_in (slice_get st.slots s) c lies in
      rw (given_if st s other change e.slot e.generation side) (grind (arith, l, ok.over l.place c, none_after (s == e.slot && side_number other == side_number side)))
  none_given e side _ ok = refl

  still_closed : {ev : Event} {q : State} (e : Past) → Happens st ev q → ClosedOk past st e → ClosedOk (after_event past st ev) q e
  still_closed {ev} {q} e h ok =
      let same : (side : Side) → after_event past st ev e.slot e.generation side ≡ past e.slot e.generation side =
      (λ side. rw (none_given e side h ok) (append-nil (past e.slot e.generation side))) in
      let was = was_in laws (λ s p there. (all.each s p there).entry) h e.slot in
      record {
        older = λ p here. let w = was p here in grind (arith, w, ok.older w.old);
        over = λ p c here is. let w = was p here in grind (arith, w.connection c is, w, ok.older w.old, ok.over w.old);
        beginning = λ d. ((ok.beginning d).0, same (source d) ∙ (ok.beginning d).1);
        all = λ done d. same (source d) ∙ ok.all done d;
      }

done_when : (o : Option Fault) (b : Bool) → verdict_of o b ≡ Done → b ≡ true
done_when o b h = grind arith

both_shut : (p : PairState) → verdict p ≡ Done → (d : Direction) → (stream_of p d).shut ≡ true
both_shut p done d = grind (arith, done_when)

wholly_sent : {gave : List ℕ} {s : Stream} {x y : EndState} → DirectionOk gave s x y → s.shut ≡ true → gave ≡ y.taken
wholly_sent {y = y} ok shut = ok.bytes ∙ rw (ok.last.empty shut, ok.read (ok.last.ended shut)) (append-nil y.taken)

just_closed : {past : History} {st : State} {w : ℕ} (h : Holding st w) (all : AllOk past st) (one two : Registered) → end_there st h.c Client ≡ Some one
    → end_at (ends_with st h.c Client None) h.c.ends.target ≡ Some two → ClosedOk (after_event past st (event.Work w act.Close)) (closed_on h one two)
    (record { slot = h.s; generation = h.c.pair.generation; verdict = verdict h.c.pair; ends = record { client = one.socket; target = two.socket } })
just_closed {past} {st} h all one two at as_well =
    let ok = closing_ok h all in
    let are = are_both h all one two at as_well in
    let stands : (p : SlotState) → slice_get (slice_set st.slots h.s (record h.p { connection = None })) h.s ≡ Some p → record h.p { connection = None } ≡ p =
    (λ p here. cc (get-set_same st.slots h.s h.p (record h.p { connection = None }) h.lies)) in
    rw (ok.generation, are.0, are.1) (record {
      older = λ p here. (let is = ap (λ (r : SlotState). r.generation) (stands p here) in omega arith);
      over = λ p b here there. (let is = ap (λ (r : SlotState). r.connection) (stands p here) in absurd (cc));
      beginning = λ d. (waiting (stream_of h.c.pair d) ++ (socket_of ok.ends (source d)).unread, append-nil (past h.s h.p.generation (source d)) ∙ (ok.pair.directions d).bytes);
      all = λ done d. append-nil (past h.s h.p.generation (source d)) ∙ wholly_sent (ok.pair.directions d) (both_shut h.c.pair done d);
    })

whole_on : (laws : CoreLaws) {past : History} {st : State} {ev : Event} {q : State} → Whole past st → Happens st ev q → (i : ℕ) (e : Past) → slice_get q.past i ≡ Some e
    → ClosedOk (after_event past st ev) q e
whole_on laws {past} {st} all (Closes w h one two at as_well) i e here =
    elim (last_of st.past i (record { slot = h.s; generation = h.c.pair.generation; verdict = verdict h.c.pair; ends = record { client = one.socket; target = two.socket } }) e here) [
      | inl before ↦ still_closed laws all.ends e (Closes w h one two at as_well) (all.closed i e before)
      | inr is ↦ rw (← is) (just_closed h all.ends one two at as_well)
    ]
whole_on laws all h i e here = still_closed laws all.ends e h (all.closed i e here)

-- Lists of events

-- the history with what a list of events brings
abbrev after_run : History → State → List Event → History
after_run past st events = λ s g side. past s g side ++ given st events s g side

all_renamed : {past next : History} {st : State} → ((s g : ℕ) (side : Side) → next s g side ≡ past s g side) → Whole past st → Whole next st
all_renamed same all = record {
  ends = renamed same all.ends;
  closed = λ i e here. (let ok = all.closed i e here in record {
    older = ok.older;
    over = ok.over;
    beginning = λ d. ((ok.beginning d).0, same e.slot e.generation (source d) ∙ (ok.beginning d).1);
    all = λ done d. same e.slot e.generation (source d) ∙ ok.all done d;
  });
}

module _ (laws : CoreLaws) where
  further : {past : History} {st q : State} {e : Event} (events : List Event) (o : Option State) → Kept (Happens st e) o
      → ((m : State) → Whole (after_event past st e) m → run m events ≡ Some q → Whole (after_run (after_event past st e) m events) q)
      → Whole past st → option_and_then (λ (m : State). run m events) o ≡ Some q
      → Whole (λ s g side. past s g side ++ (given_by st s g side e ++ unwrap_or (option_map (λ (m : State). given m events s g side) o) [])) q
  further events None h rest all ran = absurd (cc)
  further {past} {st} {q} {e} events (Some m) h rest all ran = all_renamed
      (λ s g side. sym (append_assoc (past s g side) (given_by st s g side e) (given m events s g side)))
      (rest m (record { ends = ends_on laws all.ends h.kept; closed = whole_on laws all h.kept }) ran)

  run_keeps : {past : History} (st q : State) (events : List Event) → Whole past st → run st events ≡ Some q → Whole (after_run past st events) q
  run_keeps {past} st q [] all ran = let same : st ≡ q = cc in rw (← same) (all_renamed (λ s g side. append-nil (past s g side)) all)
  run_keeps {past} st q (e ∷ events) all ran =
      further events (step st e) (happens st e) (λ m whole rest. run_keeps {past = after_event past st e} m q events whole rest) all ran

-- From the opening world on, where each connection is to send its preamble, and nothing came yet

abbrev history : Limits → List Event → History
history l events = after_run (before l) (opening l) events

opening_ok : (l : Limits) → Whole (before l) (opening l)
opening_ok l = record {
  ends = record {
    each = λ s p here. rw (← get-replicate l.slots s (unused l.generation) p here) (record {
      entry = get_beside l.slots s (unused l.generation) p l.generation here;
      later = λ g side younger. refl;
      connection = λ c is. absurd (cc);
    });
  };
  closed = λ i e here. absurd (cc);
}

preamble_is : (l : Limits) (s g : ℕ) (d : Direction) → before l s g (source d) ≡ preamble l s g d
preamble_is l s g d = grind arith

direction_holds : (first gave : List ℕ) {s : Stream} {x y : EndState} → DirectionOk (first ++ gave) s x y → DirectionHolds first gave s x y
direction_holds first gave {s} {x} {y} ok = record {
  bytes = ok.bytes ∙ ap (λ (all : List ℕ). y.taken ++ all) (append_assoc s.lead s.ring x.unread);
  last = λ shut. record {
    ended = ok.ended (ok.last.ended shut);
    read = ok.read (ok.last.ended shut);
    gone = (waiting_ends s (ok.last.empty shut)).0;
    empty = (waiting_ends s (ok.last.empty shut)).1;
    sent = wholly_sent ok shut;
  };
}

module _ (laws : CoreLaws) (l : Limits) (events : List Event) (st : State) (ran : run (opening l) events ≡ Some st) where
  reached : Whole (history l events) st
  reached = run_keeps laws (opening l) st events (opening_ok l) ran

  pub bytes_hold : BytesAndEndsHold (opening l) st events
  bytes_hold s c at_s =
      let here = lies_in (slice_get st.slots s) c at_s in
      let ok = (reached.ends.each s here.place here.there).connection c here.connection in record {
        open_ends = λ side. rw (ok.there side) refl;
        directions = λ d x y at_x at_y. rw (ok.generation, its_end ok (source d) x at_x, its_end ok (destination d) y at_y, ← preamble_is l s here.place.generation d)
            (direction_holds (before l s here.place.generation (source d)) (given (opening l) events s here.place.generation (source d)) (ok.pair.directions d));
      }

  pub edges_hold : EdgesHold st
  edges_hold s p c side x here lying at_x =
      let ok = (reached.ends.each s p here).connection c lying in rw (ok.generation, its_end ok side x at_x) (ok.pair.covered side)

  pub closed_hold : ClosedHold (opening l) st events
  closed_hold i p here =
      let ok = reached.closed i p here in
      let is = preamble_is l p.slot p.generation in
      record { beginning = λ d. rw (← is d) (ok.beginning d); all = λ done d. rw (← is d) (ok.all done d) }
