-- What every step keeps of the ends of a queue, and so what holds after any list of steps.
use Rattle.std.{proofs.{Common.{◌≡◌, ◌≢◌, ◌⊎◌, ◌<◌, ◌≤◌, ◌+◌, ◌&&◌, ◌||◌, ℕ, zero, suc, Bool, true, false, true≢false, not, List, [], ◌∷◌, length, get_or, set, replicate, refl, sym, ap, ◌∙◌, inl, inr, arith}, lemmas.{Bool.{cases_lt, or_right, lt-ltb, le-leb, leb-true}, Bool.Decides.eqb_tells, List.{get_or-set_same, get_or-set_other, get_or_past, get_or-replicate, length-replicate, length-set}, List.Sums.{sum_by-set, sum_by-cons}}}, specs.{Prelude.{nat_le, sum_by}, Cmp.{first_so, second_so}}}
use Rattle.queues.specs.Sleep.{Act, Rest, Push, Wake, Unpark, ReadMark, Look, SetBit, LookAgain, Park, Withdraw, SetMark, Standing, ComesBack, End, Queue, Step, Begins, Pushes, FindsNone, Clears, Unparks, Ends, ReadsMark, Looks, SetsBit, LooksAgain, Rises, Withdraws, SetsMark, Rests, Takes, StepsLead, resting, start, queue_end, with_queue_end, goes_on, is_drowsy, is_announced, is_first, pushed, withdrawn, after_look, looked, with_permit, unparked, without_bit, IsAsleep, unparks, WillBeUnparked, owes, has_wake, was_woken, one, duties, IsOnItsWay, ToLook, ToWake, WasWoken, ToUnpark, NobodySleeps}

one_le : (b : Bool) → one b ≤ 1
one_le true = omega arith
one_le false = omega arith

-- it has found the queue open, and has not slept since
abbrev is_open : Act → Bool
is_open (Look false) = true
is_open SetBit = true
is_open act = is_drowsy act

-- it has looked in vain, and has not begun anew
abbrev has_looked : Act → Bool
has_looked SetBit = true
has_looked act = is_announced act

-- it may sleep although its bit is clear, or the queue closed
abbrev must_hear : Bool → Act → Bool → Bool
must_hear closed act bit = is_open act && ((is_drowsy act && not bit) || closed)

record Sound (e : End) : Type 0 where
  bit : e.bit ≡ true → is_announced e.next ≡ true
  looked : has_looked e.next ≡ true → owes e.standing ≡ false

-- the end has a permit, or is about to get one
abbrev Hears : Queue → ℕ → Type 0
Hears q k = ((queue_end q k).permit ≡ true) ⊎ WillBeUnparked q k

-- `extra` duties are in nobody's hands
record Kept (extra : ℕ) (q : Queue) : Type 0 where
  sound : (k : ℕ) → Sound (queue_end q k)
  hears : (k : ℕ) → must_hear q.closed (queue_end q k).next (queue_end q k).bit ≡ true → Hears q k
  counted : (k : ℕ) → (queue_end q k).next ≡ Park → (queue_end q k).bit ≡ true → q.items ≤ sum_by duties q.ends + extra

within : (q : Queue) (i : ℕ) → (queue_end q i).next ≢ Rest → i < length q.ends
within q i busy = elim (cases_lt i (length q.ends)) [
  | inl below ↦ below
  | inr past ↦ absurd (busy (ap (λ (e : End). e.next) (get_or_past q.ends i resting past)))
]

unparks_rest : (k from below : ℕ) → k ≢ from → unparks k (Unpark from below) ≡ true → unparks k (Unpark (suc from) below) ≡ true
unparks_rest k from below other h =
    let least = leb-true from k (first_so (nat_le from k) _ h) in
    rw (le-leb (suc from) k (omega arith)) (second_so (nat_le from k) _ h)

unparks_none : (from k : ℕ) → unparks k (Unpark from from) ≡ false
unparks_none from k = elim (cases_lt k from) [ inl below ↦ grind arith | inr past ↦ grind arith ]

-- an end i
module _ {extra : ℕ} (q : Queue) (kept : Kept extra q) (i : ℕ) (inside : i < length q.ends) where
  abbrev was : End
  was = queue_end q i

  unset : {act : Act} → was.next ≡ act → is_announced act ≡ false → was.bit ≡ true → ⊥
  unset is none h = let some = rw is at ((kept.sound i).bit h) in absurd (true≢false (sym some ∙ none))

  settled : {act : Act} → was.next ≡ act → has_looked act ≡ true → owes was.standing ≡ false
  settled is h = (kept.sound i).looked (rw is h)

  -- it becomes e; this many items wait, and this many duties are in nobody's hands
  module _ (more : ℕ) (e : End) (items : ℕ) where
    abbrev now : Queue
    now = record q { items = items; ends = set q.ends i e }

    here : queue_end now i ≡ e
    here = get_or-set_same q.ends i e resting inside

    there : (k : ℕ) → k ≢ i → queue_end now k ≡ queue_end q k
    there k other = get_or-set_other q.ends i k e resting other

    at_each : (P : End → Type 0) (k : ℕ) → (k ≡ i → P e) → (k ≢ i → P (queue_end q k)) → P (queue_end now k)
    at_each P k own others = elim (eqb_tells k i) [ inl y ↦ rw (y.1, here) (own y.1) | inr n ↦ rw (there k n.1) (others n.1) ]

    -- each that is about to be unparked still is, or has its permit
    abbrev Still : Type 0
    Still = (k : ℕ) → unparks k was.next ≡ true → Hears now k

    hears : Still → (k : ℕ) → ((queue_end q k).permit ≡ true → (queue_end now k).permit ≡ true) → Hears q k → Hears now k
    hears still k keeps (inl permit) = inl (keeps permit)
    hears still k keeps (inr (t, is)) = elim (eqb_tells t i) [ inl y ↦ still k (rw y.1 at is) | inr n ↦ inr (t, rw (there t n.1) is) ]

    abbrev Counts : End → Type 0
    Counts x = x.next ≡ Park → x.bit ≡ true → items ≤ sum_by duties now.ends + more

    changes : Sound e → Still → (must_hear q.closed e.next e.bit ≡ true → Hears now i) → ((k : ℕ) → Counts (queue_end q k)) → Counts e → Kept more now
    changes sound still own counts own_counts = record {
      sound = λ k. at_each Sound k (λ same. sound) (λ other. kept.sound k);
      hears = λ k. at_each (λ x. must_hear q.closed x.next x.bit ≡ true → Hears now k) k (λ same must. rw same (own must))
          (λ other must. hears still k (λ permit. rw (there k other) permit) (kept.hears k must));
      counted = λ k. at_each Counts k (λ same. own_counts) (λ other. counts k);
    }

    -- duties and items change alike
    alike : items + (duties was + extra) ≤ q.items + (duties e + more) → (k : ℕ) → Counts (queue_end q k)
    alike h k parked b = let n = kept.counted k parked b in let sums = sum_by-set duties q.ends i e resting inside in omega arith

  -- the same, after an act that unparks nobody
  module _ (more : ℕ) (e : End) (items : ℕ) {act : Act} (is : was.next ≡ act) (quiet : (k : ℕ) → unparks k act ≡ false) where
    still : Still more e items
    still k h = let no = sym (quiet k) ∙ rw is at h in cc

    -- the end must hear only if it had to before
    own : was.permit ≡ e.permit → must_hear q.closed act was.bit ≡ true → Hears (now more e items) i
    own same must =
        let h : must_hear q.closed was.next was.bit ≡ true = rw is must in
        hears more e items still i (λ permit. rw (here more e items) (sym same ∙ permit)) (kept.hears i h)

    -- and then the end is not on its way to sleep
    awake : Sound e → is_open e.next ≡ false → ((k : ℕ) → Counts more e items (queue_end q k)) → Kept more (now more e items)
    awake sound shut counts = changes more e items sound still (λ must. absurd (true≢false (sym (first_so (is_open e.next) _ must) ∙ shut)))
        counts (λ parks b. let o : is_open Park ≡ false = rw parks at shut in cc)

    acts : Sound e → is_open e.next ≡ false → items + (duties was + extra) ≤ q.items + (duties e + more) → Kept more (now more e items)
    acts sound shut h = awake sound shut (alike more e items h)

  -- the bit was clear before the act, and is then
  as_clear : {act : Act} (e : End) → was.next ≡ act → is_announced act ≡ false → was.bit ≡ e.bit → has_looked e.next ≡ false → Sound e
  as_clear e is none same fresh = record { bit = λ b. absurd (unset is none (same ∙ b)); looked = λ h. absurd (true≢false (sym h ∙ fresh)) }

  pushes : (s : Standing) → was.next ≡ Push → was.standing ≡ s → Kept extra (with_queue_end (record q { items = suc q.items }) i (pushed was s))
  pushes ComesBack is stands = acts extra _ _ is (λ k. refl) (as_clear _ is refl refl refl) refl (rw (is, stands) (omega arith))
  pushes s is stands = acts extra _ _ is (λ k. refl) (as_clear _ is refl refl refl) refl (rw (is, stands) (omega arith))

  reads_mark : was.next ≡ ReadMark → (c : Bool) → q.closed ≡ c → Kept extra (goes_on q i (Look c))
  reads_mark is true mark = acts extra _ q.items is (λ k. refl) (as_clear _ is refl refl refl) refl (rw is (omega arith))
  reads_mark is false mark = changes extra _ q.items (as_clear _ is refl refl refl) (still extra _ q.items is (λ k. refl))
      (λ shut. absurd (true≢false (sym shut ∙ mark))) (alike extra _ q.items (rw is (omega arith))) (λ h. cc)

  looks : (c : Bool) (n : ℕ) → was.next ≡ Look c → q.items ≡ n → Kept extra (looked q i Rest (after_look c) n)
  looks true zero is none = awake extra _ q.items is (λ k. refl) (record { bit = λ b. absurd (unset is refl b); looked = λ h. refl }) refl (λ k parked b. rw none (omega arith))
  looks false zero is none = changes extra _ q.items (record { bit = λ b. absurd (unset is refl b); looked = λ h. refl }) (still extra _ q.items is (λ k. refl))
      (own extra _ q.items is (λ k. refl) refl) (λ k parked b. rw none (omega arith)) (λ h. cc)
  looks c (suc n) is some = acts extra _ n is (λ k. refl) (as_clear _ is refl refl refl) refl (let owed = one_le (owes was.standing) in rw (is, some) (omega arith))

  sets_bit : was.next ≡ SetBit → Kept extra (with_queue_end q i (record was { next = LookAgain; bit = true }))
  sets_bit is = changes extra _ q.items (record { bit = λ b. refl; looked = λ h. settled is refl }) (still extra _ q.items is (λ k. refl))
      (own extra _ q.items is (λ k. refl) refl) (alike extra _ q.items (rw is (omega arith))) (λ h. cc)

  looks_again : (n : ℕ) → was.next ≡ LookAgain → q.items ≡ n → Kept extra (looked q i (Withdraw true) Park n)
  looks_again zero is none = changes extra _ q.items (record { bit = λ b. refl; looked = λ h. refl }) (still extra _ q.items is (λ k. refl))
      (own extra _ q.items is (λ k. refl) refl) (λ k parked b. rw none (omega arith)) (λ h b. rw none (omega arith))
  looks_again (suc n) is some = acts extra _ n is (λ k. refl) (record { bit = λ b. refl; looked = λ h. refl }) refl (let owed = one_le (owes was.standing) in rw (is, some) (omega arith))

  -- an end that had announced itself, and is awake, has to withdraw
  rises : {act : Act} (permit : Bool) → was.next ≡ act → is_drowsy act ≡ true → Kept extra (with_queue_end q i (record was { next = Withdraw false; permit = permit }))
  rises {act = LookAgain} permit is drowsy = acts extra _ q.items is (λ k. refl) (record { bit = λ b. refl; looked = λ h. settled is refl }) refl (rw is (omega arith))
  rises {act = Park} permit is drowsy = acts extra _ q.items is (λ k. refl) (record { bit = λ b. refl; looked = λ h. settled is refl }) refl (rw is (omega arith))
  rises permit is drowsy = cc

  withdraws : (found b : Bool) → was.next ≡ Withdraw found → was.bit ≡ b → Kept extra (with_queue_end q i (withdrawn was found b))
  withdraws false false is bit = acts extra _ q.items is (λ k. refl) (record { bit = λ b. cc; looked = λ h. cc }) refl (rw (is, bit, settled is refl) (omega arith))
  withdraws false true is bit = acts extra _ q.items is (λ k. refl) (record { bit = λ b. cc; looked = λ h. cc }) refl (rw (is, bit) (omega arith))
  withdraws true false is bit = acts extra _ q.items is (λ k. refl) (record { bit = λ b. cc; looked = λ h. cc }) refl (rw (is, bit) (omega arith))
  withdraws true true is bit = acts extra _ q.items is (λ k. refl) (record { bit = λ b. cc; looked = λ h. cc }) refl (rw (is, bit) (omega arith))

  begins : (first : Act) → is_first first ≡ true → was.next ≡ Rest → Kept extra (goes_on q i first)
  begins Push ok is = acts extra _ q.items is (λ k. refl) (as_clear _ is refl refl refl) refl (rw is (omega arith))
  begins ReadMark ok is = acts extra _ q.items is (λ k. refl) (as_clear _ is refl refl refl) refl (rw is (omega arith))
  begins SetMark ok is = acts extra _ q.items is (λ k. refl) (as_clear _ is refl refl refl) refl (rw is (omega arith))
  begins act ok is = cc

  -- it gets a permit
  gets : Kept extra (with_permit q i)
  gets =
      let its = here extra (record was { permit = true }) q.items in
      changes extra _ q.items (record { bit = (kept.sound i).bit; looked = (kept.sound i).looked }) (λ k h. inr (i, rw its h)) (λ h. inl (rw its refl))
      (alike extra _ q.items (omega arith)) (alike extra _ q.items (omega arith) i)

  -- it has given this end its permit, and goes on
  unparks_on : (k below : ℕ) → was.next ≡ Unpark k below → (queue_end q k).permit ≡ true → Kept extra (goes_on q i (Unpark (suc k) below))
  unparks_on k below is given =
      let e : End = record was { next = Unpark (suc k) below } in
      let given : (queue_end (now extra e q.items) k).permit ≡ true = at_each extra e q.items (λ x. x.permit ≡ true) k (λ same. rw same at given) (λ other. given) in
      changes extra e q.items (as_clear e is refl refl refl) (λ j h. elim (eqb_tells j k) [
        | inl y ↦ inl (rw y.1 given)
        | inr n ↦ inr (i, rw (here extra e q.items) (unparks_rest j k below n.1 (rw is at h)))
      ]) (λ h. cc) (alike extra e q.items (rw is (omega arith))) (λ h. cc)

-- all are unparked once the mark is set
closes : (q : Queue) (i n : ℕ) → Kept 0 q → (queue_end q i).next ≡ Unpark 0 n → length q.ends ≤ n → Kept 0 (record q { closed = true })
closes q i n kept is all = record {
  sound = kept.sound;
  hears = λ k must. (
      let few = within q k (λ rest. let no : is_open Rest ≡ true = rw rest at (first_so (is_open (queue_end q k).next) _ must) in cc) in
      inr (i, rw (is, le-leb 0 k (omega arith), lt-ltb k n (omega arith)) refl));
  counted = kept.counted;
}

unparks_one : (q : Queue) (i k below : ℕ) → Kept 0 q → (queue_end q i).next ≡ Unpark k below → i < length q.ends → k < length q.ends → Kept 0 (unparked q i k below)
unparks_one q i k below kept is inside few =
    let permit = gets q kept k few in
    unparks_on (with_permit q k) permit i (rw (length-set q.ends k _) inside) k below
    (at_each q kept k few 0 _ q.items (λ x. x.next ≡ Unpark k below) i (λ same. rw same at is) (λ other. is)) (rw (get_or-set_same q.ends k _ resting few) refl)

-- the end i has a wake in hand, and clears the bit of the end k. In between the wake is in nobody's hand
clears : (q : Queue) (i k : ℕ) → Kept 0 q → (queue_end q i).next ≡ Wake → i < length q.ends → (queue_end q k).bit ≡ true → Kept 0 (without_bit (goes_on q i (Unpark k (suc k))) k)
clears q i k kept is busy bit =
    let gone = goes_on q i (Unpark k (suc k)) in
    let first : Kept 1 gone = acts q kept i busy 1 _ q.items is (λ k. refl) (as_clear q kept i busy _ is refl refl refl) refl (rw is (omega arith)) in
    let apart : k ≢ i = λ same. unset q kept i busy is refl (rw same at bit) in
    let same : queue_end gone k ≡ queue_end q k = get_or-set_other q.ends i k _ resting apart in
    let e : End = record (queue_end gone k) { bit = false } in
    let announced : is_announced (queue_end q k).next ≡ true = (kept.sound k).bit bit in
    let inside : k < length gone.ends = within gone k (λ rest. let none : is_announced Rest ≡ true = rw (sym (ap (λ (x : End). x.next) same) ∙ rest) at announced in cc) in
    let its = here gone first k inside 0 e q.items in
    let waker : WillBeUnparked (now gone first k inside 0 e q.items) k
    = (
      i,
      rw (
        there gone first k inside 0 e q.items i (λ other. apart (sym other)),
        get_or-set_same q.ends i _ resting busy,
        le-leb k k (omega arith),
        lt-ltb k (suc k) (omega arith),
      ) refl,
    ) in
    changes gone first k inside 0 e q.items (record { bit = λ b. cc; looked = rw same (kept.sound k).looked }) (λ j h. inr (k, rw its h)) (λ h. inr waker)
    (alike gone first k inside 0 e q.items (rw (same, bit, announced) (omega arith))) (λ parked b. cc)

stepped : (q r : Queue) (i : ℕ) → Kept 0 q → i < length q.ends → Step q i r → Kept 0 r
stepped q r i kept inside (Begins first ok is made) = rw made (begins q kept i inside first ok is)
stepped q r i kept inside (Pushes is made) = rw made (pushes q kept i inside _ is refl)
stepped q r i kept inside (FindsNone is clear made) = rw made (awake q kept i inside 0 _ q.items is (λ k. refl)
    (as_clear q kept i inside _ is refl refl refl) refl (λ k parked b. absurd (true≢false (sym b ∙ clear k))))
stepped q r i kept inside (Clears k is bit made) = rw made (clears q i k kept is inside bit)
stepped q r i kept inside (Unparks k below few is made) = rw made (unparks_one q i k below kept is inside few.1)
stepped q r i kept inside (Ends k is made) = rw made (acts q kept i inside 0 _ q.items is (unparks_none k) (as_clear q kept i inside _ is refl refl refl) refl (rw is (omega arith)))
stepped q r i kept inside (ReadsMark is made) = rw made (reads_mark q kept i inside is _ refl)
stepped q r i kept inside (Looks closed is made) = rw made (looks q kept i inside closed _ is refl)
stepped q r i kept inside (SetsBit is made) = rw made (sets_bit q kept i inside is)
stepped q r i kept inside (LooksAgain is made) = rw made (looks_again q kept i inside _ is refl)
stepped q r i kept inside (Rises act permit drowsy is made) = rw made (rises q kept i inside permit is drowsy)
stepped q r i kept inside (Withdraws found is made) = rw made (withdraws q kept i inside found _ is refl)
stepped q r i kept inside (SetsMark is made) =
    let first = acts q kept i inside 0 _ q.items is (λ k. refl) (as_clear q kept i inside (record (queue_end q i) { next = Unpark 0 (length q.ends) }) is refl refl refl) refl (rw is (omega arith)) in
    let long = length-set q.ends i (record (queue_end q i) { next = Unpark 0 (length q.ends) }) in
    rw made (closes _ i (length q.ends) first (rw (get_or-set_same q.ends i _ resting inside) refl) (omega arith))
stepped q r i kept inside (Rests is made) = rw made (acts q kept i inside 0 _ q.items is (λ k. refl) (as_clear q kept i inside _ is refl refl (rw is refl)) (rw is refl) (omega arith))
stepped q r i kept inside (Takes items some made) = rw made (record { sound = kept.sound; hears = kept.hears; counted = λ k parked b. let m = kept.counted k parked b in omega arith })

ran : (steps : List (ℕ × Queue)) (q r : Queue) → Kept 0 q → StepsLead q steps r → Kept 0 r
ran [] q r kept h = rw h kept
ran ((i, p) ∷ steps) q r kept (inside, made, rest) = ran steps p r (stepped q p i kept inside made) rest

start_each : (n k : ℕ) → queue_end (start n) k ≡ resting
start_each n k = elim (cases_lt k n) [
  | inl below ↦ get_or-replicate n k resting resting below
  | inr past ↦ get_or_past (replicate n resting) k resting (rw (length-replicate n resting) past)
]

starts : (n : ℕ) → Kept 0 (start n)
starts n = record {
  sound = λ k. rw (start_each n k) (record { bit = λ h. cc; looked = λ h. cc });
  hears = λ k. rw (start_each n k) (λ h. cc);
  counted = λ k parked set. omega arith;
}

-- if there are duties, some end has one
some_duty : (ends : List End) → 0 < sum_by duties ends → (i : ℕ) × (0 < duties (get_or ends i resting))
some_duty [] h = absurd (omega arith)
some_duty (e ∷ ends) h =
    let all = sum_by-cons duties e ends in
    elim (cases_lt 0 (duties e)) [ inl some ↦ (0, some) | inr none ↦ let rest = some_duty ends (omega arith) in (suc rest.0, rest.1) ]

on_its_way : (e : End) (o w s : Bool) → owes e.standing ≡ o → has_wake e.next ≡ w → was_woken e.bit e.next ≡ s → 0 < duties e → IsOnItsWay e
on_its_way e true w s owed wake woken some = ToLook owed
on_its_way e false true s owed wake woken some = ToWake wake
on_its_way e false false true owed wake woken some = WasWoken woken
on_its_way e false false false owed wake woken some = let none = rw (owed, wake, woken) at some in absurd (omega arith)

module _ (q : Queue) (kept : Kept 0 q) where
  abbrev SomeIsAwake : Type 0
  SomeIsAwake = (i : ℕ) × (¬ (IsAsleep (queue_end q i))) × IsOnItsWay (queue_end q i)

  free : (k : ℕ) → IsAsleep (queue_end q k) → (queue_end q k).bit ≡ true → duties (queue_end q k) ≡ 0
  free k asleep b = rw (asleep.0, b, (kept.sound k).looked (rw asleep.0 refl)) (omega arith)

  woken_or_shut : (k : ℕ) → IsAsleep (queue_end q k) → ((queue_end q k).bit ≡ false) ⊎ (q.closed ≡ true) → WillBeUnparked q k
  woken_or_shut k asleep why = elim (kept.hears k (elim why [ inl clear ↦ rw (asleep.0, clear) refl | inr shut ↦ rw (asleep.0, shut) (or_right _ _ refl) ])) [
    | inl permit ↦ absurd (true≢false (sym permit ∙ asleep.1))
    | inr will ↦ will
  ]

  will_unpark : (k : ℕ) → IsAsleep (queue_end q k) → (queue_end q k).bit ≡ false → SomeIsAwake
  will_unpark k asleep clear =
      let (i, will) = woken_or_shut k asleep (inl clear) in
      (i, λ sleeps. let no : unparks k Park ≡ true = rw sleeps.0 at will in cc, ToUnpark k will)

  by_duty : (i : ℕ) (act : Act) (permit bit : Bool) → (queue_end q i).next ≡ act → (queue_end q i).permit ≡ permit → (queue_end q i).bit ≡ bit → 0 < duties (queue_end q i) → SomeIsAwake
  by_duty i Park false false is has clear some = will_unpark i (is, has) clear
  by_duty i Park false true is has set some = let none = free i (is, has) set in absurd (omega arith)
  by_duty i Park true bit is has b some = (i, λ asleep. absurd (true≢false (sym has ∙ asleep.1)), on_its_way _ _ _ _ refl refl refl some)
  by_duty i act permit bit is has b some = (i, λ asleep. let no = sym is ∙ asleep.0 in cc, on_its_way _ _ _ _ refl refl refl some)

  some_awake : (k : ℕ) → IsAsleep (queue_end q k) → 0 < q.items → (b : Bool) → (queue_end q k).bit ≡ b → SomeIsAwake
  some_awake k asleep waits false clear = will_unpark k asleep clear
  some_awake k asleep waits true b =
      let n = kept.counted k asleep.0 b in
      let d = some_duty q.ends (omega arith) in by_duty d.0 _ _ _ refl refl refl d.1

pub nobody_sleeps : NobodySleeps
nobody_sleeps ends steps q h =
    let kept = ran steps (start ends) q (starts ends) h in
    record {
      free = free q kept;
      each = λ k asleep b. let n = kept.counted k asleep.0 b in omega arith;
      woken = woken_or_shut q kept;
      some = λ k asleep waits. some_awake q kept k asleep waits _ refl;
    }
