-- The history of one slot: one exchange more, and what it counts. Its imports are passed on to those that use it.
pub use Rattle.std.{proofs.{Common.{Bool, List, [], ap, append_assoc, arith, bit_and, bit_or, false, get_or, get_or-set_other, get_or-set_same, if◌then◌else◌, length, length-set, map, refl, replicate, set, subst, suc, sym, true, zero, ℕ, ◌%◌, ◌*◌, ◌++◌, ◌+◌, ◌-◌, ◌<◌, ◌^◌, ◌∙◌, ◌∷◌, ◌≡◌, ◌≢◌, ◌≤◌}, Math.{ListN.get_or-map, Seq.map-set_same}, lemmas.{Bool.{eq-eqb, ne_eqb}, List.{append-nil, ext_get_or, get_or-replicate, get_or_default, get_or_past, length-append, length-map, length-replicate, map-append, map-set, replicate_more, Elements.{All-push, All-replicate, All-set}, Folds.sum_by-replicate, Sums.{get_or-le-sum_by, sum_by-cons, sum_by-le, sum_by-set, sum_by_push}}, Grind.get_or-set_at, Nat.{and_block, and_mask, or_block}}}, specs.{Int.Bits.or_zero_r, List.{All, sum_by}}}
pub use Rattle.atomic_table.{proofs.Lists.{at_index, at_map, set_again, set_here}, specs.Table.{Allows, Me, Splits, keeps}}
pub use Rattle.claims.specs.{Calls.{PostChange, ReleaseChange}, Laws.{Counts, HistoriesCount, Knows, OneHolderEach, OpensLawful, tickets_due}, Rule.{ClaimRule, History, Keeps, KeepsRule, Leads, NeedsHolder, SlotRule, by_seat, unused_word}, Seats.{Adds, Holds, HoldsNot, HoldsNothing, OnlyAt, SeatOk, SeatState, TableId, account_at, fresh_seat, seat_state, view_of}, Views.{account_of, accounts_of, account_with, after_all, blank, column, minted_by, trace_in, traces_at, unused_view}, Words.{StepKind, WordState, adopt, claim, step_kind, made, one, post, release, retire, some_wait, take, wakes, word_after, word_of}, declared.{answers.{Posted.{Posted, TheVariants.{Quiet, Wake, Worn}}, Released.{Released, TheVariants.{Quiet as ReleaseQuiet, Wake as ReleaseWakes}}}, view.{Account.Account, Exchange.{Exchange, TheVariants.{Adopted, Busy, Held, NotFree, Post, Release, Take}}, View.View}}}
pub use lib.{LanesLaws.{map-replicate}, ListN.{get_elem?}}
pub use mathlib.Core.Logic.{dite}
pub use mathlib.Core.Option.{some}
pub use native.Mathlib.Decide.{dec_lt, ℕ_discrete}
pub use Rattle.claims.specs.declared.view.Exchange.TheVariants as exchange

-- The fields of accounts and views as functions, for sums along lists of them

abbrev pub posted_of : Account → ℕ
posted_of a = a.posted

abbrev pub taken_of : Account → ℕ
taken_of a = a.taken

abbrev pub holding_of : Account → ℕ
holding_of a = one a.holds

-- Lists, and sums along one where one entry is replaced

module _ {A : Type 0} where
  pub inside : (l : List A) (k : ℕ) (v : A) → get_elem? l k ≡ some v → k < length l
  inside [] k v at = cc
  inside (x ∷ xs) zero v at = omega arith
  inside (x ∷ xs) (suc k) v at = let h = inside xs k v at in omega arith

  pub found : (l : List A) (k : ℕ) (v d : A) → get_elem? l k ≡ some v → get_or l k d ≡ v
  found [] k v d at = cc
  found (x ∷ xs) zero v d at = cc
  found (x ∷ xs) (suc k) v d at = found xs k v d at

  pub at_inside : (l : List A) (i : ℕ) (d : A) → i < length l → get_elem? l i ≡ some (get_or l i d)
  at_inside l i d lt = at_index l i (get_or l i d) lt (get_or_default l i d (get_or l i d) lt)

  pub same_at : (n i : ℕ) (a : A) → get_or (replicate n a) i a ≡ a
  same_at zero i a = refl
  same_at (suc n) zero a = refl
  same_at (suc n) (suc i) a = same_at n i a

  pub sum_by-put : (f : A → ℕ) (l : List A) (k : ℕ) (v w : A) → get_elem? l k ≡ some v → sum_by f (set l k w) + f v ≡ sum_by f l + f w
  sum_by-put f l k v w at = rw (found l k v v at) at (sum_by-set f l k w v (inside l k v at))

  pub term-le : (f : A → ℕ) (l : List A) (k : ℕ) (v : A) → get_elem? l k ≡ some v → f v ≤ sum_by f l
  term-le f l k v at = rw (found l k v v at) at (get_or-le-sum_by f l k v (inside l k v at))

  -- what holds of each entry holds of this one
  pub each_at : (P : A → Type 0) (l : List A) (k : ℕ) {v : A} → get_elem? l k ≡ some v → All P l → P v
  each_at P l k {v} at all = rw (found l k v v at) at (all k v (inside l k v at))

  -- and of each place, if it holds of the default
  all_or : (P : A → Type 0) (l : List A) (d : A) → All P l → P d → (i : ℕ) → P (get_or l i d)
  all_or P l d all none i = dite (dec_lt i (length l)) (all i d) (λ past. rw (get_or_past l i d (omega arith)) none)

  -- the entry of another seat
  all_put : (P : A → Type 0) (l : List A) (k : ℕ) (w : A) → P w → ((j : ℕ) (d : A) → j ≢ k → j < length l → P (get_or l j d)) → All P (set l k w)
  all_put P l k w here others j d lt =
      let inside_l : j < length l = rw length-set at lt in
      dite (ℕ_discrete j k)
      (λ same. rw (get_or-set_at l k j w d same (rw same at inside_l)) here)
      (λ other. rw (get_or-set_other l k j w d other) (others j d other inside_l))

pub sum_by-map : {A B : Type 0} (f : B → ℕ) (g : A → B) (l : List A) → sum_by f (map g l) ≡ sum_by (λ a. f (g a)) l
sum_by-map f g [] = refl
sum_by-map f g (x ∷ xs) = sum_by-cons f (g x) (map g xs) ∙ ap (λ n. f (g x) + n) (sum_by-map f g xs) ∙ sym (sum_by-cons (λ a. f (g a)) x xs)

-- One step keeps the counts of its slot

pub one_le : (b : Bool) → one b ≤ 1
one_le true = omega arith
one_le false = omega arith

pub false_from_zero : (b : Bool) → one b ≡ 0 → b ≡ false
false_from_zero true e = absurd (omega arith)
false_from_zero false e = refl

abbrev word_state : ℕ → Bool → Bool → WordState
word_state p f h = record { pending = p; free = f; held = h }

-- a post is due one ticket more exactly where it wakes
due-post : (p : ℕ) (f h : Bool) → one (wakes (word_state p f h)) + tickets_due (word_state p f h) ≡ tickets_due (word_state (suc p) f h)
due-post p f true = refl
due-post zero f false = refl
due-post (suc p) f false = refl

module _ (accounts : List Account) (k : ℕ) (v : Account) (at : get_elem? accounts k ≡ some v) where
  -- a slot that the seat k holds is marked as held, and not as free
  marked_held : (s : WordState) → Counts s accounts → one v.holds + one s.free ≤ one s.held
  marked_held s counts = let mine = term-le holding_of accounts k v at in let all = counts.holders in omega arith

  -- a step of the seat k, from the word s to t and from the account v to w
  turned : (w : Account) {s t : WordState} → Counts s accounts
      → (t.pending + w.taken + v.posted ≡ s.pending + v.taken + w.posted) × (one w.holds + one t.free + one s.held ≡ one v.holds + one s.free + one t.held)
      × (w.minted + v.redeemed + tickets_due s ≡ v.minted + w.redeemed + tickets_due t) × (one t.free + w.adopts + v.retires ≡ one s.free + v.adopts + w.retires)
      → Knows t.pending w → ((j : ℕ) (d : Account) → j ≢ k → j < length accounts → Knows t.pending (get_or accounts j d))
      → Counts t (set accounts k w)
  turned w {s} {t} counts sums mine others =
      let taken = sum_by-put taken_of accounts k v w at in
      let posted = sum_by-put posted_of accounts k v w at in
      let holding = sum_by-put holding_of accounts k v w at in
      let minted = sum_by-put (λ a. a.minted) accounts k v w at in
      let redeemed = sum_by-put (λ a. a.redeemed) accounts k v w at in
      let adopts = sum_by-put (λ a. a.adopts) accounts k v w at in
      let retires = sum_by-put (λ a. a.retires) accounts k v w at in
      record { notes = omega arith; holders = omega arith; tickets = omega arith; known = all_put (Knows t.pending) accounts k w mine others; freed = omega arith }

  -- who holds the slot is the only one
  pub alone : (s : WordState) → v.holds ≡ true → sum_by holding_of accounts + one s.free ≡ one s.held → (j : ℕ) (d : Account) → j ≢ k → j < length accounts
      → (get_or accounts j d).holds ≡ false
  alone s mine holders j d other lt =
      let empty : Account = record v { holds = false } in
      let put = sum_by-put holding_of accounts k v empty at in
      let term = get_or-le-sum_by holding_of (set accounts k empty) j d (rw length-set lt) in
      let same : one (get_or (set accounts k empty) j d).holds ≡ one (get_or accounts j d).holds = rw (get_or-set_other accounts k j empty d other) in
      false_from_zero (get_or accounts j d).holds (omega (arith, ap one mine, one_le s.held))

  -- a step of the kind that the seat may do keeps the rule of the slot
  step_by : (kind : StepKind) (p : ℕ) (f h : Bool) → NeedsHolder kind v → Counts (word_state p f h) accounts → one v.holds + one f ≤ one h → one h ≤ 1 → Knows p v
      → Counts (word_after kind (word_state p f h)) (set accounts k (account_with (made kind (word_state p f h)) v))
  step_by post p f h may counts mine most knows = turned _ counts (omega (arith, due-post p f h))
      (omega (arith, one_le v.holds), (λ e. omega (arith, ap one e, knows.1 e)))
      (λ j d other lt. let those = counts.known j d lt in (omega arith, those.1))
  step_by claim p f true may counts mine most knows = turned _ counts (omega arith) knows (λ j d other. counts.known j d)
  step_by claim p f false may counts mine most knows = turned _ counts (omega arith) (omega arith, (λ e. cc)) (λ j d other. counts.known j d)
  step_by take p f true may counts mine most knows = turned _ counts (omega arith) (omega arith, (λ e. refl))
      (λ j d other lt. let none = (counts.known j d lt).1 (alone (word_state p f true) may counts.holders j d other lt) in (omega arith, (λ e. none)))
  step_by take p f false may counts mine most knows = absurd (omega (arith, ap one may))
  step_by release p f true may counts mine most knows = turned _ counts (omega (arith, ap one may)) (omega arith, (λ e. refl)) (λ j d other. counts.known j d)
  step_by release p f false may counts mine most knows = absurd (omega (arith, ap one may))
  step_by retire p f h may counts mine most knows = turned _ counts (omega (arith, ap one may)) (omega arith, (λ e. refl)) (λ j d other. counts.known j d)
  step_by adopt p true h may counts mine most knows = turned _ counts (omega arith) (omega arith, (λ e. cc)) (λ j d other. counts.known j d)
  step_by adopt p false h may counts mine most knows = turned _ counts (omega arith) knows (λ j d other. counts.known j d)

  counts_kept : (kind : StepKind) (s : WordState) → NeedsHolder kind v → Counts s accounts → Counts (word_after kind s) (set accounts k (account_with (made kind s) v))
  counts_kept kind s may counts = step_by kind s.pending s.free s.held may counts (marked_held s counts) (one_le s.held) (each_at (Knows s.pending) _ _ at counts.known)

-- One exchange more

kind_of_made : (kind : StepKind) (p : ℕ) (f h : Bool) → step_kind (made kind (word_state p f h)) ≡ kind
kind_of_made claim p f true = refl
kind_of_made claim p f false = refl
kind_of_made adopt p true h = refl
kind_of_made adopt p false h = refl
kind_of_made kind p f h = refl

by_append : (seat : ℕ) (h t : History) → by_seat seat (h ++ t) ≡ by_seat seat h ++ by_seat seat t
by_append seat [] t = refl
by_append seat (s ∷ h) t =
    dite (ℕ_discrete s.0 seat) (λ same. rw (eq-eqb s.0 seat same, by_append seat h t)) (λ other. rw (ne_eqb s.0 seat other, by_append seat h t))

leads_on : (w v : WordState) (h : History) (s : ℕ × Exchange) → Leads w h v → s.1 ≡ made (step_kind s.1) v → Leads w (h ++ s ∷ []) (word_after (step_kind s.1) v)
leads_on w v [] s leads is = (rw leads is, ap (word_after (step_kind s.1)) leads)
leads_on w v (x ∷ h) s leads is = (leads.0, leads_on (word_after (step_kind x.1) w) v h s leads.1 is)

pub after_both : (t u : List Exchange) (a : Account) → after_all (t ++ u) a ≡ after_all u (after_all t a)
after_both [] u a = refl
after_both (e ∷ t) u a = after_both t u (account_with e a)

keeps_on : (t : List Exchange) (e : Exchange) (a : Account) → Keeps a t → NeedsHolder (step_kind e) (after_all t a) → Keeps a (t ++ e ∷ [])
keeps_on [] e a fair may = (may, tt)
keeps_on (x ∷ t) e a fair may = (fair.0, keeps_on t e (account_with x a) fair.1 may)

-- one exchange more of the seat k, whose trace was t
module _ (word : ℕ) (traces : List (List Exchange)) (rule : SlotRule word traces) (k : ℕ) (t : List Exchange) (at : get_elem? traces k ≡ some t) (kind : StepKind) where
  abbrev pub last : Exchange
  last = made kind rule.state

  abbrev pub grown : List Exchange
  grown = t ++ last ∷ []

  mine_on : (inside : k < length traces) (seat : ℕ) → by_seat seat (rule.history ++ (k, last) ∷ []) ≡ get_or (set traces k grown) seat []
  mine_on inside seat =
      by_append seat rule.history ((k, last) ∷ []) ∙
      dite (ℕ_discrete k seat)
      (λ same. rw (eq-eqb k seat same, ← same, rule.mine k, found traces k t [] at, get_or-set_same traces k grown [] inside))
      (λ other. rw (ne_eqb k seat other, append-nil, rule.mine seat, get_or-set_other traces k seat grown [] (λ e. other (sym e))))

  pub history_on : k < length traces → NeedsHolder kind (account_of t) → SlotRule (word_of (word_after kind rule.state)) (set traces k grown)
  history_on inside may =
      let is : step_kind last ≡ kind = kind_of_made kind rule.state.pending rule.state.free rule.state.held in
      record {
        history = rule.history ++ (k, last) ∷ [];
        state = word_after kind rule.state;
        reads = refl;
        folds = rw is at (leads_on unused_word rule.state rule.history (k, last) rule.folds (rw is));
        mine = mine_on inside;
        fair = All-set (Keeps blank) traces k grown (keeps_on t last blank (each_at (Keeps blank) _ _ at rule.fair) (rw is may)) rule.fair;
      }

-- What a history makes of the accounts of all seats, one exchange after the other

-- the seat is one of these, or has no exchange in the history; it keeps to what it holds; and its account becomes the
-- one in `ends`
record Along (h : History) (accounts ends : List Account) (seat : ℕ) : Type 0 where
  pub among : length accounts ≤ seat → by_seat seat h ≡ []
  pub fair : Keeps (get_or accounts seat blank) (by_seat seat h)
  pub becomes : after_all (by_seat seat h) (get_or accounts seat blank) ≡ get_or ends seat blank

module _ (s : ℕ × Exchange) (rest : History) (accounts ends : List Account) where
  abbrev now : Account
  now = get_or accounts s.0 blank

  first_inside : Along (s ∷ rest) accounts ends s.0 → s.0 < length accounts
  first_inside along = dite (dec_lt s.0 (length accounts)) (λ lt. lt)
      (λ past. let none : s.1 ∷ by_seat s.0 rest ≡ [] = rw (eq-eqb s.0 s.0 refl) at (along.among (omega arith)) in cc)

  rest_along : s.0 < length accounts → (seat : ℕ) → Along (s ∷ rest) accounts ends seat → Along rest (set accounts s.0 (account_with s.1 now)) ends seat
  rest_along inside seat along = dite (ℕ_discrete s.0 seat) (λ same. (
      let here : get_or (set accounts s.0 (account_with s.1 now)) seat blank ≡ account_with s.1 (get_or accounts seat blank) =
      rw (← same) (get_or-set_same accounts s.0 (account_with s.1 now) blank inside) in
      let test = eq-eqb s.0 seat same in
      record { among = λ past. absurd (omega (arith, length-set accounts s.0 (account_with s.1 now))); fair = rw here (rw test at along.fair).1; becomes = rw here (rw test at along.becomes) }))
      (λ other. (
      let there = get_or-set_other accounts s.0 seat (account_with s.1 now) blank (λ e. other (sym e)) in
      let test = ne_eqb s.0 seat other in
      record { among = rw length-set (rw test at along.among); fair = rw there (rw test at along.fair); becomes = rw there (rw test at along.becomes) }))

counts_along : (h : History) (w v : WordState) (accounts ends : List Account) → Leads w h v → length accounts ≡ length ends → ((seat : ℕ) → Along h accounts ends seat)
    → Counts w accounts → Counts v ends
counts_along [] w v accounts ends leads many along counts = rw (← leads, ← (ext_get_or blank accounts ends many (λ seat lt. (along seat).becomes))) counts
counts_along (s ∷ rest) w v accounts ends leads many along counts =
    let a = get_or accounts s.0 blank in
    let inside = first_inside s rest accounts ends (along s.0) in
    let may = (rw (eq-eqb s.0 s.0 refl) at (along s.0).fair).0 in
    counts_along rest (word_after (step_kind s.1) w) v (set accounts s.0 (account_with s.1 a)) ends leads.1 (length-set accounts s.0 (account_with s.1 a) ∙ many)
    (λ seat. rest_along s rest accounts ends inside seat (along seat))
    (subst (λ (e : Exchange). Counts (word_after (step_kind s.1) w) (set accounts s.0 (account_with e a))) (sym leads.0)
    (counts_kept accounts s.0 a (at_inside accounts s.0 blank inside) (step_kind s.1) w may counts))

-- seats that have done nothing, at an unused slot
counts_of_none : (n : ℕ) → Counts unused_word (replicate n blank)
counts_of_none n =
    let none : (f : Account → ℕ) → f blank ≡ 0 → sum_by f (replicate n blank) ≡ 0 = λ f is. (sum_by-replicate f n blank ∙ rw is (omega arith)) in
    let posted = none posted_of refl in
    let taken = none taken_of refl in
    let minted = none (λ a. a.minted) refl in
    let redeemed = none (λ a. a.redeemed) refl in
    let holding = none holding_of refl in
    let adopts = none (λ a. a.adopts) refl in
    let retires = none (λ a. a.retires) refl in
    record { notes = omega arith; holders = omega arith; tickets = omega arith; known = All-replicate (Knows 0) n blank (omega arith, (λ e. refl)); freed = omega arith }

pub counts_of : (word : ℕ) (traces : List (List Exchange)) (rule : SlotRule word traces) → Counts rule.state (map account_of traces)
counts_of word traces rule =
    let n = length traces in
    let first : List Account = replicate n blank in
    counts_along rule.history unused_word rule.state first (map account_of traces) rule.folds (length-replicate n blank ∙ sym (length-map traces account_of)) (λ seat. record {
      among = λ past. (rule.mine seat ∙ get_or_past traces seat [] (rw length-replicate at past));
      fair = rw (same_at n seat blank, rule.mine seat) (all_or (Keeps blank) traces [] rule.fair tt seat);
      becomes = rw (same_at n seat blank, rule.mine seat) (sym (get_or-map account_of traces seat []));
    }) (counts_of_none n)
