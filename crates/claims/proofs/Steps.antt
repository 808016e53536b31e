-- Each kind of step is allowed, and what it shows in the words of the calls' contracts.
pub mod Rule
unfoldable pub use Rattle.claims.specs.Seats.{Stepped}
pub use Rule.*

-- What each exchange makes of a word, bit by bit

or_low : (p r s : ℕ) → r < 4 → s < 4 → bit_or (4 * p + r) s ≡ 4 * p + bit_or r s
or_low p r s r_low s_low =
    let left : 4 * p + r ≡ p * 2 ^ 2 + r = omega arith in
    let right : 0 * 2 ^ 2 + s ≡ s = omega arith in
    rw (left, rw right at (or_block 2 p 0 r s r_low s_low), or_zero_r p) (omega arith)

-- a mask with every bit above the two lowest
and_low : (p r s : ℕ) → p < 2 ^ 62 → r < 4 → s < 4 → bit_and (4 * p + r) ((2 ^ 62 - 1) * 2 ^ 2 + s) ≡ 4 * p + bit_and r s
and_low p r s small r_low s_low =
    let left : 4 * p + r ≡ p * 2 ^ 2 + r = omega arith in
    let same : bit_and p (2 ^ 62 - 1) ≡ p = and_mask p 62 ∙ omega arith in
    rw (left, and_block 2 p (2 ^ 62 - 1) r s r_low s_low, same) (omega arith)

low : (f h : Bool) → 2 * one f + one h < 4
low f h = let a = one_le f in let b = one_le h in omega arith

-- the two lowest bits after each exchange that sets or clears one
bits : (f h : Bool) → (bit_or (2 * one f + one h) 1 ≡ 2 * one f + 1) × (bit_or (2 * one f + one h) 2 ≡ 2 + one h)
    × (bit_and (2 * one f + one h) 2 ≡ 2 * one f + 0) × (bit_and (2 * one f + one h) 1 ≡ 0 + one h)
bits true true = (refl, refl, refl, refl)
bits false true = (refl, refl, refl, refl)
bits f h = (refl, refl, refl, refl)

-- the exchange of the number is a step of this kind
pub record Does (kind : StepKind) (f : ℕ → ℕ) : Type 0 where
  pub does : (w : WordState) → w.pending ≤ 2 ^ 61 → f (word_of w) ≡ word_of (word_after kind w)

pub post_adds : Does post (λ n. (n + 4) % 2 ^ 64)
post_adds = record { does = λ w few. let small = low w.free w.held in omega arith }

pub claim_sets : Does claim (λ n. bit_or n 1)
claim_sets = record { does = λ w few. rw (bits w.free w.held).0 at (or_low w.pending (2 * one w.free + one w.held) 1 (low w.free w.held) (omega arith)) }

pub take_keeps : Does take (λ n. bit_and n 3)
take_keeps = record { does = λ w few. let small = low w.free w.held in and_mask (word_of w) 2 ∙ omega arith }

pub release_clears : Does release (λ n. bit_and n 18446744073709551614)
release_clears = record { does = λ w few. rw (bits w.free w.held).2 at (and_low w.pending (2 * one w.free + one w.held) 2 (omega arith) (low w.free w.held) (omega arith)) }

pub retire_sets : Does retire (λ n. bit_or n 2)
retire_sets = record { does = λ w few. rw (bits w.free w.held).1 at (or_low w.pending (2 * one w.free + one w.held) 2 (low w.free w.held) (omega arith)) }

pub adopt_clears : Does adopt (λ n. bit_and n 18446744073709551613)
adopt_clears = record { does = λ w few. rw (bits w.free w.held).3 at (and_low w.pending (2 * one w.free + one w.held) 1 (omega arith) (low w.free w.held) (omega arith)) }

-- What each kind of step asks, and that it is allowed

-- the view that a step of this kind leaves, with one exchange more
abbrev view_after : StepKind → WordState → ℕ → View → View
view_after kind w slot v = record v { traces = set v.traces slot (trace_in slot v ++ made kind w ∷ []) }

-- a post is one more
abbrev pub posts_by : StepKind → ℕ
posts_by post = 1
posts_by kind = 0

posted_by : (kind : StepKind) (p : ℕ) (f h : Bool) (a : Account) → posted_of (account_with (made kind (record { pending = p; free = f; held = h })) a) ≡ posted_of a + posts_by kind
posted_by claim p f true a = omega arith
posted_by claim p f false a = omega arith
posted_by adopt p true h a = omega arith
posted_by adopt p false h a = omega arith
posted_by kind p f h a = omega arith

-- a view's accounts after one exchange more at a slot
pub accounts_on : (v : View) (slot : ℕ) (e : Exchange) → map account_of (set v.traces slot (trace_in slot v ++ e ∷ [])) ≡ set (accounts_of v) slot (account_with e (account_in slot v))
accounts_on v slot e = rw (map-set, after_both)

still_few : (kind : StepKind) (s : WordState) (slot : ℕ) (v : View) → slot < length v.traces → sum_by posted_of (accounts_of v) + posts_by kind ≤ 2 ^ 56
    → sum_by posted_of (map account_of (set v.traces slot (trace_in slot v ++ made kind s ∷ []))) ≤ 2 ^ 56
still_few kind s slot v within few =
    let next = account_with (made kind s) (account_in slot v) in
    let put = rw (account_there v slot) at (sum_by-set posted_of (accounts_of v) slot next blank (rw length-map within)) in
    let by = posted_by kind s.pending s.free s.held (account_in slot v) in
    rw (accounts_on v slot (made kind s)) (omega arith)

pub may_step : {kind : StepKind} {f : ℕ → ℕ} → Does kind f → (slots homes id : ℕ) (m : Me (Unit {0}) View) (slot : ℕ) → slot < slots → NeedsHolder kind (account_in slot m.0)
    → sum_by posted_of (accounts_of m.0) + posts_by kind ≤ 2 ^ 56
    → Allows (λ s. ClaimRule slots s.words s.views) homes id m slot f (λ n m'. (slots : ℕ) × KeepsRule kind slots slot n m.0 m'.0)
may_step {kind} {f} exchanges slots homes id m slot within may few table rule homes_are at below =
    let v = m.0 in
    let here = rule.slot_rules slot within in
    let t = trace_in slot v ++ made kind here.state ∷ [] in
    let mine = at_map (trace_in slot) table.views id v at in
    let rule' = kept slots table.words table.views rule id v at slot within (word_of (word_after kind here.state)) t
    (history_on _ (traces_at slot table.views) here id (trace_in slot v) mine kind (inside _ id _ mine) may)
    (still_few kind here.state slot v (wide slots table.words table.views rule id v at slot within) few) in
    let becomes = ap f here.reads ∙ exchanges.does here.state (few_pending slots table.words table.views rule slot within) in (
      view_after kind here.state slot v,
      keeps,
      tt,
      rw becomes rule',
      (
        slots,
        record {
          words = table.words;
          views = table.views;
          seat = id;
          state = here.state;
          inside = within;
          mine = at;
          before = rule;
          read = (refl, here.reads);
          becomes = refl;
          after = rule';
        },
      ),
    )

-- What a step has shown

-- with the views of seats that make no others
no_seats_more : {kind : StepKind} {slots words slot found : ℕ} {v w : View} → slots ≡ words → v.spare ≡ 0 → w.spare ≡ 0 → KeepsRule kind slots slot found v w
    → KeepsRule kind words slot found (record { traces = v.traces; spare = 0 }) (record { traces = w.traces; spare = 0 })
no_seats_more {v = v} {w} same none none' kept = rw (← same, ← (whole v none), ← (whole w none')) kept
  where
    whole : (u : View) → u.spare ≡ 0 → u ≡ record { traces = u.traces; spare = 0 }
    whole u none i = record { traces = u.traces; spare = none i }

-- the seat's table is `table` before, and the same after
module _ {kind : StepKind} {slot found id id' : ℕ} {v w : View} {table table' : TableId} (e : (table' ≡ table) × (id' ≡ id) × ((slots : ℕ) × KeepsRule kind slots slot found v w)) where
  abbrev told : (slots : ℕ) × KeepsRule kind slots slot found v w
  told = e.2

  -- what the number found says
  abbrev pub state : WordState
  state = told.1.state

  pub reads : found ≡ word_of state
  reads = told.1.read.1

  abbrev pub last : Exchange
  last = made kind state

  sized : length v.traces ≡ told.0
  sized = each_at (Sized told.0) _ _ told.1.mine told.1.before.one_trace_each

  wide_traces : slot < length v.traces
  wide_traces = rw sized told.1.inside

  my_account : get_elem? (column slot told.1.views) told.1.seat ≡ some (account_in slot v)
  my_account = at_column slot told.1.views told.1.seat v told.1.mine

  counts : Counts state (column slot told.1.views)
  counts = histories_count _ _ _ told.1.before slot told.1.inside state (sym told.1.read.0 ∙ told.1.read.1)

  knows_few : (account_in slot v).known ≤ state.pending
  knows_few = (each_at (Knows state.pending) _ _ my_account counts.known).0

  -- all that the seat ever took here
  pub took_few : (account_in slot w).taken ≤ 2 ^ 61
  took_few =
      let views = set told.1.views told.1.seat w in
      let there = set_here told.1.views told.1.seat w (inside told.1.views told.1.seat v told.1.mine) in
      let term = term-le taken_of (column slot views) told.1.seat (account_in slot w) (at_column slot views told.1.seat w there) in
      let notes = (counts_of _ _ (told.1.after.slot_rules slot told.1.inside)).notes in
      let few = few_posts told.0 (set told.1.words slot (word_of (word_after kind state))) views told.1.after slot told.1.inside in
      omega arith

  module _ {posts : ℕ} {held : List Bool} (ok : SeatOk posts held table v) where
    -- what the seat keeps beside its view, by the exchange
    pub kept_beside : {x : Exchange} {posts' : ℕ} {held' : List Bool} → last ≡ x → posts' + (account_in slot v).posted ≡ posts + (account_with x (account_in slot v)).posted → posts' ≤ 2 ^ 56
        → held' ≡ set held slot (account_with x (account_in slot v)).holds → SeatOk posts' held' table' w
    kept_beside {x} {held' = held'} is more few marks =
        let next : Account = account_with x (account_in slot v) in
        let accounts : accounts_of w ≡ set (accounts_of v) slot next =
        ap accounts_of told.1.becomes ∙ accounts_on v slot last ∙ ap (λ (e : Exchange). set (accounts_of v) slot (account_with e (account_in slot v))) is in
        let put = rw (account_there v slot) at (sum_by-set posted_of (accounts_of v) slot next blank (rw length-map wide_traces)) in
        let counted = ok.counted in
        let sum = ap (sum_by posted_of) accounts in
        record {
          counted = omega arith;
          unworn = few;
          marked = sym (ap (map holds_of) accounts ∙ rw (map-set, ← ok.marked, marks));
          splits_no_more = ap (λ (u : View). u.spare) told.1.becomes ∙ ok.splits_no_more;
          sized = ap (λ (u : View). length u.traces) told.1.becomes ∙ rw (length-set, ok.sized, e.0);
        }

    -- a step that leaves who holds the slot
    pub mark_kept : held ≡ set held slot (account_in slot v).holds
    mark_kept = rw (ok.marked, ← (map-set holds_of (accounts_of v) slot (account_in slot v)))
        (sym (map-set_same holds_of (accounts_of v) slot (account_in slot v) blank (ap holds_of (sym (account_there v slot)))))

    -- what the caller saw of the seat
    module _ {old : SeatState} (was : seat_state table v ≡ old) where
      pub adds : {x : Exchange} → last ≡ x → Adds slot (x ∷ []) old (seat_state table' w)
      adds is = rw (← is, ← was) (record {
        here = ap (trace_in slot) told.1.becomes ∙ get_or-set_same v.traces slot (trace_in slot v ++ last ∷ []) [] wide_traces;
        only = record { table = e.0; others = λ other ne. ap (trace_in other) told.1.becomes ∙ get_or-set_other v.traces slot other (trace_in slot v ++ last ∷ []) [] ne };
      })

      pub stepped : Stepped kind slot old (seat_state table' w)
      unfolding Stepped
      stepped = rw (← was) (found, no_seats_more (sym sized ∙ ok.sized) ok.splits_no_more (ap (λ (u : View). u.spare) told.1.becomes ∙ ok.splits_no_more) told.1)

      pub known_few : {n : ℕ} → n ≡ state.pending → (account_at old slot).known ≤ n
      known_few is = rw (← was, is) knows_few

      -- nobody holds a slot whose word says so, nor a free one
      pub held_by_none : one state.held ≤ one state.free → HoldsNot old slot
      held_by_none none = rw (← was) (
          let term = term-le holding_of (column slot told.1.views) told.1.seat (account_in slot v) my_account in
          let holders = counts.holders in
          false_from_zero (account_in slot v).holds (omega arith))

      pub knew_none : state.pending ≡ 0 → (account_at old slot).known ≡ 0
      knew_none is = rw (← was) (let few = knows_few in omega arith)

-- what a call's conditions say of the table's own numbers
pub within : {key : ℕ} {table now : TableId} {slot : ℕ} → key ≡ table.words → table ≡ now → slot < now.words → slot < key
within sized is inside = rw (sized, is) inside

pub holds_now : {table : TableId} {now : SeatState} (slot : ℕ) (v : View) → seat_state table v ≡ now → Holds now slot → (account_in slot v).holds ≡ true
holds_now slot v is holds = rw (← is) at holds

-- the marks that a seat keeps are right
pub marked_right : (slot : ℕ) (table : TableId) (v : View) (now : SeatState) (posts : ℕ) (held : List Bool) (mark : Bool) → seat_state table v ≡ now → SeatOk posts held table v
    → slot < now.table.words
    → mark ≡ get_or held slot mark → mark ≡ (account_at now slot).holds
marked_right slot table v now posts held mark was ok lt read =
    let wide : slot < length held = rw (ok.marked, length-map, length-map, ok.sized) (rw (← was) at lt) in
    let there : get_or held slot false ≡ (account_in slot v).holds = rw ok.marked (get_or-map holds_of (accounts_of v) slot blank ∙ ap holds_of (account_there v slot)) in
    rw (← was) (read ∙ get_or_default held slot mark false wide ∙ there)

-- The contracts of the calls by cases on what the word said

module _ (slot : ℕ) (old new : SeatState) where
  pub post_change : (r : Posted) (woke : Bool) → r ≡ (if woke then Wake else Quiet) → Adds slot (exchange.Post woke ∷ []) old new → (woke ≡ true → HoldsNot old slot)
      → PostChange slot old r new
  post_change r true is adds alone = rw is (adds, alone refl)
  post_change r false is adds alone = rw is adds

  pub release_change : (r : Released) (woke : Bool) → r ≡ (if woke then ReleaseWakes else ReleaseQuiet) → Adds slot (exchange.Release woke ∷ []) old new
      → (woke ≡ false → (account_at old slot).known ≡ 0) → ReleaseChange slot old r new
  release_change r true is adds none = rw is adds
  release_change r false is adds none = rw is (adds, none refl)

-- nobody holds a slot at which a post wakes
pub wakes_no_holder : (w : WordState) → wakes w ≡ true → w.held ≡ false
wakes_no_holder w is = by_held w.held (some_wait w.pending) is
  where
    by_held : (h waits : Bool) → (if h then false else (if waits then false else true)) ≡ true → h ≡ false
    by_held true waits is = cc
    by_held false waits is = refl

pub none_wait : (p : ℕ) → some_wait p ≡ false → p ≡ 0
none_wait zero is = refl
none_wait (suc p) is = cc

module _ (w : WordState) {read : Bool} where
  pub makes_busy : read ≡ w.held → read ≡ true → made claim w ≡ exchange.Busy
  makes_busy is held = rw (← is, held)

  pub makes_held : read ≡ w.held → read ≡ false → made claim w ≡ exchange.Held w.pending
  makes_held is free = rw (← is, free)

  pub makes_adopted : read ≡ w.free → read ≡ true → made adopt w ≡ exchange.Adopted w.pending
  makes_adopted is free = rw (← is, free)

  pub makes_not_free : read ≡ w.free → read ≡ false → made adopt w ≡ exchange.NotFree
  makes_not_free is held = rw (← is, held)
