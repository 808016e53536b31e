-- The rule of all slots: at the start, after a step and after a split, and the laws of every state that meets it.
pub mod Histories
pub use Histories.*

abbrev pub spare_of : View → ℕ
spare_of v = v.spare

abbrev pub holds_of : Account → Bool
holds_of a = a.holds

abbrev pub Sized : ℕ → View → Type 0
Sized slots v = length v.traces ≡ slots

abbrev pub Unworn : View → Type 0
Unworn v = sum_by posted_of (accounts_of v) ≤ 2 ^ 56

-- the account of this slot
abbrev pub account_in : ℕ → View → Account
account_in slot v = account_of (trace_in slot v)

-- the account of the seat k
pub at_column : (slot : ℕ) (views : List View) (k : ℕ) (v : View) → get_elem? views k ≡ some v → get_elem? (column slot views) k ≡ some (account_in slot v)
at_column slot views k v at = at_map account_of (traces_at slot views) k (trace_in slot v) (at_map (trace_in slot) views k v at)

pub account_there : (v : View) (slot : ℕ) → get_or (accounts_of v) slot blank ≡ account_in slot v
account_there v slot = get_or-map account_of v.traces slot []

-- One step keeps it: at another slot nothing changes

-- the view after a step that leaves this trace of the slot
abbrev with_trace : View → ℕ → List Exchange → View
with_trace v slot t = record v { traces = set v.traces slot t }

module _ (slots : ℕ) (words : List ℕ) (views : List View) (rule : ClaimRule slots words views) where
  -- the notes that all seats ever posted at one slot
  pub few_posts : (slot : ℕ) → slot < slots → sum_by posted_of (column slot views) ≤ 2 ^ 61
  few_posts slot lt =
      let most : All (λ v. posted_of (account_in slot v) ≤ 2 ^ 56) views =
      λ k d in_views. (
      let v = get_or views k d in
      let term = rw (account_there v slot) at (get_or-le-sum_by posted_of (accounts_of v) slot blank (rw (length-map, rule.one_trace_each k d in_views) lt)) in
      let total = rule.unworn k d in_views in omega arith) in
      let bound = sum_by-le (λ v. posted_of (account_in slot v)) (2 ^ 56) views most in
      let seats = rule.few_seats in
      rw (sum_by-map, sum_by-map) (omega arith)

  pub few_pending : (slot : ℕ) (lt : slot < slots) → (rule.slot_rules slot lt).state.pending ≤ 2 ^ 61
  few_pending slot lt = let posts = few_posts slot lt in let notes = (counts_of _ _ (rule.slot_rules slot lt)).notes in omega arith

  module _ (k : ℕ) (v : View) (at : get_elem? views k ≡ some v) (slot : ℕ) (lt : slot < slots) where
    sized : length v.traces ≡ slots
    sized = each_at (Sized slots) _ _ at rule.one_trace_each

    pub wide : slot < length v.traces
    wide = rw sized lt

    -- the seat k has the trace t of this slot, and the word became n
    pub kept : (n : ℕ) (t : List Exchange) → SlotRule n (set (traces_at slot views) k t) → sum_by posted_of (map account_of (set v.traces slot t)) ≤ 2 ^ 56
        → ClaimRule slots (set words slot n) (set views k (with_trace v slot t))
    kept n t here few =
        let w : View = with_trace v slot t in
        let spares = sum_by-put spare_of views k v w at in
        let seats = rule.few_seats in
        let many = length-set views k w in
        record {
          one_word_each = rw length-set rule.one_word_each;
          one_trace_each = All-set (Sized slots) views k w (rw length-set sized) rule.one_trace_each;
          slot_rules = λ j j_lt. dite (ℕ_discrete j slot)
              (λ same. rw (same, get_or-set_same words slot n 0 (rw rule.one_word_each lt), map-set, get_or-set_same v.traces slot t [] wide) here)
              (λ other. rw (
                get_or-set_other words slot j n 0 other,
                map-set,
                get_or-set_other v.traces slot j t [] other,
                set_again (traces_at j views) k (trace_in j v) (at_map (trace_in j) views k v at),
              ) (rule.slot_rules j j_lt));
          unworn = All-set Unworn views k w few rule.unworn;
          few_seats = omega arith;
        }

-- The laws of every state that meets it

-- an entry of the list holds only where there is one
holds_inside : (l : List Account) (k : ℕ) → (get_or l k blank).holds ≡ true → k < length l
holds_inside [] k holds = cc
holds_inside (x ∷ l) zero holds = omega arith
holds_inside (x ∷ l) (suc k) holds = let rest = holds_inside l k holds in omega arith

pub one_holder_each : OneHolderEach
one_holder_each slots words views rule slot within seat other seat_holds other_holds =
    let here = rule.slot_rules slot within in
    let accounts = column slot views in
    dite (ℕ_discrete other seat) sym (λ ne. cc (
    alone accounts seat (get_or accounts seat blank) (at_inside accounts seat blank (holds_inside accounts seat seat_holds))
    here.state seat_holds (counts_of _ _ here).holders other blank ne (holds_inside accounts other other_holds)))

-- a word says one thing
same_word : (w v : WordState) → word_of w ≡ word_of v → w ≡ v
same_word w v is =
    let a = one_le w.free in let b = one_le w.held in let c = one_le v.free in let d = one_le v.held in
    let pending : w.pending ≡ v.pending = omega arith in
    let free = same_bit w.free v.free (omega arith) in
    let held = same_bit w.held v.held (omega arith) in
    λ i. record { pending = pending i; free = free i; held = held i }
  where
    same_bit : (a b : Bool) → one a ≡ one b → a ≡ b
    same_bit true true e = refl
    same_bit false false e = refl
    same_bit a b e = absurd (omega arith)

pub histories_count : HistoriesCount
histories_count slots words views rule slot within state is =
    let here = rule.slot_rules slot within in
    rw (same_word here.state state (sym here.reads ∙ is)) at (counts_of _ _ here)

-- It holds at the start, and a seat that makes another keeps it

-- the first seat, which may still make the others; and a seat that makes another, which has done nothing and makes none
abbrev first_view : ℕ → ℕ → View
first_view slots seats = unused_view slots (seats - 1)

abbrev one_spare_less : View → View
one_spare_less v = record v { spare = v.spare - 1 }

abbrev newcomer : View → View
newcomer v = unused_view (length v.traces) 0

-- no exchange at any place
none_more : (traces : List (List Exchange)) (slot : ℕ) → get_or traces slot [] ≡ get_or (traces ++ [] ∷ []) slot []
none_more [] zero = refl
none_more [] (suc slot) = refl
none_more (t ∷ ts) zero = refl
none_more (t ∷ ts) (suc slot) = none_more ts slot

-- seats that have done nothing, and the word 3
unused_slot : (n : ℕ) → SlotRule 3 (replicate n [])
unused_slot n = record { history = []; state = unused_word; reads = refl; folds = refl; mine = λ seat. sym (same_at n seat []); fair = All-replicate (Keeps blank) n [] tt }

nothing_posted : (n : ℕ) → sum_by posted_of (map account_of (replicate n [])) ≡ 0
nothing_posted n = rw (map-replicate account_of n [], sum_by-replicate posted_of n blank) (omega arith)

unused_traces : (slots spare seats slot : ℕ) → traces_at slot (replicate seats (unused_view slots spare)) ≡ replicate seats []
unused_traces slots spare seats slot = rw (map-replicate, same_at)

module _ (slots : ℕ) (spare : ℕ) where
  -- this many seats that have done nothing and have this spare each
  pub unused_rule : (seats : ℕ) → seats + seats * spare ≤ 32 → ClaimRule slots (replicate slots 3) (replicate seats (unused_view slots spare))
  unused_rule seats few =
      let v : View = unused_view slots spare in
      let posts : sum_by posted_of (accounts_of v) ≡ 0 = nothing_posted slots in
      let spares = sum_by-replicate spare_of seats v in
      let many = length-replicate seats v in
      record {
        one_word_each = length-replicate slots 3;
        one_trace_each = All-replicate (Sized slots) seats v (length-replicate slots []);
        slot_rules = λ slot lt. rw (get_or-replicate {A = ℕ} slots slot 3 0 lt, unused_traces slots spare seats slot) (unused_slot seats);
        unworn = All-replicate Unworn seats v (omega arith);
        few_seats = omega arith;
      }

-- a seat more that has done nothing
one_more : (n : ℕ) (traces : List (List Exchange)) → SlotRule n traces → SlotRule n (traces ++ [] ∷ [])
one_more n traces rule = record {
  history = rule.history;
  state = rule.state;
  reads = rule.reads;
  folds = rule.folds;
  mine = λ seat. rule.mine seat ∙ none_more traces seat;
  fair = All-push (Keeps blank) traces [] rule.fair tt;
}

pub may_split : (slots id : ℕ) (v : View) → 0 < v.spare → Splits {S = Unit {0}} (λ s. ClaimRule slots s.words s.views) id v (one_spare_less v) (newcomer v)
may_split slots id v some_spare table rule at =
    let views = table.views in
    let left = one_spare_less v in
    let right = newcomer v in
    let sized = each_at (Sized slots) _ _ at rule.one_trace_each in
    let posts = each_at Unworn _ _ at rule.unworn in
    let none : sum_by posted_of (accounts_of right) ≡ 0 = nothing_posted (length v.traces) in
    let spares = sum_by-put spare_of views id v left at in
    let spares' = sum_by_push spare_of (set views id left) right in
    let seats = rule.few_seats in
    let many = length-append (set views id left) (right ∷ []) in
    let many' = length-set views id left in
    record {
      one_word_each = rule.one_word_each;
      one_trace_each = All-push (Sized slots) (set views id left) right (All-set (Sized slots) views id left sized rule.one_trace_each)
          (length-replicate (length v.traces) [] ∙ sized);
      slot_rules = λ slot lt. rw (map-append, map-set, set_again (traces_at slot views) id (trace_in slot v) (at_map (trace_in slot) views id v at), same_at)
          (one_more (get_or table.words slot 0) (traces_at slot views) (rule.slot_rules slot lt));
      unworn = All-push Unworn (set views id left) right
          (All-set Unworn views id left posts rule.unworn) (omega arith);
      few_seats = omega arith;
    }

-- the first seat and the words at the start
pub opening_rule : (slots seats : ℕ) (words : List ℕ) → words ≡ replicate slots 3 → 1 ≤ seats → seats ≤ 32 → ClaimRule slots words (first_view slots seats ∷ [])
opening_rule slots seats words is some_seat few = rw is (unused_rule slots (seats - 1) 1 (omega arith))

-- what an unused seat keeps beside its view
pub unused_ok : (slots : ℕ) (held : List Bool) (table : TableId) (v : View) → held ≡ replicate slots false → table.words ≡ slots → v ≡ unused_view slots 0 → SeatOk 0 held table v
unused_ok slots held table v marks words is = rw is (record {
  counted = sym (nothing_posted slots);
  unworn = omega arith;
  marked = rw (map-replicate, map-replicate) marks;
  splits_no_more = refl;
  sized = rw length-replicate (sym words);
})

-- a history with no exchange of any seat is empty, and leads nowhere
no_history : (h : History) (w : WordState) → ((seat : ℕ) → by_seat seat h ≡ []) → Leads unused_word h w → w ≡ unused_word
no_history [] w none leads = sym leads
no_history (s ∷ rest) w none leads =
    let some : s.1 ∷ by_seat s.0 rest ≡ [] = rw (eq-eqb s.0 s.0 refl) at (none s.0) in cc

-- the words that unused seats leave
words_are_3 : (slots seats : ℕ) (words : List ℕ) → ClaimRule slots words (replicate seats (unused_view slots 0)) → words ≡ replicate slots 3
words_are_3 slots seats words rule =
    ext_get_or 0 words (replicate slots 3) (rule.one_word_each ∙ sym (length-replicate slots 3)) (λ slot lt. (
    let inside : slot < slots = rw rule.one_word_each at lt in
    let here = rule.slot_rules slot inside in
    let none = λ (seat : ℕ). rw (unused_traces slots 0 seats slot, same_at) at (here.mine seat) in
    rw (get_or-replicate {A = ℕ} slots slot 3 0 inside) (here.reads ∙ ap word_of (no_history here.history here.state none here.folds))))

-- the rule holds of words that are all 3 and of unused seats, and of no other words
pub opens_lawful : (slots seats : ℕ) (table : TableId) (all : List SeatState) → table.words ≡ slots → all ≡ replicate seats (fresh_seat table) → seats ≤ 32 → OpensLawful slots all
opens_lawful slots seats table all sized is few words =
    let views : map view_of all ≡ replicate seats (unused_view slots 0) = rw (is, map-replicate, sized) in
    ((λ rule. words_are_3 slots seats words (rw views at rule)), (λ all_3. rw (views, all_3) (unused_rule slots 0 seats (omega arith))))

-- the first seat after one split more
pub spare_used : (slots seats made : ℕ) (v w : View) → w ≡ one_spare_less v → v ≡ unused_view slots (seats - made) → w ≡ unused_view slots (seats - (made + 1))
spare_used slots seats made v w split was =
    let less : seats - made - 1 ≡ seats - (made + 1) = omega arith in
    rw (split, was, less)

pub one_seat_more : (table next : TableId) (made : ℕ) (all all' : List SeatState) (s : SeatState) → 1 ≤ made → all ≡ replicate (made - 1) (fresh_seat table) → s ≡ fresh_seat next
    → next ≡ table
    → all' ≡ all ++ s ∷ [] → all' ≡ replicate (made + 1 - 1) (fresh_seat table)
one_seat_more table next made all all' s some_made was new same pushed =
    let count : made - 1 + 1 ≡ made + 1 - 1 = omega arith in
    rw (pushed, was, new, same, replicate_more, count)
