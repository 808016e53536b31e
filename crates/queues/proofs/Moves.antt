-- Each call of an end keeps the queue rule: one end's list of places and items, and the sums over all ends, when one
-- entry is added.
use Rattle.std.{proofs.{Common.{true, false, true≢false, ◌≡◌, ℕ, zero, suc, ◌+◌, ◌-◌, ◌<◌, ◌≤◌, ◌==◌, if◌then◌else◌, replicate, List, [], ◌∷◌, ◌++◌, length, get_or, set, refl, sym, ap, ◌∙◌, append_assoc, length-append, length-set, arith}, lemmas.List.{length_push, replicate-append-replicate, FromFn.{length-map-range_with_len, map-range_with_len_more}, Elements.{All-push, All-set}, Quantifiers.all_pairs_push, Sums.{sum_by_push, sum_by-set}}}, specs.List.{sum_by, All}}
use Rattle.crossbeam_queue.{proofs.Lists.{at_longer, at_last}, specs.Fifo.{Held, Pushes, Pops, Forks, Learns}}
use Rattle.queues.specs.{declared.history.History.History, Rule.{once_below, times, Fits, MakeUp, FirstPutAll, QueueRule}, Steps.{EndState, opener, blank, among_others, after_put, after_take, Saw, PutOne, TookOne, in_order}}
use mathlib.Core.Option.{some, some-injective, some-ne-none}
use lib.ListN.{get_elem?}

module _ {A : Type 0} where
  there : (l : List A) (k : ℕ) (v d : A) → get_elem? l k ≡ some v → (k < length l) × (get_or l k d ≡ v)
  there [] k v d at = absurd (some-ne-none v (sym at))
  there (x ∷ xs) zero v d at = (omega arith, some-injective x v at)
  there (x ∷ xs) (suc k) v d at = let more = there xs k v d at in (omega arith, more.1)

  -- what holds of each element holds of this one
  each_at : (P : A → Type 0) (l : List A) (k : ℕ) (v : A) → get_elem? l k ≡ some v → All P l → P v
  each_at P l k v at all = let (within, is) = there l k v v at in rw is at (all k v within)

  sum_by-put : (f : A → ℕ) (l : List A) (k : ℕ) (v w : A) → get_elem? l k ≡ some v → sum_by f (set l k w) + f v ≡ sum_by f l + f w
  sum_by-put f l k v w at = let (within, is) = there l k v v at in rw is at (sum_by-set f l k w v within)

once_more : (n k : ℕ) → once_below (n + 1) k ≡ once_below n k + (if n == k then 1 else 0)
once_more n k = grind arith

module _ {T : Type 0} where
  fits_nothing : (line : List T) → Fits line []
  fits_nothing line = record { there = λ k d lt. absurd (omega arith); rising = λ i j d lt in_list. absurd (omega arith) }

  -- the line is longer by one
  fits_longer : (line : List T) (x : T) (entries : List (ℕ × T)) → Fits line entries → Fits (line ++ x ∷ []) entries
  fits_longer line x entries fits = record { there = λ k d lt. at_longer line (x ∷ []) _ _ (fits.there k d lt); rising = fits.rising }

  -- an end steps, whose history was v and is w
  module _ (views : List (History T)) (port : ℕ) (v w : History T) (at : get_elem? views port ≡ some v) where
    module _ (f : History T → List (ℕ × T)) {line : List T} (rule : MakeUp line f views) where
      none_more : f w ≡ f v → MakeUp line f (set views port w)
      none_more same = record {
        once = λ k. (
            let put = sum_by-put (λ u. times k (f u)) views port v w at in
            let mine : times k (f w) ≡ times k (f v) = ap (times k) same in
            let all = rule.once k in omega arith);
        fit = All-set (λ u. Fits line (f u)) views port w (rw same (each_at (λ u. Fits line (f u)) views port v at rule.fit)) rule.fit;
      }

      -- the next place of the line is added to its entries
      one_more : (x : T) → f w ≡ f v ++ (length line, x) ∷ [] → MakeUp (line ++ x ∷ []) f (set views port w)
      one_more x more = record {
        once = λ k. (
            let put = sum_by-put (λ u. times k (f u)) views port v w at in
            let mine : times k (f w) ≡ times k (f v) + (if length line == k then 1 else 0) = rw more (sum_by_push (λ e. if e.0 == k then 1 else 0) (f v) (length line, x)) in
            let all = rule.once k in
            let next = once_more (length line) k in rw length_push (omega arith));
        fit = All-set (λ u. Fits (line ++ x ∷ []) (f u)) views port w (rw more (
            let fits = each_at (λ u. Fits line (f u)) views port v at rule.fit in
            record {
              there = All-push (λ e. get_elem? (line ++ x ∷ []) e.0 ≡ some e.1) (f v) (length line, x) (fits_longer line x (f v) fits).there (at_last line x (length line) refl);
              rising = all_pairs_push (λ a b. a.0 < b.0) (f v) (length line, x) fits.rising (λ k d lt. (there line _ _ x (fits.there k d lt)).0);
            })) (λ k d lt. fits_longer line x _ (rule.fit k d lt));
      }

  nothing_made : (f : History T → List (ℕ × T)) → f opener ≡ [] → MakeUp [] f (opener ∷ [])
  nothing_made f none = record {
    once = λ k. rw none (grind arith);
    fit = All-push (λ u. Fits [] (f u)) [] opener (λ k d lt. absurd (omega arith)) (rw none (fits_nothing []));
  }

  -- an end that has done nothing is added
  blank_more : {views : List (History T)} {line : List T} (f : History T → List (ℕ × T)) → f blank ≡ [] → MakeUp line f views → MakeUp line f (views ++ blank ∷ [])
  blank_more {views} {line} f none rule = record {
    once = λ k. (
        let more = sum_by_push (λ u. times k (f u)) views blank in
        let mine : times k (f blank) ≡ 0 = rw none in
        let all = rule.once k in omega arith);
    fit = All-push (λ u. Fits line (f u)) views blank rule.fit (rw none (fits_nothing line));
  }

  abbrev NotAlone : History T → Type 0
  NotAlone v = v.alone ≡ false

  -- of several ends none is alone
  none_alone : (n : ℕ) (views : List (History T)) → 2 ≤ length views → All NotAlone views → FirstPutAll n views
  none_alone n [] several all = absurd (omega arith)
  none_alone n (v ∷ []) several all = absurd (omega arith)
  none_alone n (v ∷ u ∷ views) several all = all

  alone_put : (n : ℕ) (views : List (History T)) (k : ℕ) (v : History T) → get_elem? views k ≡ some v → FirstPutAll n views → v.alone ≡ true → length v.put ≡ n
  alone_put n [] k v at all lone = absurd (some-ne-none v (sym at))
  alone_put n (u ∷ []) zero v at all lone = rw (some-injective u v at) at all lone
  alone_put n (u ∷ []) (suc k) v at all lone = absurd (some-ne-none v (sym at))
  alone_put n (u ∷ t ∷ views) k v at all lone = absurd (true≢false (sym lone ∙ each_at NotAlone (u ∷ t ∷ views) k v at all))

  -- an end steps, whose history was v and is w
  still_alone : (n m : ℕ) (views : List (History T)) (port : ℕ) (v w : History T) → get_elem? views port ≡ some v → w.alone ≡ v.alone
      → (length v.put ≡ n → length w.put ≡ m) → FirstPutAll n views → FirstPutAll m (set views port w)
  still_alone n m [] port v w at same step all = all
  still_alone n m (u ∷ []) zero v w at same step all = λ lone. step (alone_put n (u ∷ []) zero v at all (sym same ∙ lone))
  still_alone n m (u ∷ []) (suc k) v w at same step all = absurd (some-ne-none v (sym at))
  still_alone n m (u ∷ t ∷ views) port v w at same step all =
      let long = length-set (u ∷ t ∷ views) port w in
      none_alone m (set (u ∷ t ∷ views) port w) (omega arith)
      (All-set NotAlone (u ∷ t ∷ views) port w (same ∙ each_at NotAlone (u ∷ t ∷ views) port v at all) all)

  -- a further end was made
  fork_alone : (n : ℕ) (views : List (History T)) (port : ℕ) (v w b : History T) → get_elem? views port ≡ some v → NotAlone w → NotAlone b → FirstPutAll n views
      → FirstPutAll n (set views port w ++ b ∷ [])
  fork_alone n [] port v w b at w_not b_not all = absurd (some-ne-none v (sym at))
  fork_alone n (u ∷ []) zero v w b at w_not b_not all = All-push NotAlone (w ∷ []) b (All-push NotAlone [] w (λ k d lt. absurd (omega arith)) w_not) b_not
  fork_alone n (u ∷ []) (suc k) v w b at w_not b_not all = absurd (some-ne-none v (sym at))
  fork_alone n (u ∷ t ∷ views) port v w b at w_not b_not all =
      let long = length-set (u ∷ t ∷ views) port w in
      let push = length_push (set (u ∷ t ∷ views) port w) b in
      none_alone n (set (u ∷ t ∷ views) port w ++ b ∷ []) (omega arith) (All-push NotAlone (set (u ∷ t ∷ views) port w) b (All-set NotAlone (u ∷ t ∷ views) port w w_not all) b_not)

  -- a queue with one end, which has done nothing
  pub begins : QueueRule {T = T} [] (opener ∷ [])
  begins = record {
    gone = [];
    put = nothing_made (λ u. u.put) refl;
    taken = nothing_made (λ u. u.taken) refl;
    alone = λ lone. refl;
  }

  module _ (n port : ℕ) (v : History T) (x : T) where
    pub pushes : Pushes QueueRule n port v x (PutOne v x)
    pushes items views room rule at =
        let line = rule.gone ++ items in
        let w = after_put v (length line) x in
        let same : rule.gone ++ (items ++ x ∷ []) ≡ line ++ x ∷ [] = sym (append_assoc rule.gone items (x ∷ [])) in
        let after : QueueRule (items ++ x ∷ []) (set views port w) = record {
          gone = rule.gone;
          put = rw same (one_more views port v w at (λ u. u.put) rule.put x refl);
          taken = none_more views port v w at (λ u. u.taken) rule.taken refl;
          alone = rw (same, length_push) (still_alone (length line) (length line + 1) views port v w at refl (λ e. length_push v.put (length line, x) ∙ ap (λ k. k + 1) e) rule.alone);
        } in
        (w, after, record { items = items; views = views; end_number = port; mine = at; before = rule; put = refl; after = after })

  module _ (port : ℕ) (v : History T) where
    pub pops : Pops QueueRule port v (TookOne v)
    pops x items views rule at =
        let w = after_take v (length rule.gone) x in
        let same : (rule.gone ++ x ∷ []) ++ items ≡ rule.gone ++ (x ∷ items) = append_assoc rule.gone (x ∷ []) items in
        let after : QueueRule items (set views port w) = record {
          gone = rule.gone ++ x ∷ [];
          put = rw same (none_more views port v w at (λ u. u.put) rule.put refl);
          taken = one_more views port v w at (λ u. u.taken) rule.taken x refl;
          alone = rw same (still_alone _ _ views port v w at refl (λ e. e) rule.alone);
        } in
        (w, after, record { items = items; views = views; end_number = port; mine = at; before = rule; taken = refl; after = after })

    pub learns : Learns QueueRule port v (Saw v)
    learns items views rule at = record { views = views; end_number = port; mine = at; rule = rule }

    -- a new end has done nothing
    pub forks : Forks QueueRule port v (among_others v) blank
    forks items views rule at =
        let w = among_others v in
        record {
          gone = rule.gone;
          put = blank_more (λ u. u.put) refl (none_more views port v w at (λ u. u.put) rule.put refl);
          taken = blank_more (λ u. u.taken) refl (none_more views port v w at (λ u. u.taken) rule.taken refl);
          alone = fork_alone _ views port v w blank at refl refl rule.alone;
        }

length-in_order : (first n : ℕ) → length (in_order first n) ≡ n
length-in_order first n = length-map-range_with_len (λ (place : ℕ). (place, first + place)) 0 n

abbrev filling : ℕ → ℕ → History ℕ
filling first n = record opener { put = in_order first n }

-- while an end is alone, its next place is the number of its puts
pub next_slot : (first n : ℕ) (old new : History ℕ) → old ≡ filling first n → PutOne old (first + n) new → new ≡ filling first (n + 1)
next_slot first n old new is step =
    let lone = ap (λ (h : History ℕ). h.alone) is in
    let has = alone_put _ step.views step.end_number old step.mine step.before.alone lone in
    let place : length (step.before.gone ++ step.items) ≡ n = sym has ∙ ap (λ (h : History ℕ). length h.put) is ∙ length-in_order first n in
    rw (step.put, place, is, map-range_with_len_more {X = ℕ × ℕ} (λ (place : ℕ). (place, first + place)) 0 n n (omega arith))

-- and the queue is not full before as many puts as it can hold
pub has_room : (capacity first n : ℕ) (h : History ℕ) → h ≡ filling first n → n < capacity → Held capacity (Saw h) → ⊥
has_room capacity first n h is few full =
    let saw = full.2 in
    let has = alone_put _ saw.views saw.end_number h saw.mine saw.rule.alone (ap (λ (h : History ℕ). h.alone) is) in
    let puts = ap (λ (h : History ℕ). length h.put) is ∙ length-in_order first n in
    let count = length-append saw.rule.gone full.0 in
    let held = full.1 in omega arith

pub one_end_more : (first next : EndState ℕ) (k : ℕ) → 1 ≤ k → (first ∷ replicate (k - 1) next) ++ next ∷ [] ≡ first ∷ replicate (k + 1 - 1) next
one_end_more first next k some_end = ap (λ l. first ∷ l) (replicate-append-replicate (k - 1) 1 next ∙ ap (λ n. replicate n next) (omega arith))
