-- Acts, one after the other, and the posts of a round, in a poller's own slots alone.
use Rattle.std.{proofs.{Common.{◌≡◌, ℕ, zero, suc, ◌+◌, ◌≤◌, Bool, true, false, cond, List, [], ◌∷◌, ◌++◌, length, length-append, refl, sym, ◌∙◌, arith, inl, inr, append_assoc, ◌≢◌, ◌⊎◌, ◌↔◌, IsTrue, slice_index, replicate, slice_set, ◌==◌, ◌||◌, if◌then◌else◌, Option, Some, None}, lemmas.{Grind.flat_map-append, Bool.{eq-eqb, ne_eqb, false≢true, Decides.nat_tests}, List.{append-nil, map-append, map-id, length-map, length-replicate, get_or-replicate, get_or_past, get_or-set_other, Elements.{All-append, filter_map-append}, FromFn.{length-range_with_len, map-range_with_len_more}, Sums.sum_by-append}}}, specs.List.{All, cons_option, filter_map, range_with_len}}
use Rattle.claims.{specs.{declared.view.Account.Account, Views.{after_all, minted_by}, Seats.{SeatState, trace_at, account_at, HoldsNothing, Adds}}, proofs.Seats.after_both}
use Rattle.queues.specs.declared.ticket.Ticket.{Ticket}
use Rattle.rounds.specs.{Acts.{SeatAct, exchanges_at, made_by, due_of, ActsMade, IsPost, ArePosts, opening, InOrder, IsTry, AreTries, at_slot, connection_reported, all_reported, ArePosted, is_due, last_in, opened_below, all_opened, sweep_of}, Pollers.{IsOwnTable, PollerState, AreGenerations}, Openings.AreIn}
use Rattle.relay_core.specs.Idle.{is_past}
use Rattle.shared.specs.{Hands.{HandState, ticket_room}, Posts.IsWorn}
use Rattle.sizes.specs.{declared.split.Part.Part, Splits.IsIn}
use mathlib.Core.Logic.{dite}
use native.Mathlib.Decide.{ℕ_discrete}
use Rattle.claims.specs.declared.view.Exchange.TheVariants as exchange
use Rattle.claims.specs.declared.answers.Posted.TheVariants as answer

pub at_slot-append : (slot : ℕ) (xs ys : List Ticket) → at_slot slot (xs ++ ys) ≡ at_slot slot xs + at_slot slot ys
at_slot-append slot xs ys = sum_by-append (λ (t : Ticket). cond (t.slot == slot) 1 0) xs ys

pub due-append : (xs ys : List SeatAct) → due_of (xs ++ ys) ≡ due_of xs ++ due_of ys
due-append xs ys = flat_map-append _ xs ys

pub acts_none : (s : SeatState) → ActsMade [] s s
acts_none s = record { table = refl; traces = λ slot. sym (append-nil (trace_at s slot)) }

pub acts_both : (xs ys : List SeatAct) (a b c : SeatState) → ActsMade xs a b → ActsMade ys b c → ActsMade (xs ++ ys) a c
acts_both xs ys a b c one two = record {
  table = two.table ∙ one.table;
  traces = λ slot. rw (two.traces slot, one.traces slot, flat_map-append, append_assoc);
}

-- at the slot of an act's ticket, and at the others
pub acts_one : (act : SeatAct) (old new : SeatState) → Adds act.ticket.slot act.exchanges old new → ActsMade (act ∷ []) old new
acts_one act old new adds = record {
  table = adds.only.table;
  traces = λ slot. dite (ℕ_discrete act.ticket.slot slot)
      (λ same. rw (eq-eqb act.ticket.slot slot same, append-nil) (rw same at adds.here))
      (λ other. rw (ne_eqb act.ticket.slot slot other, append-nil) (adds.only.others slot (λ e. other (sym e))));
}

pub all_none : {A : Type 0} (P : A → Type 0) → All P []
all_none P i d lt = absurd (omega arith)

pub all_one : {A : Type 0} (P : A → Type 0) (x : A) → P x → All P (x ∷ [])
all_one P x here zero d lt = here
all_one P x here (suc i) d lt = absurd (omega arith)

made_le : (minted : ℕ) (t : Ticket) → length (made_by minted t) ≤ 1
made_le minted t = grind arith

-- as many tickets as acts, or fewer
due_le : (acts : List SeatAct) → length (due_of acts) ≤ length acts
due_le [] = omega arith
due_le (act ∷ acts) = simp length-append (omega (arith, due_le acts, made_le (minted_by act.exchanges) act.ticket))

-- Posts leave who holds a slot

posts_hold : (slot : ℕ) (acts : List SeatAct) → All IsPost acts → (a : Account) → (after_all (exchanges_at slot acts) a).holds ≡ a.holds
posts_hold slot [] each a = refl
posts_hold slot (act ∷ acts) each a = rw (after_both, posts_hold slot acts (λ i d lt. each (suc i) d (omega arith))) (by_case (act.ticket.slot == slot)) where
  by_case : (b : Bool) → (after_all (if b then act.exchanges else []) a).holds ≡ a.holds
  by_case true = let is = each 0 act (omega arith) in rw is.1
  by_case false = refl

posts_hold_nothing : {acts : List SeatAct} {old new : SeatState} → All IsPost acts → ActsMade acts old new → HoldsNothing old → HoldsNothing new
posts_hold_nothing {acts} {old} each made nothing = record {
  nowhere = λ slot. rw (made.traces slot, after_both) (posts_hold slot acts each (account_at old slot) ∙ nothing.nowhere slot);
}

-- all of the first were posted, and then others
posts_both : {xs ys : List Ticket} {us bs : List SeatAct} {s t : SeatState} (one : ArePosts xs us s) → one.left ≡ [] → ArePosts ys bs t → ArePosts (xs ++ ys) (us ++ bs) t
posts_both {us = us} {bs = bs} one none two = record {
  left = two.left;
  each = All-append IsPost us bs one.each two.each;
  in_order = rw (map-append (λ (act : SeatAct). act.ticket) us bs, append_assoc, two.in_order, ← one.in_order, none, append-nil);
  all = two.all;
}

-- others come to nothing, since the seat posts no more
posts_worn : {xs : List Ticket} (ys : List Ticket) {us : List SeatAct} {s : SeatState} → ArePosts xs us s → IsWorn s → ArePosts (xs ++ ys) us s
posts_worn ys one is = record { left = one.left ++ ys; each = one.each; in_order = rw (← append_assoc, one.in_order); all = inr is }

-- said of a later seat
pub posts_still : {xs : List Ticket} {us : List SeatAct} {s t : SeatState} → ArePosts xs us s → (IsWorn s → IsWorn t) → ArePosts xs us t
posts_still {s = s} {t = t} one still = record { left = one.left; each = one.each; in_order = one.in_order; all = by one.all } where
  by : (one.left ≡ []) ⊎ IsWorn s → (one.left ≡ []) ⊎ IsWorn t
  by (inl none) = inl none
  by (inr is) = inr (still is)

posts_le : {xs : List Ticket} {acts : List SeatAct} {s : SeatState} → ArePosts xs acts s → length (due_of acts) ≤ length xs
posts_le {acts = acts} posts = rw (← posts.in_order, length-append, length-map) (omega (arith, due_le acts))

pub tries_both : {xs ys : List Ticket} {h k : List ℕ} {us bs : List SeatAct} → AreTries xs h us → AreTries ys k bs → AreTries (xs ++ ys) (h ++ k) (us ++ bs)
tries_both {us = us} {bs = bs} one two = record {
  each = All-append IsTry us bs one.each two.each;
  made = rw (flat_map-append, one.made, two.made);
  found = rw (flat_map-append, one.found, two.found);
}

pub tries_none : AreTries [] [] []
tries_none = record { each = all_none IsTry; made = refl; found = refl }

pub try_opened : (t : Ticket) (found noted : ℕ) → AreTries (t ∷ []) [] (record { ticket = t; exchanges = opening found noted } ∷ [])
try_opened t found noted = record { each = all_one IsTry _ (inl (found, noted, refl)); made = refl; found = refl }

pub try_held : (t : Ticket) → AreTries [] (t.slot ∷ []) (record { ticket = t; exchanges = exchange.NotFree ∷ [] } ∷ [])
try_held t = record { each = all_one IsTry _ (inr (inl refl)); made = refl; found = refl }

pub try_dropped : (t : Ticket) → AreTries [] [] (record { ticket = t; exchanges = [] } ∷ [])
try_dropped t = record { each = all_one IsTry _ (inr (inr refl)); made = refl; found = refl }

-- A poller's table has connections in its own slots alone

pub own_none : (part : Part) (n : ℕ) (table : List ℕ) → table ≡ replicate n 0 → IsOwnTable part table
own_none part n table is slot out = rw is (grind (arith, length-replicate, get_or-replicate, get_or_past))

pub are_none : (n : ℕ) (table : List ℕ) → table ≡ replicate n 0 → AreGenerations table
are_none n table is = rw is (λ slot d inside. grind (arith, get_or-replicate, length-replicate))

pub own_set : (part : Part) (table : List ℕ) (slot generation : ℕ) → IsOwnTable part table → IsIn part slot → IsOwnTable part (slice_set table slot generation)
own_set part table slot generation own here other out = get_or-set_other table slot other generation 0 (λ same. out (rw same here)) ∙ own other out

-- The reports of a batch, and the posts of a sweep, one after the other

-- steps, and then others
pub in_order : {X S : Type 0} (step : X → S → S → Type 0) (xs ys : List X) (a b c : S) → InOrder step xs a b → InOrder step ys b c → InOrder step (xs ++ ys) a c
in_order step [] ys a b c same more = rw same at more
in_order step (x ∷ xs) ys a b c (between, first, rest) more = (between, first, in_order step xs ys between b c rest more)

-- nothing was posted, since there was nothing to post, or the seat posts no more
posted_nothing : {xs : List Ticket} {s : SeatState} {h : HandState} → (xs ≡ []) ⊎ IsWorn s → ArePosted xs s s h h
posted_nothing {xs} {s} why =
    record { posts = []; are = record { left = xs; each = all_none IsPost; in_order = refl; all = why }; made = acts_none s; hand = rw append-nil; still = λ is. (refl, refl) }

pub posted_none : (s : SeatState) (h : HandState) → ArePosted [] s s h h
posted_none s h = posted_nothing (inl refl)

pub posted_not : (xs : List Ticket) (s : SeatState) (h : HandState) → IsWorn s → ArePosted xs s s h h
posted_not xs s h is = posted_nothing (inr is)

-- connections, and then others
pub posted_both : {xs ys : List Ticket} {a b c : SeatState} {h k l : HandState} → ArePosted xs a b h k → ArePosted ys b c k l → ArePosted (xs ++ ys) a c h l
posted_both {xs} {ys} {a} {b} {c} {h} {k} {l} one two = by one.are.all where
  still : IsWorn a → (c ≡ a) × (l ≡ h)
  still is = let same = one.still is in let more = two.still (rw same.0 is) in (more.0 ∙ same.0, more.1 ∙ same.1)

  by : (one.are.left ≡ []) ⊎ IsWorn b → ArePosted (xs ++ ys) a c h l
  by (inl none) = record {
    posts = one.posts ++ two.posts;
    are = posts_both one.are none two.are;
    made = acts_both _ _ _ _ _ one.made two.made;
    hand = rw (two.hand, one.hand, due-append one.posts two.posts, append_assoc);
    still = still;
  }
  by (inr is) = rw ((two.still is).0, (two.still is).1) (record { posts = one.posts; are = posts_worn ys one.are is; made = one.made; hand = one.hand; still = one.still })

pub none_at : (t : Ticket) (slot : ℕ) → slot ≢ t.slot → at_slot slot (t ∷ []) ≡ 0
none_at t slot other = rw (ne_eqb t.slot slot (λ e. other (sym e)))

module _ {t : Ticket} {old new : SeatState} where
  one_posted : (woke : Bool) {h k : HandState} → (IsWorn old → ⊥) → Adds t.slot (exchange.Post woke ∷ []) old new
      → k ≡ record h { tickets = h.tickets ++ (made_by (minted_by (exchange.Post woke ∷ [])) t ++ []) } → ArePosted (t ∷ []) old new h k
  one_posted woke never adds hand =
      let act : SeatAct = record { ticket = t; exchanges = exchange.Post woke ∷ [] } in
      record {
        posts = act ∷ [];
        are = record { left = []; each = all_one IsPost act (woke, refl); in_order = refl; all = inl refl };
        made = acts_one act old new adds;
        hand = hand;
        still = λ is. absurd (never is);
      }

  -- a post that did not wake
  pub posted_quiet : {h : HandState} → (answer.Quiet ≡ answer.Worn) ↔ IsWorn old → Adds t.slot (exchange.Post false ∷ []) old new → ArePosted (t ∷ []) old new h h
  posted_quiet unless adds = one_posted false (λ is. cc (unless.1 is)) adds (rw append-nil)

  -- a post that woke
  pub posted_woke : {h k : HandState} → (answer.Wake ≡ answer.Worn) ↔ IsWorn old → Adds t.slot (exchange.Post true ∷ []) old new
      → k ≡ record h { tickets = h.tickets ++ t ∷ [] } → ArePosted (t ∷ []) old new h k
  posted_woke unless adds kept = one_posted true (λ is. cc (unless.1 is)) adds kept

-- as many connections as there are items, or fewer
pub filter_le : {X : Type 0} (f : X → Option Ticket) (xs : List X) → length (filter_map f xs) ≤ length xs
filter_le f [] = omega arith
filter_le f (x ∷ xs) =
    let rest = filter_le f xs in elim (f x) as (λ o. length (cons_option o (filter_map f xs)) ≤ suc (length xs)) [ Some t ↦ omega arith | None ↦ omega arith ]

module _ {xs : List Ticket} {old new : SeatState} {had has : HandState} (posted : ArePosted xs old new had has) where
  -- as many tickets came in as there were posts, or fewer
  pub room_left : ticket_room had ≤ ticket_room has + length xs
  room_left = rw (posted.hand, length-append had.tickets (due_of posted.posts)) (omega (arith, posts_le posted.are))

  pub holds_nothing_still : HoldsNothing old → HoldsNothing new
  holds_nothing_still nothing = posts_hold_nothing posted.are.each posted.made nothing

-- connections of which none is in another's slot
filter_own : {X : Type 0} (part : Part) (f : X → Option Ticket) (xs : List X) → ((x : X) (t : Ticket) → f x ≡ Some t → (IsIn part t.slot → ⊥) → ⊥) → AreIn part (filter_map f xs)
filter_own part f [] own slot out = refl
filter_own part f (x ∷ xs) own slot out = by_first (filter_own part f xs own slot out) (f x) refl where
  by_first : at_slot slot (filter_map f xs) ≡ 0 → (o : Option Ticket) → f x ≡ o → at_slot slot (cons_option o (filter_map f xs)) ≡ 0
  by_first rest None is = rest
  by_first rest (Some t) is = omega (arith, none_at t slot (λ same. own x t is (λ inside. out (rw same inside))), at_slot-append slot (t ∷ []) (filter_map f xs))

-- a report is for a connection that the table has, and a sweep too
reported_has : (table : List ℕ) (number : ℕ) (t : Ticket) → connection_reported table number ≡ Some t → 1 ≤ slice_index table t.slot
reported_has table number t is = grind arith

last_has : (table : List ℕ) (slot : ℕ) (t : Ticket) → last_in table slot ≡ Some t → 1 ≤ slice_index table t.slot
last_has table slot t is = grind arith

-- the table has connections in its poller's own slots alone
pub own_reports : (part : Part) (table batch : List ℕ) → IsOwnTable part table → AreIn part (all_reported table batch)
own_reports part table batch own = filter_own part (connection_reported table) batch (λ number t is out. omega (arith, own t.slot out, reported_has table number t is))

own_below : (part : Part) (table : List ℕ) (slots : ℕ) → IsOwnTable part table → AreIn part (opened_below table slots)
own_below part table slots own = filter_own part (last_in table) (range_with_len 0 slots) (λ slot t is out. omega (arith, own t.slot out, last_has table slot t is))

-- as many as there are slots, or fewer
pub few_below : (table : List ℕ) (slots : ℕ) → length (opened_below table slots) ≤ slots
few_below table slots = omega (arith, filter_le (last_in table) (range_with_len 0 slots), length-range_with_len 0 slots)

-- one slot more
pub below_more : (table : List ℕ) (slot : ℕ) → opened_below table (slot + 1) ≡ opened_below table slot ++ filter_map (last_in table) (slot ∷ [])
below_more table slot =
    let more : range_with_len 0 (slot + 1) ≡ range_with_len 0 slot ++ slot ∷ [] = simp map-id at (map-range_with_len_more (λ (x : ℕ). x) 0 slot slot (omega arith)) in
    rw more (filter_map-append (last_in table) (range_with_len 0 slot) (slot ∷ []))

-- what a round posts for time
pub own_sweep : (part : Part) (old new : PollerState) → IsOwnTable part old.table → AreIn part (sweep_of old new)
own_sweep part old new own slot out = grind (arith, own_below part old.table (length old.table) own slot out)

pub few_sweep : (old new : PollerState) → length (sweep_of old new) ≤ length old.table
few_sweep old new = grind (arith, few_below old.table (length old.table))

-- no sweep was made
pub no_sweep : (old : PollerState) (swept : ℕ) → swept ≡ old.swept → (if swept == old.swept then [] else all_opened old.table) ≡ []
no_sweep old swept same = rw (eq-eqb swept old.swept same)

past_later : (second limit last : ℕ) → is_past second limit last ≡ true → second ≢ last
past_later second limit last past same = grind (arith, nat_tests)

-- a sweep was made, or none was due
pub swept_by : (limit : ℕ) (p r : PollerState) (due : Bool) {second : ℕ} → due ≡ is_due limit p → r ≡ record p { swept = if due then p.second else p.swept; second = second }
    → sweep_of p r ≡ (if due then all_opened p.table else [])
swept_by limit p r true due is = rw (is, ne_eqb p.second p.swept (past_later p.second limit p.swept (sym due)))
swept_by limit p r false due is = rw (is, eq-eqb p.swept p.swept refl)

-- the flag that the listener's report raises is down
pub flag_down : {connection_reported : Type 0} (told flag : Bool) → IsTrue told ↔ connection_reported → (flag || told) ≡ false → (flag ≡ false) × (connection_reported → ⊥)
flag_down told true is down = absurd (false≢true (sym down))
flag_down told false is down = (refl, λ has. false≢true (sym down ∙ is.1 has))

-- it is up
pub flag_raised : {connection_reported : Type 0} (told flag : Bool) → IsTrue told ↔ connection_reported → (flag || told) ≡ true → (flag ≡ true) ⊎ connection_reported
flag_raised told true is up = inl refl
flag_raised told false is up = inr (is.0 up)
