-- What a step of a server is at each slot, and what stays true by it.
pub mod Deeds
pub use Rattle.interleaving.specs.{Slots.{Begin, Deed, Deliver, Front, Many, Of, Open, Report, Sees, Server, Step, Taken, Ticket, are_queued, besides, deed, delivering, first_ticket, in_hand, is_listener, makes, names_at, one_slot, rank, rank_at, thread_rests, set_to, slot_of, steps_at, suits, tickets_at, written}, Threads.rests_at}
pub use Rattle.kernel_model.specs.Names.{are_among, are_distinct}
pub use Rattle.readiness.proofs.Runs.{mapped}
pub use Rattle.token.specs.declared.name.Name.{Name}
pub use Rattle.std.{proofs.{Common.{eqb-true, inl, inr, length-append, map, nat_lt, ne_eqb, option_map, ◌<◌, ◌||◌, ◌≢◌, ◌≤◌, ◌⊎◌}, lemmas.{Bool.{and_parts, cases_eq, Decides.nat_tests}, List.{nil_from_length, take-append-drop}, Option.same_Some}}, specs.{Cmp.second_so, List.{list_all, list_any}}}
pub use Rattle.world.{proofs.Headline.Ends.Pairs.Holders.Events.Lists.kept_at, specs.Calls.when}
pub use Deeds.*
pub use Rattle.interleaving.specs.Threads as alone

-- Functions with one value set

pub set_here : {X : Type 0} (f : ℕ → X) (i : ℕ) (x : X) → set_to f i x i ≡ x
set_here f i x = rw (eq-eqb _ _ refl) refl

pub set_there : {X : Type 0} (f : ℕ → X) (i j : ℕ) (x : X) → j ≢ i → set_to f i x j ≡ f j
set_there f i j x other = rw (ne_eqb _ _ other) refl

-- Views

-- the view of a slot, by its place and what it shares
pub viewed : (m : Many) (s : ℕ) (q : System) → m.places s ≡ q → one_slot m.server.limits s ≡ q.limits → true ≡ q.flag → false ≡ q.accepted
    → names_at s (m.fronts (m.server.owner s)).batch ≡ q.batch → tickets_at s m.tickets ≡ q.tickets → slot_of m s ≡ q
viewed m s q p l f a b t = grind arith

-- what a step that is elsewhere does not change
pub framed : (m n : Many) (s : ℕ) → n.server ≡ m.server → n.places s ≡ m.places s
    → names_at s (n.fronts (m.server.owner s)).batch ≡ names_at s (m.fronts (m.server.owner s)).batch → tickets_at s n.tickets ≡ tickets_at s m.tickets → slot_of n s ≡ slot_of m s
framed m n s server places names tickets = rw (server, places, names, tickets) refl

-- Tickets

pub tickets_append : (s : ℕ) (xs ys : List Ticket) → tickets_at s (xs ++ ys) ≡ tickets_at s xs ++ tickets_at s ys
tickets_append s [] ys = refl
tickets_append s (t ∷ ts) ys = let rest = tickets_append s ts ys in grind (arith, rest)

-- the tickets that a deed makes are its slot's
brought : (s t i : ℕ) (gs : List ℕ) → tickets_at t (map (in_hand s i) gs) ≡ (if s == t then gs else [])
brought s t i [] = grind arith
brought s t i (g ∷ gs) = let rest = brought s t i gs in grind arith

brought_here : (s i : ℕ) (ts : List Ticket) (gs : List ℕ) → take (length (tickets_at s ts)) gs ≡ tickets_at s ts
    → tickets_at s (ts ++ map (in_hand s i) (drop (length (tickets_at s ts)) gs)) ≡ gs
brought_here s i ts gs is = let n = length (tickets_at s ts) in
    let made = rw (eq-eqb s s refl) at (brought s s i (drop n gs)) in
    tickets_append s ts _ ∙ (ap (λ (hs : List ℕ). tickets_at s ts ++ hs) made
    ∙ (ap (λ (hs : List ℕ). hs ++ drop n gs) (sym is) ∙ take-append-drop n gs))

brought_there : (s t i : ℕ) (ts : List Ticket) (gs : List ℕ) → t ≢ s → tickets_at t (ts ++ map (in_hand s i) gs) ≡ tickets_at t ts
brought_there s t i ts gs other =
    let made = rw (ne_eqb s t (λ e. other (sym e))) at (brought s t i gs) in
    tickets_append t ts _ ∙ (ap (λ (hs : List ℕ). tickets_at t ts ++ hs) made ∙ append-nil (tickets_at t ts))

-- The ticket that is taken

-- where it stood; it passes the test
pub record Stood (test : Ticket → Bool) (ts : List Ticket) (c : Taken) : Type 0 where
  pub before : List Ticket
  pub after : List Ticket
  pub whole : ts ≡ before ++ c.ticket ∷ after
  pub rest : c.rest ≡ before ++ after
  pub passes : test c.ticket ≡ true

pub stood : (test : Ticket → Bool) (ts : List Ticket) (c : Taken) → first_ticket test ts ≡ Some c → Stood test ts c
stood test [] c is = cc
stood test (t ∷ ts) c is = by (test t) refl is (λ d there. stood test ts d there)
  where
    by : (b : Bool) → test t ≡ b → (if b then Some (record { ticket = t; rest = ts })
        else option_map (λ (d : Taken). record { ticket = d.ticket; rest = t ∷ d.rest }) (first_ticket test ts)) ≡ Some c
        → ((d : Taken) → first_ticket test ts ≡ Some d → Stood test ts d) → Stood test (t ∷ ts) c
    by true passes is lower = rw (sym (same_Some _ _ is)) (record { before = []; after = ts; whole = refl; rest = refl; passes = passes })
    by false fails is lower = mapped _ _ _ is (λ d there same. let h = lower d there in let more = λ (xs : List Ticket). t ∷ xs in
        rw same (record { before = t ∷ h.before; after = h.after; whole = ap more h.whole; rest = ap more h.rest; passes = h.passes }))

-- of another slot
pub taken_there : (test : Ticket → Bool) (ts : List Ticket) (c : Taken) → first_ticket test ts ≡ Some c
    → (s : ℕ) → s ≢ c.ticket.slot → tickets_at s c.rest ≡ tickets_at s ts
taken_there test ts c is s other =
    let it = stood test ts c is in
    let whole = rw (ne_eqb c.ticket.slot s (λ e. other (sym e)))
    at (ap (tickets_at s) it.whole ∙ tickets_append s it.before (c.ticket ∷ it.after)) in
    ap (tickets_at s) it.rest ∙ (tickets_append s it.before it.after ∙ sym whole)

-- of this slot, which has no other
pub record Alone (s : ℕ) (ts : List Ticket) (c : Taken) : Type 0 where
  pub whole : tickets_at s ts ≡ c.ticket.generation ∷ []
  pub rest : tickets_at s c.rest ≡ []

pub taken_here : (test : Ticket → Bool) (ts : List Ticket) (c : Taken) → first_ticket test ts ≡ Some c → (s : ℕ) → c.ticket.slot ≡ s → length (tickets_at s ts) ≤ 1 → Alone s ts c
taken_here test ts c is s own most =
    let it = stood test ts c is in
    let before = tickets_at s it.before in
    let after = tickets_at s it.after in
    let whole : tickets_at s ts ≡ before ++ c.ticket.generation ∷ after =
    rw (eq-eqb c.ticket.slot s own) at (ap (tickets_at s) it.whole ∙ tickets_append s it.before (c.ticket ∷ it.after)) in
    let count = ap (λ (gs : List ℕ). length gs) whole in
    let first = nil_from_length before (omega (arith, length-append before (c.ticket.generation ∷ after))) in
    let last = nil_from_length after (omega (arith, length-append before (c.ticket.generation ∷ after))) in
    record { whole = whole ∙ rw (first, last) refl; rest = ap (tickets_at s) it.rest ∙ (tickets_append s it.before it.after ∙ rw (first, last) refl) }

-- The names of a poll

pub fewer_names : (s : ℕ) (rs : List Report) → length (names_at s rs) ≤ length rs
fewer_names s [] = omega arith
fewer_names s (r ∷ rs) = let h = fewer_names s rs in grind (arith, nat_tests)

pub queued_rest : (m : Many) (p : ℕ) (r : Report) (rs : List Report) → are_queued m p (r ∷ rs) ≡ true → are_queued m p rs ≡ true
queued_rest m p r rs h = grind arith

-- what a poll may give is queued at each slot, once
pub queued : (m : Many) (p s : ℕ) (rs : List Report) → are_queued m p rs ≡ true
    → (are_among (m.places s).kernel.queue (names_at s rs) ≡ true) × (are_distinct (names_at s rs) ≡ true)
queued m p s [] h = (refl, refl)
queued m p s (r ∷ rs) h = let q = queued m p s rs (queued_rest m p r rs h) in (grind (arith, nat_tests), grind (arith, nat_tests))

-- a report of an end is of a slot of this poller
abbrev pub is_own : (ℕ → ℕ) → ℕ → Report → Bool
is_own owner p (Of s n) = owner s == p
is_own owner p r = true

pub own_reports : (m : Many) (p : ℕ) (rs : List Report) → are_queued m p rs ≡ true → list_all (is_own m.server.owner p) rs ≡ true
own_reports m p [] h = refl
own_reports m p (r ∷ rs) h = let rest = own_reports m p rs (queued_rest m p r rs h) in grind arith

-- Ranks: a poller and thread 0 are in exchange

pub rank_first : (p : ℕ) → rank p p ≡ 0
rank_first p = rw (eq-eqb _ _ refl) refl

rank_twice : (p i : ℕ) → rank p (rank p i) ≡ i
rank_twice p i = grind (arith, nat_tests)

pub rank_apart : (p i j : ℕ) → i ≢ j → rank p i ≢ rank p j
rank_apart p i j other same = other (sym (rank_twice p i) ∙ ap (rank p) same ∙ rank_twice p j)

-- What is true between steps

-- the thread i has no program at the slot s
abbrev pub RestsAt : Many → ℕ → ℕ → Type 0
RestsAt m s i = rests_at (slice_get (m.places s).threads (rank (m.server.owner s) i)) ≡ true

-- each thread has no program but at the slot at which it is
abbrev pub Apart : Many → Type 0
Apart m = (i s : ℕ) → i < m.server.limits.workers → s ≢ m.busy_at i → RestsAt m s i

abbrev pub count : Bool → ℕ
count b = if b then 1 else 0

-- A poller that listens has its accept flag up, or the next client must be reported and nobody waits, or a report is on its way. An accepted
-- client counts for the share. All reports of ends in the batch are of the poller's slots
pub record FrontHolds (server : Server) (backlog p : ℕ) (f : Front) : Type 0 where
  pub listener : ((not f.listens || f.flag) || ((f.armed && backlog == 0) || (f.reported || list_any is_listener f.batch))) ≡ true
  pub share : f.opened + count f.accepted ≤ server.share p
  pub own : list_all (is_own server.owner p) f.batch ≡ true

abbrev pub FrontsHold : Many → Type 0
FrontsHold m = (p : ℕ) → FrontHolds m.server m.backlog p (m.fronts p)

pub record Between (m : Many) : Type 0 where
  pub inside : (s : ℕ) → m.server.owner s < m.server.limits.workers
  pub one_ticket : (s : ℕ) → length (tickets_at s m.tickets) ≤ 1
  pub apart : Apart m
  pub fronts : FrontsHold m

-- a step is these of the slot's own, which lead to the slot as it is then
pub record AtSlot (m : Many) (x : Step) (n : Many) (s : ℕ) : Type 0 where
  pub own : List alone.Step
  pub sees : Sees m s x own
  pub leads : alone.run (slot_of m s) own ≡ Some (slot_of n s)

pub record Next (m : Many) (x : Step) (n : Many) : Type 0 where
  pub server : n.server ≡ m.server
  pub each : (s : ℕ) → AtSlot m x n s
  pub apart : Apart n
  pub fronts : FrontsHold n

-- Fronts

pub at_each : (P : ℕ → Front → Type 0) (f : ℕ → Front) (p : ℕ) (new : Front) (i : ℕ) → P i (f i) → (i ≡ p → P p new) → P i (set_to f p new i)
at_each P f p new i all one = elim (cases_eq i p) [
  | inl e ↦ rw (e, set_here f p new) (one e)
  | inr other ↦ rw (set_there f p i new other) all
]

-- a front's batch is in the view of its poller's slots alone
pub same_names : (f : ℕ → Front) (p : ℕ) (new : Front) (s i : ℕ) → (i ≡ p → names_at s new.batch ≡ names_at s (f p).batch) → names_at s (set_to f p new i).batch ≡ names_at s (f i).batch
same_names f p new s i same = at_each (λ j g. names_at s g.batch ≡ names_at s (f j).batch) f p new i refl same

-- A deed

module _ (m : Many) (x : Step) (d : Deed) (n : Many) (q : System) where
  -- the slot has become q, and no other slot has changed
  pub record Done : Type 0 where
    pub server : n.server ≡ m.server
    pub places : (s : ℕ) → n.places s ≡ set_to m.places d.slot q s
    pub names : (s : ℕ) → s ≢ d.slot → names_at s (n.fronts (m.server.owner s)).batch ≡ names_at s (m.fronts (m.server.owner s)).batch
    pub names_here : names_at d.slot (n.fronts (m.server.owner d.slot)).batch ≡ q.batch
    pub tickets : (s : ℕ) → s ≢ d.slot → tickets_at s n.tickets ≡ tickets_at s m.tickets
    pub tickets_here : tickets_at d.slot n.tickets ≡ q.tickets
    pub common : common q ≡ common (slot_of m d.slot)

  done_here : Done → slot_of n d.slot ≡ q
  done_here done = viewed n d.slot q (done.places d.slot ∙ set_here m.places d.slot q) (ap (λ (o : Server). one_slot o.limits d.slot) done.server
      ∙ sym (ap (λ (c : Limits × (Bool × Bool)). c.0) done.common))
      (sym (ap (λ (c : Limits × (Bool × Bool)). c.1.0) done.common)) (sym (ap (λ (c : Limits × (Bool × Bool)). c.1.1) done.common))
      (ap (λ (s : Server). names_at d.slot (n.fronts (s.owner d.slot)).batch) done.server ∙ done.names_here) done.tickets_here

  done_there : Done → (s : ℕ) → s ≢ d.slot → slot_of n s ≡ slot_of m s
  done_there done s other = framed m n s done.server (done.places s ∙ set_there m.places d.slot s q other) (done.names s other) (done.tickets s other)

  -- nothing has changed for the thread i; or it is at the deed's slot, where it was, or it rested where it was
  abbrev pub Stands : ℕ → Type 0
  Stands i = ((n.busy_at i ≡ m.busy_at i) × (slice_get q.threads (rank_at m d.slot i) ≡ slice_get (m.places d.slot).threads (rank_at m d.slot i)))
      ⊎ ((n.busy_at i ≡ d.slot) × ((m.busy_at i ≡ d.slot) ⊎ (thread_rests m i ≡ true)))

  -- for each thread, if k alone has moved
  pub moved : (k : ℕ) → n.busy_at k ≡ d.slot → ((i : ℕ) → i ≢ k → n.busy_at i ≡ m.busy_at i) → (m.busy_at k ≡ d.slot) ⊎ (thread_rests m k ≡ true)
      → ((j : ℕ) → j ≢ rank_at m d.slot k → slice_get q.threads j ≡ slice_get (m.places d.slot).threads j) → (i : ℕ) → Stands i
  moved k here busy before others i = elim (cases_eq i k) [
    | inl own ↦ rw own (inr (here, before))
    | inr other ↦ inl (busy i other, others (rank_at m d.slot i) (rank_apart (m.server.owner d.slot) i k other))
  ]

  pub deed_next : Done → ((s : ℕ) (own : List alone.Step) → own ≡ steps_at s (Some d) → Sees m s x own) → alone.run (slot_of m d.slot) d.own ≡ Some q
      → ((i : ℕ) → Stands i) → Apart m → FrontsHold n → Next m x n
  deed_next done is ran stands apart fronts = record {
    server = done.server;
    each = λ s. at s (cases_eq d.slot s);
    apart = λ i s some other. rests_on i s (rw done.server at some) other (stands i) (cases_eq s d.slot);
    fronts = fronts;
  }
    where
      at : (s : ℕ) → (d.slot ≡ s) ⊎ (d.slot ≢ s) → AtSlot m x n s
      at s (inl here) = record { own = d.own; sees = is s d.own (rw (eq-eqb _ _ here) refl); leads = rw (← here) (ran ∙ ap Some (sym (done_here done))) }
      at s (inr other) = record { own = []; sees = is s [] (rw (ne_eqb _ _ other) refl); leads = ap Some (sym (done_there done s (λ e. other (sym e)))) }

      rests_on : (i s : ℕ) → i < m.server.limits.workers → s ≢ n.busy_at i → Stands i → (s ≡ d.slot) ⊎ (s ≢ d.slot) → RestsAt n s i
      rests_on i s some other (inl same) (inl here) =
          let before : RestsAt m s i = apart i s some (λ e. other (e ∙ sym same.0)) in
          rw (done.server, done.places s, here, set_here m.places d.slot q, same.1) (rw here at before)
      rests_on i s some other (inl same) (inr away) = rw (done.server, done.places s, set_there m.places d.slot s q away) (apart i s some (λ e. other (e ∙ sym same.0)))
      rests_on i s some other (inr it) (inl here) = absurd (other (here ∙ sym it.0))
      rests_on i s some other (inr it) (inr away) = rw (done.server, done.places s, set_there m.places d.slot s q away) (was (cases_eq s (m.busy_at i)) it.1)
        where
          was : (s ≡ m.busy_at i) ⊎ (s ≢ m.busy_at i) → (m.busy_at i ≡ d.slot) ⊎ (thread_rests m i ≡ true) → RestsAt m s i
          was (inl here) (inl at_slot) = absurd (away (here ∙ at_slot))
          was (inl here) (inr rested) = let now = second_so _ _ rested in rw here now
          was (inr never) before = apart i s some never

-- a deed, with other fronts and threads elsewhere besides
front_done : (m : Many) (x : Step) (d : Deed) (q : System) (fronts : ℕ → Front) (busy : ℕ → ℕ) {moves : ℕ → Bool} {names : ℕ} → Leaves moves names (slot_of m d.slot) q
    → ((s : ℕ) → s ≢ d.slot → names_at s (fronts (m.server.owner s)).batch ≡ names_at s (m.fronts (m.server.owner s)).batch)
    → names_at d.slot (fronts (m.server.owner d.slot)).batch ≡ q.batch → Done m x d (record (written m d q) { fronts = fronts; busy_at = busy }) q
front_done m x d q fronts busy left names here = record {
  server = refl;
  places = λ s. refl;
  names = names;
  names_here = here;
  tickets = λ s other. brought_there d.slot s d.thread m.tickets _ other;
  tickets_here = brought_here d.slot d.thread m.tickets q.tickets left.tickets;
  common = left.common;
}

-- with nothing besides
written_done : (m : Many) (x : Step) (d : Deed) (q : System) {moves : ℕ → Bool} → Leaves moves 0 (slot_of m d.slot) q → Done m x d (written m d q) q
written_done m x d q left = front_done m x d q m.fronts m.busy_at left (λ s other. refl) (sym left.batch)

-- Steps with a deed

-- the thread i begins a turn with this ticket
abbrev pub turn_of : Many → ℕ → ℕ → Taken → Deed
turn_of m i most c = record { slot = c.ticket.slot; thread = i; own = alone.Begin (rank_at m c.ticket.slot i) most ∷ [] }

module _ (m : Many) (between : Between m) where
  by_deed : (x : Step) (d : Deed) (made : System → Many) → ((q : System) → alone.run (slot_of m d.slot) d.own ≡ Some q → Next m x (made q))
      → Kept (Next m x) (when (nat_lt d.slot m.server.limits.slots) (option_map made (alone.run (slot_of m d.slot) d.own)))
  by_deed x d made leads = kept_when _ _ (λ within. kept_map made _ leads)

  pub by_still : (x : Step) (d : Deed) → ((s : ℕ) (own : List alone.Step) → own ≡ steps_at s (Some d) → Sees m s x own)
      → ((q : System) → alone.run (slot_of m d.slot) d.own ≡ Some q → Leaves (λ j. false) 0 (slot_of m d.slot) q)
      → Kept (Next m x) (when (nat_lt d.slot m.server.limits.slots) (option_map (λ (q : System). written m d q) (alone.run (slot_of m d.slot) d.own)))
  by_still x d is leaves = by_deed x d (λ q. written m d q) (λ q ran. let left = leaves q ran in
      deed_next m x d (written m d q) q (written_done m x d q left) is ran (λ i. inl (refl, left.others _ refl)) between.apart between.fronts)

  -- the next act or call of the thread i
  pub by_thread : (x : Step) (i : ℕ) (own : List alone.Step) → let d : Deed = record { slot = m.busy_at i; thread = i; own = own } in
      ((s : ℕ) (own : List alone.Step) → own ≡ steps_at s (Some d) → Sees m s x own)
      → ((q : System) → alone.run (slot_of m (m.busy_at i)) own ≡ Some q → Leaves (λ j. j == rank_at m (m.busy_at i) i) 0 (slot_of m (m.busy_at i)) q)
      → Kept (Next m x) (when (nat_lt d.slot m.server.limits.slots) (option_map (λ (q : System). written m d q) (alone.run (slot_of m (m.busy_at i)) own)))
  by_thread x i own is leaves =
      let d : Deed = record { slot = m.busy_at i; thread = i; own = own } in
      by_deed x d (λ q. written m d q) (λ q ran. let left = leaves q ran in
      deed_next m x d (written m d q) q (written_done m x d q left) is ran
      (moved m x d (written m d q) q i refl (λ j other. refl) (inl refl) (λ j other. left.others j (ne_eqb _ _ other))) between.apart between.fronts)

  pub opens : (p s : ℕ) → (thread_rests m p && (m.server.owner s == p && (m.fronts p).accepted)) ≡ true → Kept (Next m (Open p s)) (makes m (Open p s) (deed m (Open p s)))
  opens p s allowed =
      let d : Deed = record { slot = s; thread = p; own = opening_at_slot } in
      let f : Front = m.fronts p in
      let new : Front = record f { accepted = false; opened = f.opened + 1 } in
      let parts = and_parts (thread_rests m p) _ allowed in
      let mine = and_parts (m.server.owner s == p) f.accepted parts.1 in
      let first : rank (m.server.owner s) p ≡ 0 = rw (eqb-true (m.server.owner s) p mine.0) (rank_first p) in
      let within : f.opened + 1 ≤ m.server.share p = rw mine.1 at (between.fronts p).share in
      by_deed (Open p s) d (λ q. besides m (Open p s) (written m d q)) (λ q ran.
      let left = leaves_opening (slot_of m s) q refl ran in
      let n : Many = besides m (Open p s) (written m d q) in
      deed_next m (Open p s) d n q (front_done m (Open p s) d q (set_to m.fronts p new) (set_to m.busy_at p s) left
      (λ t other. same_names m.fronts p new t (m.server.owner t) (λ e. refl)) (same_names m.fronts p new s (m.server.owner s) (λ e. refl) ∙ sym left.batch))
      (λ t own e. e) ran
      (moved m (Open p s) d n q p (set_here m.busy_at p s) (λ i other. set_there m.busy_at p i s other) (inr parts.0) (λ j other. left.others j (ne_eqb _ _ (λ e. other (e ∙ sym first)))))
      between.apart (λ i. at_each (FrontHolds m.server m.backlog) m.fronts p new i (between.fronts i)
      (λ e. record { listener = (between.fronts p).listener; share = omega (arith, within); own = (between.fronts p).own })))

  -- a report of an end
  pub delivers_end : (p s : ℕ) (name : Name) (rest : List Report) → (m.fronts p).batch ≡ Of s name ∷ rest
      → Kept (Next m (Deliver p)) (makes m (Deliver p) (delivering p (Of s name ∷ rest)))
  delivers_end p s name rest is =
      let d : Deed = record { slot = s; thread = p; own = alone.Deliver ∷ [] } in
      let new : Front = record (m.fronts p) { batch = drop 1 (m.fronts p).batch } in
      let own = and_parts (m.server.owner s == p) (list_all (is_own m.server.owner p) rest) (rw is at (between.fronts p).own) in
      by_deed (Deliver p) d (λ q. besides m (Deliver p) (written m d q)) (λ q ran.
      let left = leaves (slot_of m s) q alone.Deliver refl refl refl ran in
      deed_next m (Deliver p) d (besides m (Deliver p) (written m d q)) q (front_done m (Deliver p) d q (set_to m.fronts p new) m.busy_at left
      (λ t other. same_names m.fronts p new t (m.server.owner t) (λ e. rw (is, ne_eqb s t (λ e. other (sym e))) refl)) (here q (eqb-true _ _ own.0) left))
      (λ t own e. e ∙ ap (λ (rs : List Report). steps_at t (delivering p rs)) (sym is)) ran (λ i. inl (refl, left.others _ refl))
      between.apart (λ i. at_each (FrontHolds m.server m.backlog) m.fronts p new i (between.fronts i)
      (λ e. record { listener = rw is (rw is at (between.fronts p).listener); share = (between.fronts p).share; own = rw is own.1 })))
    where
      here : (q : System) → m.server.owner s ≡ p → Leaves (λ j. false) 1 (slot_of m s) q
          → names_at s (set_to m.fronts p (record (m.fronts p) { batch = drop 1 (m.fronts p).batch }) (m.server.owner s)).batch ≡ q.batch
      here q own left =
          let was : q.batch ≡ drop 1 (names_at s (m.fronts p).batch) = rw own at left.batch in
          let now : q.batch ≡ names_at s rest = rw (is, eq-eqb _ _ refl) at was in
          rw (own, set_here m.fronts p (record (m.fronts p) { batch = drop 1 (m.fronts p).batch }), is) (sym now)

  -- a turn, with the ticket c
  pub begins : (i : ℕ) (from : Option ℕ) (most : ℕ) → thread_rests m i ≡ true → (o : Option Taken) → first_ticket (suits i from) m.tickets ≡ o
      → Kept (Next m (Begin i from most)) (makes m (Begin i from most) (option_map (turn_of m i most) o))
  begins i from most rested None is = kept_none
  begins i from most rested (Some c) is =
      let s = c.ticket.slot in
      let d = turn_of m i most c in
      let only_one : Alone s m.tickets c = taken_here _ _ _ is s refl (between.one_ticket s) in
      by_deed (Begin i from most) d (λ q. besides m (Begin i from most) (written m d q)) (λ q ran.
      let left = leaves_begin (slot_of m s) q (rank_at m s i) most ran in
      let n : Many = record (written m d q) { tickets = c.rest; busy_at = set_to m.busy_at i s } in
      let none : q.tickets ≡ [] = rw only_one.whole at left.2 in
      rw is (deed_next m (Begin i from most) d n q (record {
        server = refl;
        places = λ t. refl;
        names = λ t other. refl;
        names_here = sym left.1;
        tickets = λ t other. taken_there _ _ _ is t other;
        tickets_here = only_one.rest ∙ sym none;
        common = left.0;
      }) (λ t own e. e ∙ ap (λ (o : Option Taken). steps_at t (option_map (turn_of m i most) o)) (sym is)) ran
      (moved m (Begin i from most) d n q i (set_here m.busy_at i s) (λ j other. set_there m.busy_at i j s other) (inr rested) (λ j other. left.3 j (ne_eqb _ _ other)))
      between.apart between.fronts))
