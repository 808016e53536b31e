-- Each slot of a server can be looked at alone.
pub mod Steps
use Rattle.interleaving.{proofs.Runs.run_on, specs.{Likeness.EveryInterleavingIsARun, Slots.{Accept, Acts, AllStandApart, Calls, Network, Poll, Put, SeesAll, SlotsStandApart, Spurious, Sweep, Tick, Vanish, may, polled, run, shared, start, step, unqueued}, Threads.resting_thread}}
use Rattle.std.{proofs.{Common.{Vec, le-leb, leb-true, replicate, subst, ◌-◌}, lemmas.Option.option_and_then_some}, specs.{Global.Global, Prelude.IfSome}}
use denote.RawPtr.{null_ptr}
use Steps.*
use Rattle.world.specs.declared.event.Reported.TheVariants as reported

-- names as a poll gives them
vec_of : (names : List Name) → length names ≤ 256 → (v : Vec Name Global) × (v.items ≡ names)
vec_of names few =
    let alloc : Global = record { memory = record { seal = tt } } in
    (record { ptr = null_ptr; len = length names; cap = length names; alloc = alloc; items = names; ok = (refl, omega arith); small = omega arith }, refl)

kept_of : {X : Type 0} {P : X → Type 0} (o : Option X) → ((x : X) → o ≡ Some x → P x) → Kept P o
kept_of None each = kept_none
kept_of (Some x) each = kept_some (each x refl)

-- Steps at no slot that change what pollers know and have

abbrev is_shared : Step → Bool
is_shared (Poll p reports) = false
is_shared (Put i s) = false
is_shared x = true

module _ (m n : Many) where
  shared_stays : (x : Step) → is_shared x ≡ true → shared m x ≡ Some n → (i s : ℕ) → (n.server ≡ m.server) × (n.places ≡ m.places) × (n.tickets ≡ m.tickets) × (n.busy_at ≡ m.busy_at)
      × (names_at s (n.fronts i).batch ≡ names_at s (m.fronts i).batch)
  shared_stays x is made i s = grind (arith, nat_tests)

  shared_holds : (x : Step) → is_shared x ≡ true → shared m x ≡ Some n → (i : ℕ) → FrontHolds m.server m.backlog i (m.fronts i)
      → FrontHolds n.server n.backlog i (n.fronts i)
  shared_holds (Accept p Accepted) is made i holds =
      let was = holds.listener in
      record { listener = grind (arith, nat_tests); share = grind (arith, nat_tests); own = grind (arith, nat_tests) }
  shared_holds x is made i holds =
      record { listener = grind (arith, nat_tests); share = grind (arith, nat_tests); own = grind (arith, nat_tests) }

module _ (m : Many) (between : Between m) where
  -- a step that is at no slot
  quiet : (x : Step) (n : Many) → n.server ≡ m.server → ((s : ℕ) → Sees m s x []) → ((s : ℕ) → slot_of n s ≡ slot_of m s) → Apart n → FrontsHold n → Next m x n
  quiet x n server is same apart fronts = record { server = server; each = λ s. record { own = []; sees = is s; leads = ap Some (sym (same s)) }; apart = apart; fronts = fronts }

  shares : (x : Step) → is_shared x ≡ true → ((s : ℕ) → Sees m s x []) → Kept (Next m x) (shared m x)
  shares x is sees = kept_of (shared m x) (λ n made.
      let same = shared_stays m n x is made in
      let server = (same 0 0).0 in
      let place = λ (s : ℕ). ap (λ (f : ℕ → System). f s) (same 0 0).1 in
      let busy = λ (i : ℕ). ap (λ (f : ℕ → ℕ). f i) (same 0 0).3 in
      quiet x n server sees
      (λ s. framed m n s server (place s) (same (m.server.owner s) s).4 (ap (tickets_at s) (same 0 0).2))
      (λ i s some other. rw (server, place s) (between.apart i s (rw server at some) (λ e. other (e ∙ sym (busy i)))))
      (λ i. shared_holds m n x is made i (between.fronts i)))

  delivers : (p : ℕ) (batch : List Report) → (m.fronts p).batch ≡ batch → Kept (Next m (Deliver p)) (makes m (Deliver p) (delivering p batch))
  delivers p (Of s name ∷ rest) is = delivers_end m between p s name rest is
  delivers p batch is = shares (Deliver p) refl (λ s. rw is refl)

  puts : (i s : ℕ) → Kept (Next m (Put i s)) (shared m (Put i s))
  puts i s = kept_map _ _ (λ c is.
      let n : Many = record m { tickets = c.rest ++ record c.ticket { hand = None } ∷ [] } in
      quiet (Put i s) n refl (λ t. refl) (λ t. framed m n t refl refl refl (same c is t (cases_eq t c.ticket.slot))) between.apart between.fronts)
    where
      same : (c : Taken) → first_ticket (suits i (Some s)) m.tickets ≡ Some c → (t : ℕ) → (t ≡ c.ticket.slot) ⊎ (t ≢ c.ticket.slot)
          → tickets_at t (c.rest ++ record c.ticket { hand = None } ∷ []) ≡ tickets_at t m.tickets
      same c is t (inl here) =
          let it : Alone t m.tickets c = taken_here _ _ _ is t (sym here) (between.one_ticket t) in
          tickets_append t c.rest _ ∙ rw (it.rest, eq-eqb _ _ (sym here)) (sym it.whole)
      same c is t (inr other) = tickets_append t c.rest _ ∙ rw (ne_eqb c.ticket.slot t (λ e. other (sym e))) (append-nil (tickets_at t c.rest))
          ∙ taken_there _ _ _ is t other

  -- a poll

  same_threads : (b : Bool) (place : System) (names : List Name) → (if b then unqueued place names else place).threads ≡ place.threads
  same_threads b place names = grind arith

  module _ (p : ℕ) (reports : List Report) (rested : thread_rests m p ≡ true) (few : length reports ≤ 256) (empty : (m.fronts p).batch ≡ []) (asked : are_queued m p reports ≡ true) where
    -- the poller has no program at its slots
    idle : (s : ℕ) → m.server.owner s ≡ p → (s ≡ m.busy_at p) ⊎ (s ≢ m.busy_at p) → rests_at (slice_get (m.places s).threads 0) ≡ true
    idle s own (inl here) =
        let first : rank (m.server.owner (m.busy_at p)) p ≡ 0 = rw (← here, own) (rank_first p) in
        let now = rw first at (second_so (nat_lt p m.server.limits.workers) _ rested) in
        rw here now
    idle s own (inr other) =
        let first : rank (m.server.owner s) p ≡ 0 = rw own (rank_first p) in
        let some : p < m.server.limits.workers = rw own at (between.inside s) in
        let now = rw first at (between.apart p s some other) in
        now

    polls_at : (s : ℕ) → (m.server.owner s ≡ p) ⊎ (m.server.owner s ≢ p) → AtSlot m (Poll p reports) (polled m p reports) s
    polls_at s (inl own) =
        let least = fewer_names s reports in
        let fewer : length (names_at s reports) ≤ 256 = omega arith in
        let q = queued m p s reports asked in
        let idle_now = idle s own (cases_eq s (m.busy_at p)) in
        let given = vec_of (names_at s reports) fewer in
        record {
          own = alone.Poll given.0 ∷ [];
          sees = rw (eq-eqb _ _ own) (given.0, given.1, refl);
          leads = rw (own, empty, idle_now, given.1, le-leb _ _ fewer, q.0, q.1, eq-eqb _ _ refl) refl;
        }
    polls_at s (inr other) = record {
      own = [];
      sees = rw (ne_eqb _ _ other) refl;
      leads = ap Some (sym (framed m (polled m p reports) s refl (rw (ne_eqb _ _ other) refl)
          (same_names m.fronts p _ s (m.server.owner s) (λ e. absurd (other e))) refl));
    }

    polled_next : Next m (Poll p reports) (polled m p reports)
    polled_next =
        let f = m.fronts p in
        let was = rw empty at (between.fronts p).listener in
        record {
          server = refl;
          each = λ s. polls_at s (cases_eq (m.server.owner s) p);
          apart = λ i s some other. rw (same_threads (m.server.owner s == p) (m.places s) (names_at s reports)) (between.apart i s some other);
          fronts = λ i. at_each (FrontHolds m.server m.backlog) m.fronts p _ i (between.fronts i)
              (λ e. record { listener = grind arith; share = (between.fronts p).share; own = own_reports m p reports asked });
        }

  polls : (p : ℕ) (reports : List Report) → thread_rests m p ≡ true → Kept (Next m (Poll p reports)) (shared m (Poll p reports))
  polls p reports rested = kept_guard _ _ (λ h.
      let few = and_parts _ _ h in
      let parts = and_parts _ _ few.1 in
      polled_next p reports rested (leb-true _ _ few.0) (nil_from_length _ (eqb-true _ _ parts.0)) parts.1)

  -- any step

  pub next : (x : Step) → Kept (Next m x) (step m x)
  next (Tick s n) = by_still m between (Tick s n) _ (λ t own e. e) (λ q. leaves (slot_of m s) q (alone.Tick n) refl refl refl)
  next (Network s side change) = by_still m between (Network s side change) _ (λ t own e. e) (λ q. leaves (slot_of m s) q (alone.Network side change) refl refl refl)
  next (Spurious s side) = by_still m between (Spurious s side) _ (λ t own e. e) (λ q. leaves (slot_of m s) q (alone.Spurious (reported.End 0 side)) refl refl refl)
  next (Vanish s side) = by_still m between (Vanish s side) _ (λ t own e. e) (λ q. leaves (slot_of m s) q (alone.Vanish (reported.End 0 side)) refl refl refl)
  next (Poll p reports) = kept_when _ _ (λ rested. polls p reports rested)
  next (Deliver p) = kept_when _ _ (λ rested. delivers p (m.fronts p).batch refl)
  next (Sweep p s) = kept_when (may m (Sweep p s)) _ (λ h. by_still m between (Sweep p s) _ (λ t own e. e) (λ q. leaves (slot_of m s) q alone.Sweep refl refl refl))
  next (Open p s) = kept_when _ _ (λ h. opens m between p s h)
  next (Begin i from most) = kept_when _ _ (λ rested. begins m between i from most rested (first_ticket (suits i from) m.tickets) refl)
  next (Put i s) = puts i s
  next (Acts i) = by_thread m between (Acts i) i _ (λ t own e. e) (λ q. leaves (slot_of m (m.busy_at i)) q (alone.Acts (rank_at m (m.busy_at i) i)) refl refl refl)
  next (Calls i r) = by_thread m between (Calls i r) i _ (λ t own e. e) (λ q. leaves (slot_of m (m.busy_at i)) q (alone.Calls (rank_at m (m.busy_at i) i) r) refl refl refl)
  next x = kept_when (may m x) (shared m x) (λ rested. shares x refl (λ s. refl))

-- What a slot has seen

-- a state that steps lead to
pub record Reached (server : Server) (m : Many) : Type 0 where
  pub same : m.server ≡ server
  pub own : ℕ → List alone.Step
  pub leads : (s : ℕ) → alone.run (alone.start (one_slot server.limits s)) (own s) ≡ Some (slot_of m s)
  pub apart : Apart m
  pub fronts : FrontsHold m

-- what the slot s has seen of these steps
pub record Seen (m : Many) (steps : List Step) (to : Many) (s : ℕ) : Type 0 where
  pub own : List alone.Step
  pub sees : SeesAll m s steps own
  pub leads : alone.run (slot_of m s) own ≡ Some (slot_of to s)

pub record Went (server : Server) (m : Many) (steps : List Step) (to : Many) : Type 0 where
  pub reached : Reached server to
  pub each : (s : ℕ) → Seen m steps to s

rests_first : (n i : ℕ) → i < n → rests_at (slice_get (replicate n resting_thread) i) ≡ true
rests_first zero i some = absurd (omega arith)
rests_first (suc n) zero some = refl
rests_first (suc n) (suc i) some = rests_first n i (omega arith)

rank_below : (n p i : ℕ) → p < n → i < n → rank p i < n
rank_below n p i below some = grind (arith, nat_tests)

module _ (law : EveryInterleavingIsARun) (server : Server) (inside : (s : ℕ) → server.owner s < server.limits.workers) where
  pub between : (m : Many) → Reached server m → Between m
  between m r = record {
    inside = λ s. rw r.same (inside s);
    one_ticket = λ s. (law (one_slot server.limits s) (r.own s) (slot_of m s) refl (r.leads s)).nothing.one_ticket;
    apart = r.apart;
    fronts = r.fronts;
  }

  pub reach : (m : Many) (x : Step) (n : Many) → Reached server m → Next m x n → Reached server n
  reach m x n r it = record {
    same = it.server ∙ r.same;
    own = λ s. r.own s ++ (it.each s).own;
    leads = λ s. run_on (r.own s) (it.each s).own _ (slot_of m s) (r.leads s) ∙ (it.each s).leads;
    apart = it.apart;
    fronts = it.fronts;
  }

  pub goes : (steps : List Step) (m to : Many) → Reached server m → run m steps ≡ Some to → Went server m steps to
  goes [] m to r ran = rw (← same_Some _ _ ran) (record { reached = r; each = λ s. record { own = []; sees = refl; leads = refl } })
  goes (x ∷ xs) m to r ran = option_and_then_some _ _ _ ran (λ n is rest.
      let it : Next m x n = kept_at {P = Next m x} (step m x) n is (next m (between m r) x) in
      let w : Went server n xs to = goes xs n to (reach m x n r it) rest in
      let after = λ (s : ℕ). subst (λ (o : Option Many). IfSome o (λ (n : Many). SeesAll n s xs (w.each s).own)) (sym is) (w.each s).sees in
      record {
        reached = w.reached;
        each = λ s. record {
          own = (it.each s).own ++ (w.each s).own;
          sees = ((it.each s).own, (w.each s).own, refl, (it.each s).sees, after s);
          leads = run_on (it.each s).own (w.each s).own (slot_of m s) (slot_of n s) (it.each s).leads ∙ (w.each s).leads;
        };
      })

  pub first : Reached server (start server)
  first = record {
    same = refl;
    own = λ s. [];
    leads = λ s. refl;
    apart = λ i s some other. rests_first server.limits.workers (rank (server.owner s) i) (rank_below server.limits.workers (server.owner s) i (inside s) some);
    fronts = λ p. record { listener = refl; share = omega arith; own = refl };
  }

  stand : (steps : List Step) (m : Many) → run (start server) steps ≡ Some m → AllStandApart server steps m
  stand steps m ran =
      let w = goes steps (start server) m first ran in
      let r = w.reached in
      record {
        slots = λ s. record {
          own = (w.each s).own;
          sees = (w.each s).sees;
          leads = (w.each s).leads;
          run = law (one_slot server.limits s) (w.each s).own (slot_of m s) refl (w.each s).leads;
          lead = λ g. refl;
        };
        pollers = λ p. let f = m.fronts p in let h = r.fronts p in record {
          listener = λ on down. (let was = h.listener in grind arith);
          share = let least = h.share in omega arith;
        };
        one_place = λ i s some other. rw r.same at (r.apart i s (rw r.same some) other);
      }

pub every_slot : EveryInterleavingIsARun → SlotsStandApart
every_slot law server steps m inside ran = stand law server inside steps m ran
