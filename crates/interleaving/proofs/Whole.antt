-- A whole server, left alone, comes to rest: each of its own steps makes it lighter.
use Rattle.claims.specs.Words.{one}
use Rattle.interleaving.{proofs.{Rest.Acts.Weights.{most_at, one_less, polled as left_queue}, Runs.run_on, Slots.{Reached, between, first, goes, next, reach, Steps.{Next, Stood, queued, queued_rest, set_here, set_there, stood, turn_of}}}, specs.{Likeness.EveryInterleavingIsARun, Rest.{LeftAloneItEnds, client_weight, most}, Slots.{Accept, Acts, Begin, Calls, Deed, Deliver, Drop, Front, Listener, Many, Of, Open, Poll, Put, Report, Sees, Server, Step, Taken, Ticket, Waker, accept_answered, are_queued, besides, deed, delivering, first_ticket, in_hand, is_listener, makes, may, may_take_one, names_at, one_slot, opening_at_slot, polled, rank_at, thread_rests, run, set_to, shared, slot_of, start, step, steps_at, suits, tickets_at, set_front, written}, Threads.System, Whole.{LeftAloneServersEnd, accepted_weight, front_weight, hand_weight, is_own_of_server, is_waker, report_weight, wakes_in, server_weight}}}
use Rattle.kernel_model.specs.{Kernel.reported, Names.without_names, declared.accepting.Accepting.{Accepting, TheVariants.{Accepted, Again, Blocked, Starved}}}
use Rattle.std.{proofs.{Common.{Bool, List, None, Option, Some, [], ap, arith, drop, eq-eqb, false, if◌then◌else◌, inl, inr, length, length-append, ltb-true, map, nat_le, nat_lt, ne_eqb, not, option_map, refl, suc, sym, true, zero, ℕ, ◌&&◌, ◌*◌, ◌++◌, ◌+◌, ◌-◌, ◌<◌, ◌==◌, ◌∙◌, ◌∷◌, ◌≡◌, ◌≢◌, ◌≤◌, ◌⊎◌}, lemmas.{Bool.{and_parts, cases_eq, not-true}, List.length-drop, Option.{option_and_then_some, same_Some}}}, specs.{Cmp.second_so, List.{list_all, list_any}}}
use Rattle.token.specs.declared.name.Name.{Name, TheVariants.Listener as listener_name}
use Rattle.world.{proofs.Headline.Ends.Pairs.Holders.Events.Lists.{Kept, kept_at, kept_guard, kept_map, kept_none, kept_over, kept_some, kept_when, total_le, total_push}, specs.{Calls.when, States.numbers_below, Support.total}}
use Rattle.interleaving.specs.Threads as alone
use Rattle.interleaving.specs.Rest as slot

-- Totals over the numbers below n

same_below : (n : ℕ) (f g : ℕ → ℕ) → ((i : ℕ) → i < n → f i ≡ g i) → total f (numbers_below n) ≡ total g (numbers_below n)
same_below zero f g same = refl
same_below (suc n) f g same =
    let rest = same_below n f g (λ i less. same i (omega arith)) in
    let this = same n (omega arith) in
    omega (arith, total_push f (numbers_below n) n, total_push g (numbers_below n) n)

-- of functions that differ at one number
differs_at : (n k : ℕ) (f g : ℕ → ℕ) → k < n → ((i : ℕ) → i ≢ k → f i ≡ g i) → total f (numbers_below n) + g k ≡ total g (numbers_below n) + f k
differs_at zero k f g below same = absurd (omega arith)
differs_at (suc n) k f g below same = elim (cases_eq n k) [
  | inl e ↦ (let rest = same_below n f g (λ i less. same i (λ at. absurd (omega arith))) in
      rw (← e) (omega (arith, total_push f (numbers_below n) n, total_push g (numbers_below n) n)))
  | inr other ↦ (let rest = differs_at n k f g (omega arith) same in let this = same n other in
      omega (arith, total_push f (numbers_below n) n, total_push g (numbers_below n) n))
]

total_both : (n : ℕ) (f g : ℕ → ℕ) → total (λ i. f i + g i) (numbers_below n) ≡ total f (numbers_below n) + total g (numbers_below n)
total_both zero f g = refl
total_both (suc n) f g =
    let rest = total_both n f g in
    omega (arith, total_push f (numbers_below n) n, total_push g (numbers_below n) n, total_push (λ i. f i + g i) (numbers_below n) n)

-- Tickets in hands

hands_more : (s i : ℕ) (ts : List Ticket) (gs : List ℕ) → total hand_weight (ts ++ map (in_hand s i) gs) ≡ total hand_weight ts + length gs
hands_more s i [] [] = refl
hands_more s i [] (g ∷ gs) = let rest = hands_more s i [] gs in omega arith
hands_more s i (t ∷ ts) gs = let rest = hands_more s i ts gs in omega arith

total_append : {X : Type 0} (f : X → ℕ) (xs ys : List X) → total f (xs ++ ys) ≡ total f xs + total f ys
total_append f [] ys = omega arith
total_append f (x ∷ xs) ys = omega (arith, total_append f xs ys)

-- the weight is split
taken_weighs : {test : Ticket → Bool} {ts : List Ticket} {c : Taken} → Stood test ts c
    → total hand_weight c.rest + hand_weight c.ticket ≡ total hand_weight ts
taken_weighs {c = c} it =
    let rest = total_append hand_weight it.before it.after in
    let whole = total_append hand_weight it.before (c.ticket ∷ it.after) in
    omega (arith, ap (total hand_weight) it.rest, ap (total hand_weight) it.whole)

-- Reports

abbrev is_end : Report → ℕ
is_end (Of s name) = 1
is_end r = 0

-- what a poll leaves of the listener's report, and what it gives
reports_weigh : (m : Many) (p : ℕ) (rs : List Report) → are_queued m p rs ≡ true → let was = (m.fronts p).reported in
    (3 * one (was && not (list_any is_listener rs)) + total report_weight rs) + length rs ≤ (3 * one was + total is_end rs) + 2 * total is_waker rs
reports_weigh m p [] h = grind arith
reports_weigh m p (Listener ∷ rs) h = let rest = reports_weigh m p rs (queued_rest m p Listener rs h) in grind arith
reports_weigh m p (r ∷ rs) h = let rest = reports_weigh m p rs (queued_rest m p r rs h) in omega arith

-- the names that slots of the poller p get
abbrev given : Many → ℕ → List Report → ℕ → ℕ
given m p rs s = if m.server.owner s == p then length (names_at s rs) else 0

ends_given : (m : Many) (p : ℕ) (rs : List Report) → are_queued m p rs ≡ true → total is_end rs ≤ total (given m p rs) (numbers_below m.server.limits.slots)
ends_given m p [] h = omega arith
ends_given m p (Of t name ∷ rs) h =
    let within = and_parts _ _ (and_parts _ _ h).0 in
    let rest = ends_given m p rs (queued_rest m p (Of t name) rs h) in
    let apart = differs_at m.server.limits.slots t (given m p (Of t name ∷ rs)) (given m p rs) (ltb-true _ _ within.0)
    (λ i other. rw (ne_eqb t i (λ e. other (sym e))) refl) in
    let this : given m p (Of t name ∷ rs) t ≡ suc (given m p rs t) = rw (within.1, eq-eqb _ _ refl) refl in
    omega arith
ends_given m p (r ∷ rs) h = let rest = ends_given m p rs (queued_rest m p r rs h) in omega arith

-- One slot

poll_weighs : (st : System) (names : List Name) → length (without_names names st.kernel.queue) + length names ≤ length st.kernel.queue
    → slot.weight (record st { batch = names; kernel = record st.kernel { queue = without_names names st.kernel.queue } }) + length names ≤ slot.weight st
poll_weighs st names less = omega arith

one_reported : (queue : List Name) (b : Bool) → length (reported queue listener_name b) ≤ length queue + 1
one_reported queue b = grind (arith, length-append {A = Name})

-- a client that connects at the slot
connects_weigh : (st : System) → Kept (λ (q : System). slot.weight q ≤ slot.weight st + ((1 + client_weight st.limits) + 17)) (alone.step st alone.Connect)
connects_weigh st = kept_over _ _ (kept_guard _ _ (λ few. omega (arith, one_reported st.kernel.queue st.kernel.armed)))

-- One step

module _ (law : EveryInterleavingIsARun) (ends : LeftAloneItEnds) (server : Server) (inside : (s : ℕ) → server.owner s < server.limits.workers) where
  module _ (m : Many) (r : Reached server m) where
    abbrev A : ℕ
    A = accepted_weight m.server.limits

    abbrev slots_of : Many → ℕ
    slots_of n = total (λ s. slot.weight (slot_of n s)) (numbers_below m.server.limits.slots)

    abbrev fronts_of : (ℕ → Front) → ℕ
    fronts_of f = total (λ p. front_weight m.server.limits (f p)) (numbers_below m.server.limits.workers)

    abbrev Lighter : Step → Many → Type 0
    Lighter x n = Next m x n → server_weight n + 1 ≤ server_weight m + 2 * wakes_in x

    front_changed : (p : ℕ) (new : Front) → p < m.server.limits.workers
        → fronts_of (set_to m.fronts p new) + front_weight m.server.limits (m.fronts p) ≡ fronts_of m.fronts + front_weight m.server.limits new
    front_changed p new below =
        differs_at m.server.limits.workers p (λ i. front_weight m.server.limits (set_to m.fronts p new i)) (λ i. front_weight m.server.limits (m.fronts i)) below
        (λ i other. ap (front_weight m.server.limits) (set_there m.fronts p i new other))
        ∙ ap (λ (f : Front). fronts_of m.fronts + front_weight m.server.limits f) (set_here m.fronts p new)

    is_thread : (i : ℕ) → thread_rests m i ≡ true → i < m.server.limits.workers
    is_thread i rested = ltb-true _ _ (and_parts _ _ rested).0

    -- a step that each slot sees as these steps
    abbrev IsAt : Step → (ℕ → List alone.Step) → Type 0
    IsAt x at = (s : ℕ) (own : List alone.Step) → Sees m s x own → own ≡ at s

    same_at : (x : Step) (n : Many) → Next m x n → (at : ℕ → List alone.Step) → IsAt x at → (s : ℕ) → alone.run (slot_of m s) (at s) ≡ Some (slot_of n s)
    same_at x n it at is s = let own = is s (it.each s).own (it.each s).sees in rw own at (it.each s).leads

    -- a step at no slot
    slots_same : (x : Step) (n : Many) → Next m x n → IsAt x (λ s. []) → slots_of n ≡ slots_of m
    slots_same x n it none = same_below m.server.limits.slots _ _ (λ s below. ap slot.weight (sym (same_Some _ _ (same_at x n it (λ s. []) none s))))

    module _ (x : Step) (n : Many) (d : Deed) (q : System) (it : Next m x n) (is : IsAt x (λ s. steps_at s (Some d))) (ran : alone.run (slot_of m d.slot) d.own ≡ Some q)
        (within : nat_lt d.slot m.server.limits.slots ≡ true) where
      become : q ≡ slot_of n d.slot
      become = same_Some _ _ (sym ran ∙ rw (eq-eqb _ _ refl) at (same_at x n it (λ s. steps_at s (Some d)) is d.slot))

      -- its slot gives up a and gets b, and no other changes
      slots_lighter : (a b : ℕ) → slot.weight q + a ≤ slot.weight (slot_of m d.slot) + b → slots_of n + a ≤ slots_of m + b
      slots_lighter a b less =
          let apart = differs_at m.server.limits.slots d.slot (λ s. slot.weight (slot_of n s)) (λ s. slot.weight (slot_of m s)) (ltb-true _ _ within)
          (λ s other. ap slot.weight (sym (stays s other))) in
          omega (arith, apart, less, ap slot.weight become)
        where
          stays : (s : ℕ) → s ≢ d.slot → slot_of m s ≡ slot_of n s
          stays s other = same_Some _ _ (rw (ne_eqb d.slot s (λ e. other (sym e))) at (same_at x n it (λ s. steps_at s (Some d)) is s))

      -- by one own step of the slot
      one_lighter : list_all slot.is_own d.own ≡ true → length d.own ≡ 1 → slots_of n + 1 ≤ slots_of m + 0
      one_lighter are one_step =
          let less = ends (one_slot server.limits d.slot) (r.own d.slot) d.own (slot_of m d.slot) q refl (r.leads d.slot) are ran in
          slots_lighter 1 0 (omega (arith, less, one_step))

      -- it makes at most one ticket
      made_few : total hand_weight (written m d q).tickets ≤ total hand_weight m.tickets + 1
      made_few =
          let few : length (tickets_at d.slot n.tickets) ≤ 1 = (between law server inside n (reach law server inside m x n r it)).one_ticket d.slot in
          let same : length q.tickets ≡ length (tickets_at d.slot n.tickets) = ap (λ (st : System). length st.tickets) become in
          let k = length (tickets_at d.slot m.tickets) in
          omega (arith, hands_more d.slot d.thread m.tickets (drop k q.tickets), length-drop k q.tickets)

    -- one own step of a slot, which may make a ticket
    by_one : (x : Step) (d : Deed) (made : System → Many) → IsAt x (λ s. steps_at s (Some d)) → list_all slot.is_own d.own ≡ true → length d.own ≡ 1
        → ((q : System) → slots_of (made q) + 1 ≤ slots_of m + 0
        → total hand_weight (written m d q).tickets ≤ total hand_weight m.tickets + 1 → server_weight (made q) + 1 ≤ server_weight m + 2 * wakes_in x)
        → Kept (Lighter x) (when (nat_lt d.slot m.server.limits.slots) (option_map made (alone.run (slot_of m d.slot) d.own)))
    by_one x d made is are one_step leads = kept_when _ _ (λ within. kept_map _ _ (λ q ran it.
        leads q (one_lighter x (made q) d q it is ran within are one_step) (made_few x (made q) d q it is ran within)))

    -- the next act or call of a thread
    threads : (x : Step) (i : ℕ) (own : List alone.Step) → let d : Deed = record { slot = m.busy_at i; thread = i; own = own } in
        IsAt x (λ s. steps_at s (Some d)) → list_all slot.is_own own ≡ true → length own ≡ 1
        → Kept (Lighter x) (when (nat_lt d.slot m.server.limits.slots) (option_map (λ (q : System). written m d q) (alone.run (slot_of m d.slot) own)))
    threads x i own is are one_step =
        let d : Deed = record { slot = m.busy_at i; thread = i; own = own } in
        by_one x d (λ q. written m d q) is are one_step (λ q slots hands. omega (arith, slots, hands))

    -- one front and the backlog
    fronts_only : (x : Step) (p : ℕ) (new : Front) (b : ℕ) → p < m.server.limits.workers → IsAt x (λ s. [])
        → ((1 + A) * b + front_weight m.server.limits new) + 1 ≤ (1 + A) * m.backlog + front_weight m.server.limits (m.fronts p)
        → Lighter x (record (set_front m p new) { backlog = b })
    fronts_only x p new b below none less it =
        omega (arith, slots_same x (record (set_front m p new) { backlog = b }) it none, front_changed p new below, less)

    opens : (p s : ℕ) → may m (Open p s) ≡ true → Kept (Lighter (Open p s)) (makes m (Open p s) (deed m (Open p s)))
    opens p s allowed = kept_when _ _ (λ within. kept_map _ _ (λ q ran it.
        let d : Deed = record { slot = s; thread = p; own = opening_at_slot } in
        let n = besides m (Open p s) (written m d q) in
        let slots = slots_lighter (Open p s) n d q it (λ t own e. e) ran within 3 ((1 + client_weight m.server.limits) + 17) (opened q ran) in
        let hands = made_few (Open p s) n d q it (λ t own e. e) ran within in
        let had : (m.fronts p).accepted ≡ true = second_so _ _ (second_so _ _ allowed) in
        let fronts = front_changed p (record (m.fronts p) { accepted = false; opened = (m.fronts p).opened + 1 }) (is_thread p (and_parts _ _ allowed).0) in
        omega (arith, slots, hands, rw had at fronts)))
      where
        opened : (q : System) → alone.run (slot_of m s) opening_at_slot ≡ Some q → slot.weight q + 3 ≤ slot.weight (slot_of m s) + ((1 + client_weight m.server.limits) + 17)
        opened q ran = option_and_then_some (λ (st : System). alone.run st (drop 1 opening_at_slot)) (alone.step (slot_of m s) alone.Connect) q ran (λ st is rest.
            let before = run_on (r.own s) (alone.Connect ∷ []) (alone.start (one_slot server.limits s)) (slot_of m s) (r.leads s) ∙ rw is refl in
            let less = ends (one_slot server.limits s) (r.own s ++ alone.Connect ∷ []) (drop 1 opening_at_slot) st q refl before refl rest in
            let more = kept_at _ _ is (connects_weigh (slot_of m s)) in
            omega (arith, less, more, most_at (most length) m.server.limits.lead.own s []))

    -- a report of the batch
    delivers : (p : ℕ) → p < m.server.limits.workers → (batch : List Report) → (m.fronts p).batch ≡ batch → Kept (Lighter (Deliver p)) (makes m (Deliver p) (delivering p batch))
    delivers p below [] is = rw is kept_none
    delivers p below (Listener ∷ rest) is = rw is (kept_some (fronts_only (Deliver p) p (record (m.fronts p) { flag = true; batch = rest }) m.backlog below
        (λ s own e. rw is at e) (rw is (omega arith))))
    delivers p below (Waker ∷ rest) is = rw is (kept_some (fronts_only (Deliver p) p (record (m.fronts p) { batch = rest }) m.backlog below (λ s own e. rw is at e) (rw is (omega arith))))
    delivers p below (Of s name ∷ rest) is =
        let d : Deed = record { slot = s; thread = p; own = alone.Deliver ∷ [] } in
        let sees : IsAt (Deliver p) (λ t. steps_at t (Some d)) = λ t own e. e ∙ ap (λ (rs : List Report). steps_at t (delivering p rs)) is in
        let new : Front = record (m.fronts p) { batch = drop 1 (m.fronts p).batch } in
        let weighs : front_weight m.server.limits new ≡ front_weight m.server.limits (m.fronts p) = rw is (omega arith) in
        by_one (Deliver p) d (λ q. besides m (Deliver p) (written m d q)) sees refl refl (λ q slots hands. omega (arith, slots, hands, front_changed p new below, weighs))

    -- a turn, with the ticket c
    begins : (i : ℕ) (from : Option ℕ) (most : ℕ) → nat_le 4 most ≡ true → (o : Option Taken) → first_ticket (suits i from) m.tickets ≡ o
        → Kept (Lighter (Begin i from most)) (makes m (Begin i from most) (option_map (turn_of m i most) o))
    begins i from most four None is = kept_none
    begins i from most four (Some c) is =
        let d = turn_of m i most c in
        let sees : IsAt (Begin i from most) (λ t. steps_at t (Some d)) = λ t own e. e ∙ ap (λ (o : Option Taken). steps_at t (option_map (turn_of m i most) o)) is in
        by_one (Begin i from most) d (λ q. besides m (Begin i from most) (written m d q)) sees (rw four refl) refl (λ q slots hands.
        rw is (omega (arith, rw is at slots, taken_weighs (stood (suits i from) m.tickets c is))))

    puts : (i s : ℕ) → Kept (Lighter (Put i s)) (shared m (Put i s))
    puts i s = kept_map _ (first_ticket (suits i (Some s)) m.tickets) (λ c is it.
        let taken = stood (suits i (Some s)) m.tickets c is in
        let slots = slots_same (Put i s) (record m { tickets = c.rest ++ record c.ticket { hand = None } ∷ [] }) it (λ t own e. e) in
        let held : hand_weight c.ticket ≡ 1 = (let fits = taken.passes in grind arith) in
        omega (arith, slots, held, total_push hand_weight c.rest (record c.ticket { hand = None }), taken_weighs taken))

    accepts : (p : ℕ) (reply : Accepting) → slot.is_settled reply ≡ true → p < m.server.limits.workers
        → may_take_one m.server p (m.fronts p) ≡ true → Kept (Lighter (Accept p reply)) (accept_answered m p reply)
    accepts p Accepted own below can =
        let f = m.fronts p in
        let none : f.accepted ≡ false = not-true f.accepted (and_parts _ _ (second_so _ _ can)).0 in
        kept_guard _ _ (λ some. fronts_only (Accept p Accepted) p (record f { accepted = true }) (m.backlog - 1) below (λ s own e. e)
        (rw none (omega (arith, one_less (1 + A) m.backlog (ltb-true _ _ some)))))
    accepts p Blocked own below can =
        let f = m.fronts p in
        let up = second_so f.listens f.flag (and_parts (f.listens && f.flag) _ can).0 in
        kept_guard (m.backlog == 0) _ (λ none. fronts_only (Accept p Blocked) p (record f { flag = false; armed = true }) m.backlog below (λ s own e. e) (rw up (omega arith)))
    accepts p Again own below can = cc
    accepts p Starved own below can = cc

    polls : (p : ℕ) (reports : List Report) → 0 < length reports → p < m.server.limits.workers → Kept (Lighter (Poll p reports)) (shared m (Poll p reports))
    polls p reports some below = kept_guard _ _ (λ h it.
        let queued_ok : are_queued m p reports ≡ true = second_so _ _ (second_so _ _ h) in
        let each = total_le (λ s. slot.weight (slot_of (polled m p reports) s) + given m p reports s) (λ s. slot.weight (slot_of m s)) (numbers_below m.server.limits.slots) (weighs queued_ok) in
        let both = total_both m.server.limits.slots (λ s. slot.weight (slot_of (polled m p reports) s)) (given m p reports) in
        let ends = ends_given m p reports queued_ok in
        let new : Front = record (m.fronts p) { batch = reports; reported = (m.fronts p).reported && not (list_any is_listener reports) } in
        omega (arith, each, both, ends, front_changed p new below, reports_weigh m p reports queued_ok, some))
      where
        weighs : are_queued m p reports ≡ true → (s : ℕ) → slot.weight (slot_of (polled m p reports) s) + given m p reports s ≤ slot.weight (slot_of m s)
        weighs h s = by (m.server.owner s == p) refl
          where
            by : (b : Bool) → (m.server.owner s == p) ≡ b → slot.weight (slot_of (polled m p reports) s) + given m p reports s ≤ slot.weight (slot_of m s)
            by true own =
                let q = queued m p s reports h in
                let less = poll_weighs (slot_of m s) (names_at s reports) (left_queue (names_at s reports) (m.places s).kernel.queue q.0 q.1) in
                rw own less
            by false other = rw other (omega arith)

    lighter : (x : Step) → is_own_of_server x ≡ true → Kept (Lighter x) (step m x)
    lighter (Poll p reports) own = kept_when _ _ (λ rested. polls p reports (ltb-true _ _ own) (is_thread p rested))
    lighter (Deliver p) own = kept_when _ _ (λ rested. delivers p (is_thread p rested) (m.fronts p).batch refl)
    lighter (Accept p reply) own = kept_when _ _ (λ rested. kept_when _ _ (λ may. accepts p reply own (is_thread p rested) may))
    lighter (Drop p) own = kept_when _ _ (λ rested. kept_guard _ _ (λ had.
        fronts_only (Drop p) p (record (m.fronts p) { accepted = false }) m.backlog (is_thread p rested) (λ s own e. e) (rw had (omega arith))))
    lighter (Open p s) own = kept_when _ _ (λ may. opens p s may)
    lighter (Begin i from most) own = kept_when _ _ (λ rested. begins i from most own (first_ticket (suits i from) m.tickets) refl)
    lighter (Put i s) own = puts i s
    lighter (Acts i) own = threads (Acts i) i (alone.Acts (rank_at m (m.busy_at i) i) ∷ []) (λ t own e. e) refl refl
    lighter (Calls i reply) own = threads (Calls i reply) i (alone.Calls (rank_at m (m.busy_at i) i) reply ∷ []) (λ t own e. e) (rw own refl) refl
    lighter x own = absurd (cc)

  -- A list of steps

  rests_on : (own : List Step) (m next : Many) → Reached server m → list_all is_own_of_server own ≡ true → run m own ≡ Some next
      → length own + server_weight next ≤ server_weight m + 2 * total wakes_in own
  rests_on [] m next_ r are ran = rw (← same_Some _ _ ran) (omega arith)
  rests_on (x ∷ xs) m to r are ran = option_and_then_some _ _ _ ran (λ n is rest.
      let parts = and_parts _ _ are in
      let it : Next m x n = kept_at {P = Next m x} (step m x) n is (next m (between law server inside m r) x) in
      let less = kept_at {P = Lighter m r x} (step m x) n is (lighter m r x parts.0) it in
      let more = rests_on xs n to (reach law server inside m x n r it) parts.1 rest in
      omega arith)

pub every_server : EveryInterleavingIsARun → LeftAloneItEnds → LeftAloneServersEnd
every_server law ends server before own m to inside ran are led =
    rests_on law ends server inside own m to (goes law server inside before (start server) m (first law server inside) ran).reached are led
