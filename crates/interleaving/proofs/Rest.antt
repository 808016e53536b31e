-- Left alone, the threads come to rest: each step leaves a sound state, which the relay's own steps make lighter.
pub mod Acts
use Rattle.interleaving.{proofs.Runs.{run_on, stage_acts, Programs.{rests_like, some_there}}, specs.{Likeness.{EveryInterleavingIsARun, IsARun, NoActInVain, Settled}, Rest.{HasStopped, LeftAloneItEnds, LeftAloneItRests, client_weight, is_own}, Threads.{Accept, Acts as DoesAct, Begin, Calls, Connect, Deliver, Drop, Network, Open, Poll, Spurious, Step, Sweep, Tick, Vanish, delivers, is_over, poller_rests, resting_thread, rests, run, start, step, watched_by}}}
use Rattle.kernel_model.specs.{Ends.is_nonempty, declared.accepting.Accepting.TheVariants.{Accepted, Blocked}}
use Rattle.relay_core.specs.declared.call.Call.{Call as PairCall}
use Rattle.std.{proofs.{Common.{Vec, ltb-true, nat_lt, option_map, replicate, ◌&&◌, ◌++◌, ◌==◌}, lemmas.{List.length-replicate, Option.{option_and_then_some, slice_get-get_or}}}, specs.{Cmp.{first_so, second_so}, Global.Global, List.{list_all, list_any}}}
use Rattle.token.specs.declared.kind.Kind.TheVariants.{Reset}
use Rattle.world.{proofs.Headline.Ends.Pairs.Holders.{SlotOk, facts, turns_after, worker_closes, worker_holds, Events.{Happens, Ticks, holds_after, Lists.{get-replicate, get-set_other, kept_guard, total_none}}}, specs.{CoreLaws.CoreLaws, Due.{due, due_place, has_ticket, movable}, Headline.ListenerHolds, Slots.{is_by_worker, is_held}, States.{opening, resting_worker as idle_worker}, Steps.change_at, Support.{one as one_if, worker_tickets}, declared.{actors.Holder.{Holder, TheVariants.{By, Free, Nobody}}, event.Event.Event}}}
use denote.RawPtr.{null_ptr}
unfoldable use Rattle.world.specs.Calls.{called}
use Acts.*
use Rattle.kernel_model.specs.declared.reply.Reply.TheVariants as reply
use Rattle.world.specs.Runs as machine_runs

-- Where no step of the relay's own can be made, nothing is half way, and nothing is left to do

-- A program that is half way can go on

registers_on : (st : System) (i : ℕ) (t : Thread) (rest : List Act) (free : ℕ) → st.accepted ≡ true → 1 ≤ free → st.entry < last_generation → registering st i t rest free ≡ None → ⊥
registers_on st i t rest free had some below none = grind (arith, nat_tests)

closes_on : (k : KernelState) (e : Descriptors) (a b : Registered) → end_at k.ends e.client ≡ Some a → end_at k.ends e.target ≡ Some b → e.client ≢ e.target → kernel.close_both k e ≡ None → ⊥
closes_on k e a b one two apart none = grind (arith, get-set_other {X = Option Registered})

calls_on : (now : ℕ) (l : OpenConnection) (call : PairCall) (a : Registered) → next_call l.connection.pair ≡ Some call → end_at l.kernel.ends (descriptor l.connection.ends (side_of call)) ≡ Some a
    → called now l (reply.Failed Reset) ≡ None → ⊥
unfolding called
calls_on now l call a next there none = grind arith

mapped : {X Y : Type 0} (f : X → Y) (o : Option X) → option_map f o ≡ None → o ≡ None
mapped f o none = grind arith

abbrev a_vec : Name → Vec Name Global
a_vec n = record { ptr = null_ptr; len = 1; cap = 1; alloc = record { memory = record { seal = tt } }; items = n ∷ []; ok = (refl, omega arith); small = omega arith }

module _ {l : Limits} {st : System} (sound : Sound l st) (stopped : HasStopped st) where
  module _ (below : l.generation < last_generation) (i : ℕ) (t : Thread) (there : slice_get st.threads i ≡ Some t) where
    -- where no act is left, none could be made
    no_act : {todo : List Act} → t.todo ≡ todo → acts st i t todo ≡ None
    no_act is = rw (there, is) at (stopped (DoesAct i) refl)

    -- each thread rests
    pub no_program : {todo : List Act} → Known st i t todo → t.todo ≡ todo → todo ≡ []
    no_program Nothing is = refl
    no_program (Opening first) is = absurd (
        let had = sound.begun t (subst (λ (k : ℕ). slice_get st.threads k ≡ Some t) first there) is in
        registers_on st i t (drop 1 open_slot) st.free had (sound.some_free had) (sound.unworn below (sound.some_free had)) (no_act is))
    no_program (Calling c out call next) is = absurd (
        let a = some_there (end_at st.kernel.ends (descriptor c.ends (side_of call))) (out.open_ends (side_of call)) in
        calls_on st.second (record { kernel = st.kernel; connection = c }) call a.0 next a.1
        (mapped _ (called st.second (record { kernel = st.kernel; connection = c }) (reply.Failed Reset)) (rw (there, is, out.out) at (stopped (Calls i (reply.Failed Reset)) refl))))
    no_program (Ending c out) is = absurd (
        let a = some_there (end_at st.kernel.ends c.ends.client) (out.open_ends Client) in
        let b = some_there (end_at st.kernel.ends c.ends.target) (out.open_ends Target) in
        let none = no_act {todo = end_acts} is in
        closes_on st.kernel c.ends a.0 b.0 a.1 b.1 (sound.apart c.ends out.ends) (mapped _ (kernel.close_both st.kernel c.ends) (rw out.out at none)))
    no_program known is = let none = no_act is in cc

  -- The poller and the tickets

  module _ (some : 1 ≤ l.workers) (over : (i : ℕ) (t : Thread) → slice_get st.threads i ≡ Some t → t.todo ≡ []) where
    poller : (t : Thread) × (slice_get st.threads 0 ≡ Some t)
    poller = (get_or st.threads 0 resting_thread, slice_get-get_or st.threads 0 resting_thread (omega (arith, sound.count)))

    rests_now : poller_rests st ≡ true
    rests_now = rw (poller.1, over 0 poller.0 poller.1) refl

    pub no_tickets : 4 ≤ l.budget → st.tickets ≡ []
    no_tickets four =
        let none = stopped (Begin 0 4) refl in
        let there = poller.1 in
        let rests = over 0 poller.0 poller.1 in
        let limits = sound.limits in
        grind (arith, nat_tests)

    pub no_batch : st.batch ≡ []
    no_batch = let none = stopped Deliver refl in let rests = rests_now in grind arith

    pub no_queue : st.batch ≡ [] → (queue : List Name) → st.kernel.queue ≡ queue → queue ≡ []
    no_queue empty [] is = refl
    no_queue empty (n ∷ rest) is = let none = rw (rests_now, empty, is, same_self n) at (stopped (Poll (a_vec n)) refl) in cc

    pub no_client : st.accepted ≡ false
    no_client = let none = stopped Drop refl in let rests = rests_now in grind arith

    pub no_clients : st.accepted ≡ false → (st.flag ≡ false → st.kernel.backlog ≡ 0) → (st.kernel.backlog ≡ 0) ⊎ (st.free ≡ 0)
    no_clients accepted down = let none = stopped (Accept Accepted) refl in let rests = rests_now in grind (arith, nat_tests)

-- The machine: each worker rests

idle_all : (ws : List WorkerState) (ts : List Thread) → length ws ≡ length ts → ((j : ℕ) (t : Thread) → slice_get ts j ≡ Some t → slice_get ws j ≡ Some idle_worker)
    → ws ≡ replicate (length ws) idle_worker
idle_all [] ts same each = refl
idle_all (w ∷ ws) [] same each = absurd (omega arith)
idle_all (w ∷ ws) (t ∷ ts) same each =
    let first : w ≡ idle_worker = cc (each 0 t refl) in
    rw first (ap (λ (vs : List WorkerState). idle_worker ∷ vs) (idle_all ws ts (omega arith) (λ j u at. each (suc j) u at)))

any_none : (n : ℕ) (p : WorkerState → Bool) → p idle_worker ≡ false → list_any p (replicate n idle_worker) ≡ false
any_none zero p none = refl
any_none (suc n) p none = rw none (any_none n p none)

counted : (st : State) (e : Event) (q : State) → length st.workers ≡ st.limits.workers → Happens st e q → length q.workers ≡ q.limits.workers
counted st e q h (Ticks n) = h
counted st e q h _ = omega (arith, length-set {A = WorkerState})

pub counted_after : (l : Limits) (events : List Event) (w : State) → machine_runs.run (opening l) events ≡ Some w → length w.workers ≡ w.limits.workers
counted_after l events w ran = holds_after (λ (q : State). length q.workers ≡ q.limits.workers) counted (opening l) w events (length-replicate {A = WorkerState} l.workers idle_worker) ran

-- nothing is due, no note waits but in a slot without a connection, and no client where the accept flag is down
pub record Still (st : System) (w : State) : Type 0 where
  pub due : (s : ℕ) → due w s ≡ false
  pub notes : (st.word.pending ≡ 0) ⊎ (st.ends ≡ None)
  pub waits : st.flag ≡ false → st.kernel.backlog ≡ 0

module _ {l : Limits} (st : System) (sound : Sound l st) (over : (i : ℕ) (t : Thread) → slice_get st.threads i ≡ Some t → t.todo ≡ [])
    (tickets : st.tickets ≡ []) (batch : st.batch ≡ []) (queue : st.kernel.queue ≡ []) where
  settled_still : (p : SlotState) (workers : List WorkerState) → Settled st p workers → let w = machine_of st p st.entry st.tickets workers in
      Turns w → ListenerHolds w → length workers ≡ st.limits.workers → Still st w
  settled_still p workers set turns listens count = record {
    due = not_due;
    notes = by p.holder refl (rw tickets at ok.tickets);
    waits = λ down. let none = rw (batch, queue) at (listens down) in grind (arith, nat_tests);
  }
    where
      idle : workers ≡ replicate (length workers) idle_worker
      idle = idle_all workers st.threads (count ∙ ap (λ (k : Limits). k.workers) sound.limits ∙ sym sound.count)
          (λ j t at. let it = set.threads j t at in it.there ∙ ap Some (rests_like it.like (ap is_over (over j t at))))

      none : (f : WorkerState → ℕ) → f idle_worker ≡ 0 → total f workers ≡ 0
      none f is = ap (total f) idle ∙ total_none f (length workers) idle_worker is

      ok : SlotOk (facts (machine_of st p st.entry st.tickets workers) 0 p.generation) p
      ok = turns.each 0 p refl

      holder : is_by_worker p.holder ≡ false
      holder =
          let holds = sym ok.holding ∙ none (worker_holds 0) refl in
          let closes = sym ok.closing ∙ none (worker_closes 0) refl in
          grind arith

      not_due : (s : ℕ) → due (machine_of st p st.entry st.tickets workers) s ≡ false
      not_due zero = lies p.connection
        where
          lies : (o : Option Connection) → due_place (machine_of st p st.entry st.tickets workers) 0 p o ≡ false
          lies None = refl
          lies (Some c) = rw (holder, queue, batch, tickets) (ap (list_any (has_ticket 0 c.pair.generation)) idle ∙ any_none (length workers) (has_ticket 0 c.pair.generation) refl)
      not_due (suc s) = refl

      by : (h : Holder) → p.holder ≡ h → 0 + (0 + total (worker_tickets 0) workers) ≡ one_if (not (is_held p.holder) && is_nonempty p.notes) → (st.word.pending ≡ 0) ⊎ (st.ends ≡ None)
      by Nobody is made = let now = rw is at made in inl (rw set.word (let zero : one_if (is_nonempty p.notes) ≡ 0 = omega (arith, none (worker_tickets 0) refl) in grind (arith, nat_tests)))
      by (By j) is made = cc (holder)
      by Free is made = inr (set.ends ∙ (let no = rw is at ok.shape in grind arith))

  pub still : (w : State) → Like st w → Turns w → ListenerHolds w → length w.workers ≡ w.limits.workers → Still st w
  still w (IsSettled p workers is set) turns listens count = rw is (settled_still p workers set (rw is at turns) (rw is at listens) (rw is at count))
  -- an opening that is half way has a program
  still w (IsHalfOpen t c workers is half) turns listens count = absurd (let none = ap is_over (over 0 t half.first) in cc (stage_acts half.stage))

-- Each step leaves a sound state, which the relay's own steps make lighter

over_is : (acts : List Act) → is_over acts ≡ true → acts ≡ []
over_is acts over = grind arith

-- when the poller may accept a client
may_accept : (idle flag accepted some : Bool) → (idle && (flag && (not accepted && some))) ≡ true → (flag ≡ true) × (accepted ≡ false) × (some ≡ true)
may_accept idle flag accepted some may = grind arith

module _ {l : Limits} {st : System} (s : Sound l st) where
  -- a step that is not the relay's own
  other : {next : System} → Sound l next → Fine l st false next
  other sound = record { sound = sound; lighter = λ own. absurd (cc) }

  accepts : st.accepted ≡ false → nat_lt 0 st.kernel.backlog ≡ true
      → weight (record st { accepted = true; kernel = record st.kernel { backlog = st.kernel.backlog - 1 } }) + 1 ≤ weight st
  accepts none some = rw none (omega (arith, one_less (1 + client_weight st.limits) st.kernel.backlog (ltb-true _ _ some)))

  delivers_fine : (batch : List Name) → st.batch ≡ batch → Kept (Fine l st true) (delivers st batch)
  delivers_fine [] is = kept_none
  delivers_fine (name.Listener ∷ rest) is = kept_some (record { sound = assumption s; lighter = λ own. rw is (omega arith) })
  delivers_fine (name.Waker ∷ rest) is = kept_some (record { sound = assumption s; lighter = λ own. rw is (omega arith) })
  delivers_fine (name.End n ∷ rest) is = kept_some (chosen (λ (q : System). Fine l st true (record q { batch = rest }))
      ((n.slot == 0) && (st.entry == n.generation)) _ _
      (record { sound = assumption s; lighter = λ own. rw is (omega (arith, posted_weighs st n.generation)) })
      (record { sound = assumption s; lighter = λ own. rw is (omega arith) }))

  -- any step

  fine : ((i : ℕ) (t : Thread) → slice_get st.threads i ≡ Some t → Known st i t t.todo) → NoActInVain st → (x : Step) → Kept (Fine l st (is_own x)) (step st x)
  fine each nothing (Tick n) = kept_guard _ _ (λ may. other (assumption s))
  fine each nothing (Network side change) = kept_bind _ st.ends (λ ends is. kept_map _ (change_at st.kernel (descriptor ends side) change) (λ q may. other (assumption s)))
  fine each nothing Connect = kept_map _ (kernel.connect_in st.kernel) (λ q may. other (assumption s))
  fine each nothing (Spurious who) = kept_bind _ (watched_by st who) (λ what is. kept_map _ (kernel.spurious st.kernel what) (λ q may. other (assumption s)))
  fine each nothing (Vanish who) = kept_bind _ (watched_by st who) (λ what is. kept_map _ (kernel.vanish st.kernel what) (λ q may. other (assumption s)))
  fine each nothing (Accept Accepted) = kept_when _ _ (λ may. kept_over _ (kernel.accept st.kernel Accepted) (kept_guard _ _ (λ some.
      let m = may_accept (poller_rests st) st.flag st.accepted (nat_lt 0 st.free) may in
      let free : true ≡ true → 1 ≤ st.free = λ yes. ltb-true 0 st.free m.2 in
      let turn_begun : (t : Thread) → slice_get st.threads 0 ≡ Some t → t.todo ≡ open_slot → true ≡ true = λ t at opens. refl in
      record { sound = assumption (s, free, turn_begun); lighter = λ own. accepts m.1 some })))
  fine each nothing (Accept Blocked) = kept_when _ _ (λ may. kept_over _ (kernel.accept st.kernel Blocked) (kept_guard _ _ (λ none.
      let m = may_accept (poller_rests st) st.flag st.accepted (nat_lt 0 st.free) may in
      record { sound = assumption s; lighter = λ own. omega (arith, ap one m.0) })))
  fine each nothing (Accept reply) = kept_when _ _ (λ may. kept_some (other s))
  fine each nothing Drop = kept_guard _ _ (λ may.
      let free : false ≡ true → 1 ≤ st.free = λ yes. absurd (cc) in
      let turn_begun : (t : Thread) → slice_get st.threads 0 ≡ Some t → t.todo ≡ open_slot → false ≡ true =
      λ t at opens. (let over : is_over t.todo ≡ true = rw at at (first_so (poller_rests st) _ may) in absurd (cc)) in
      record { sound = assumption (s, free, turn_begun); lighter = λ own. rw (second_so (poller_rests st) st.accepted may) (omega arith) })
  fine each nothing (Poll names) = kept_when (poller_rests st && (length st.batch == 0)) _ (λ may. kept_over _ (kernel.poll st.kernel names.items) (kept_guard _ _ (λ can.
      let parts = and_parts (are_among st.kernel.queue names.items) (are_distinct names.items) (second_so (nat_le (length names.items) 256) _ can) in
      record { sound = assumption s; lighter = λ own. omega (arith, polled names.items st.kernel.queue parts.0 parts.1, ltb-true 0 (length names.items) own) })))
  fine each nothing Deliver = kept_when (poller_rests st) _ (λ may. delivers_fine st.batch refl)
  fine each nothing Sweep = kept_guard _ _ (λ may. other (assumption s))
  fine each nothing Open = kept_bind _ (slice_get st.threads 0) (λ t there. kept_guard _ _ (λ may.
      let parts = and_parts (rests t) st.accepted may in
      goes s 0 t there _ _ refl (assumption s) (λ e. refl) (λ e. parts.1) (λ own. rw (over_is t.todo parts.0) (omega arith))))
  fine each nothing (Begin i most) = kept_bind _ (slice_get st.threads i) (λ t there. kept_when _ _ (λ may.
      begins_fine s i t there most st.tickets refl (over_is t.todo (and_parts _ _ may).0)))
  fine each nothing (DoesAct i) = kept_bind _ _ (λ t there. acts_fine s i t there (each i t there) refl (nothing.finds i t there))
  fine each nothing (Calls i r) = kept_bind _ _ (λ t there. calls_fine s i t there r (each i t there) refl)

-- A list of steps

start_sound : (l : Limits) → Sound l (start l)
start_sound l = record {
  base = record { limits = refl; apart = λ e is. absurd (cc); some_free = λ yes. absurd (cc); unworn = λ below some. below };
  count = length-replicate {A = Thread} l.workers resting_thread;
  begun = λ t at opens. (let same : resting_thread ≡ t = get-replicate l.workers 0 resting_thread t at in cc);
}

module _ (core : CoreLaws) (laws : EveryInterleavingIsARun) (l : Limits) (alone : l.slots ≡ 1) where
  pub known_in : (steps : List Step) (st : System) → IsARun l steps st → (i : ℕ) (t : Thread) → slice_get st.threads i ≡ Some t → Known st i t t.todo
  known_in steps st r i t there = known st i t r.world r.like (turns_after core l r.made r.world r.allowed) (λ c lies. (r.holds.bytes 0 c lies).open_ends) there

  went : (before steps : List Step) (st next : System) → run (start l) before ≡ Some st → Sound l st → run st steps ≡ Some next
      → Sound l next × (list_all is_own steps ≡ true → length steps + weight next ≤ weight st)
  went before [] st next ran sound led = let same : st ≡ next = cc in rw (← same) (sound, λ own. omega arith)
  went before (x ∷ steps) st next ran sound led = option_and_then_some _ _ _ led (λ q is rest.
      let r = laws l before st alone ran in
      let it = kept_at _ _ is (fine sound (known_in before st r) r.nothing x) in
      let more = went (before ++ x ∷ []) steps q next (run_on before (x ∷ []) (start l) st ran ∙ rw is refl) it.sound rest in
      (more.0, λ own. (let parts = and_parts _ _ own in omega (arith, it.lighter parts.0, more.1 parts.1))))

  from_start : (steps : List Step) (st : System) → run (start l) steps ≡ Some st → Sound l st
  from_start steps st ran = (went [] steps (start l) st refl (start_sound l) ran).0

pub comes_to_rest : CoreLaws → EveryInterleavingIsARun → LeftAloneItEnds
comes_to_rest core laws l before own st next alone ran are led = (went core laws l alone before own st next ran (from_start core laws l alone before st ran) led).1 are

pub at_rest : CoreLaws → EveryInterleavingIsARun → LeftAloneItRests
at_rest core laws l steps st alone some below four ran stopped =
    let r = laws l steps st alone ran in
    let sound = from_start core laws l alone steps st ran in
    let over : (i : ℕ) (t : Thread) → slice_get st.threads i ≡ Some t → t.todo ≡ [] = λ i t at.
    no_program sound stopped below i t at (known_in core laws l alone steps st r i t at) refl in
    let batch = no_batch sound stopped some over in
    let queue = no_queue sound stopped some over batch st.kernel.queue refl in
    let accepted = no_client sound stopped some over in
    let tickets = no_tickets sound stopped some over four in
    let last = still st sound over tickets batch queue r.world r.like (turns_after core l r.made r.world r.allowed) r.holds.listener (counted_after l r.made r.world r.allowed) in
    record {
      run = r;
      programs = over;
      tickets = tickets;
      batch = batch;
      queue = queue;
      accepted = accepted;
      clients = no_clients sound stopped some over accepted last.waits;
      notes = last.notes;
      due = last.due;
      movable = λ s. let due = r.holds.due s in let none = last.due s in grind arith;
    }
