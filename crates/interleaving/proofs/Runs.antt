-- What holds after any list of steps, and what no thread ever finds.
pub mod Programs
use Rattle.world.{specs.{declared.limits.Limits.Limits, Headline.EveryRunHolds, CoreLaws.CoreLaws, States.{opening, unused as unused_place}}, proofs.Headline.Ends.Pairs.Holders.{Events.{holds_after, Lists.{get-replicate, get_beside}}, turns_after, turns_on}}
use Rattle.interleaving.specs.{Likeness.{EveryInterleavingIsARun, EveryStepIsFollowed, NoActInVain, exchanges, taken_word}, Threads.{ProgramsAreThese, gone, resting_thread, run, start}}
use Rattle.std.proofs.lemmas.Option.{option_and_then_some, same_Some}
use Programs.*

-- The programs are the server's acts

pub programs_are_these : ProgramsAreThese
programs_are_these = record {
  busy = refl;
  gone = λ other woke. grind arith;
  quiet = λ woke. grind arith;
  again = λ woke. grind arith;
  ended = λ slot_given. grind arith;
  opening = refl;
}

module _ (st : System) (p : SlotState) (workers : List WorkerState) (set : Settled st p workers) (turns : Turns (machine_of st p st.entry st.tickets workers)) where
  finds_settled : {i : ℕ} {t : Thread} {k : WorkerState} {todo : List Act} → slice_get workers i ≡ Some k → ThreadLike st.limits.budget st.place p i t k todo
      → Finds st.word st.place t.generation todo
  finds_settled {i} {t} {k} had (Tries least is) =
      let wait = waiting (machine_of st p st.entry st.tickets workers) i k (ticket t.generation) p had (rw is refl) refl turns in
      rw (set.word, wait.holder) refl
  finds_settled had (IsHolder c more held is (Holds at least all some)) =
      (c, at, own_generation (facts (machine_of st p st.entry st.tickets workers) 0 p.generation) p c ((turns.each 0 p refl).connection c held.there).stands ∙ held.generation)
  finds_settled had (IsHolder c more held is (HasOut at out least all some)) = rw set.word (some_notes p.notes ∙ some)
  finds_settled {t = t} had (IsHolder c more held is (Goes at out least)) =
      by_plan (Finds st.word st.place t.generation) t.left c.pair (λ live none. at) (λ live call next spent. at) (λ live call next left. tt) (λ over. tt)
  finds_settled had like = tt

  -- any step, where no opening is half way
  follows_settled : (s : Step) → Kept (Follows [] (made_all (kinds_in st s) st.word) (machine_of st p st.entry st.tickets workers) s) (step st s)
  follows_settled Deliver = reports set
  follows_settled Sweep = sweeps set
  follows_settled Open = kept_bind _ _ (λ t there. kept_guard _ _ (λ r.
      let it = set.threads 0 t there in
      begins_opening st p workers set 0 t there it.worker it.there refl it.like (and_parts _ _ r).0))
  follows_settled (Begin i most) = kept_bind _ _ (λ t there.
      let it = set.threads i t there in
      begins_turn st p workers set i t there it.worker it.there it.like most)
  follows_settled (Acts i) = kept_bind _ _ (λ t there.
      let it = set.threads i t there in
      rw there (thread_acts st p workers set i t there it.worker it.there turns it.like))
  follows_settled (Calls i r) = kept_bind _ _ (λ t there.
      let it = set.threads i t there in
      thread_calls st p workers set i t there it.worker it.there it.like r)
  follows_settled s = beyond (settled_frame set) s refl

-- Where an opening is half way, the poller's thread alone acts, and the machine makes no event

module _ {word : WordState} {place : Option Connection} {entry : ℕ} {t : Thread} {c : Connection} where
  pub stage_acts : {todo : List Act} → Stage word place entry t c todo → is_over todo ≡ false
  stage_acts (Registered notes is at out) = refl
  stage_acts stage = refl

  stage_calls : {todo : List Act} (st : System) (r : Reply) → Stage word place entry t c todo → calls st 0 t r todo ≡ None
  stage_calls st r (Registered notes is at out) = refl
  stage_calls st r stage = refl

  stage_finds : {todo : List Act} → Stage word place entry t c todo → Finds word place t.generation todo
  stage_finds (Registered notes is at out) = rw is refl
  stage_finds (Emptied is at out own) = at
  stage_finds stage = tt

module _ (st : System) (t : Thread) (c : Connection) (workers : List WorkerState) (half : HalfOpen st t c workers) where
  abbrev half_world : State
  half_world = machine_of st (opened_slot t.generation c) t.generation (t.generation ∷ []) workers

  -- the next stage
  stays_half : {before own : List Exchange} (new : WordState) (place : Option Connection) (entry : ℕ) (u : Thread) → u.generation ≡ t.generation → Stage new place entry u c u.todo
      → before ≡ own ++ left_of u.todo new
      → Follows before own half_world (Acts 0) (with_thread (record st { word = new; place = place; entry = entry }) 0 u)
  stays_half {before} {own} new place entry u same stage words = record {
    events = [];
    world = half_world;
    like = IsHalfOpen u c workers (rw same refl)
        (assumption (get-set_same st.threads 0 t u half.first, after_set st.threads workers u half.others, stage));
    shows = λ more. rw (words, append_assoc own);
  }

  -- the slot is released, and the opening is over
  leaves_half : st.word ≡ taken_word 1 → st.place ≡ Some c → st.entry ≡ t.generation
      → Follows (left_of (Release ∷ []) st.word) (exchange_made word.release st.word ∷ []) half_world (Acts 0) (with_thread (released st t.generation) 0 (then_acts t []))
  leaves_half is at own = rw (is, half.tickets) (record {
    events = [];
    world = half_world;
    like = IsSettled (opened_slot t.generation c) workers (rw own refl)
        (settled half.ends refl (λ yes. at) (λ i u there. over i u there (cases_eq i 0)));
    shows = λ more. refl;
  })
    where
      over : (i : ℕ) (u : Thread) → slice_get (slice_set st.threads 0 (then_acts t [])) i ≡ Some u → (i ≡ 0) ⊎ (i ≢ 0)
          → WorkerFor st.limits.budget st.place (opened_slot t.generation c) workers i u
      over i u there (inl first) =
          let it : u ≡ then_acts t [] = cc (get-set_same st.threads 0 t (then_acts t []) half.first) in
          record { worker = idle_worker; there = rw first half.worker; like = rw it (Rests refl) }
      over i u there (inr other) =
          let rest = after_set st.threads workers (then_acts t []) half.others i u other there in
          record { worker = idle_worker; there = rest.1; like = rw rest.0 (Rests refl) }

  goes_half : {todo : List Act} → Stage st.word st.place st.entry t c todo → Kept (Follows (left_of todo st.word) (made_all (first_kinds todo) st.word) half_world (Acts 0)) (acts st 0 t todo)
  goes_half (Registered notes is at out) = rw is (kept_some (stays_half (taken_word notes) st.place st.entry (then_acts t (drop 2 open_slot)) refl (Adopted notes refl at out) refl))
  goes_half (Adopted notes is at out) = kept_some (stays_half st.word st.place t.generation (then_acts t (drop 3 open_slot)) refl (Entered notes is at out refl) refl)
  goes_half (Entered notes is at out own) = rw is (kept_some (stays_half (taken_word 0) st.place st.entry (then_acts t (drop 4 open_slot)) refl (Emptied refl at out own) refl))
  goes_half (Emptied is at out own) = kept_some (stays_half st.word t.out st.entry (record t { out = None; todo = drop 5 open_slot }) refl (Placed is out own) refl)
  goes_half (Placed is at own) = rw is (kept_some (stays_half (taken_word 1) st.place st.entry (then_acts t (drop 6 open_slot)) refl (Posted refl at own) refl))
  goes_half (Posted is at own) = kept_some (leaves_half is at own)

  poller_acts : {X : Type 0} → poller_rests st ≡ true → X
  poller_acts b = cc (half.first, stage_acts half.stage)

  -- any other thread rests
  this_or_over : (i : ℕ) (u : Thread) → slice_get st.threads i ≡ Some u → ((i ≡ 0) × (u ≡ t)) ⊎ (u.todo ≡ [])
  this_or_over i u there = elim (cases_eq i 0) [ inl first ↦ inl (first, cc half.first) | inr other ↦ inr (half.others i u other there).0 ]

  follows_half : (s : Step) → Kept (Follows (left_of t.todo st.word) (made_all (kinds_in st s) st.word) half_world s) (step st s)
  follows_half Deliver = kept_when _ _ (λ b. poller_acts b)
  follows_half Sweep = kept_guard _ _ (λ b. poller_acts (and_parts _ _ b).0)
  follows_half Open = kept_bind _ (slice_get st.threads 0) (λ u there. kept_guard _ _ (λ b. poller_acts (rw there (and_parts (rests u) st.accepted b).0)))
  follows_half (Begin i most) = kept_bind _ (slice_get st.threads i) (λ u there. kept_when (rests u && nat_le most st.limits.budget) _ (λ b. rw half.tickets kept_none))
  follows_half (Acts i) = kept_bind _ (slice_get st.threads i) (λ u there. rw there (elim (this_or_over i u there) [
    | inl it ↦ rw (it.0, it.1) (goes_half half.stage)
    | inr over ↦ rw over kept_none
  ]))
  follows_half (Calls i r) = kept_bind _ (slice_get st.threads i) (λ u there. elim (this_or_over i u there) [
    | inl it ↦ rw (it.0, it.1, stage_calls st r half.stage) kept_none
    | inr over ↦ rw over kept_none
  ])
  follows_half s = beyond (half_frame half) s refl

  finds_half : (i : ℕ) (u : Thread) → slice_get st.threads i ≡ Some u → Finds st.word st.place u.generation u.todo
  finds_half i u there = elim (this_or_over i u there) [ inl it ↦ rw it.1 (stage_finds half.stage) | inr over ↦ rw over tt ]

follows : (st : System) (w : State) (like : Like st w) → Turns w → (s : Step) → Kept (Follows (ahead st w like) (made_all (kinds_in st s) st.word) w s) (step st s)
follows st w (IsSettled p workers is set) turns s = rw is (follows_settled st p workers set (rw is at turns) s)
follows st w (IsHalfOpen t c workers is half) turns s = rw is (follows_half st t c workers half s)

-- No act is in vain: besides, there is one ticket at most, and the slot is free once at most

count_tickets : (xs : List ℕ) → total (of_slot 0) (map ticket xs) ≡ length xs
count_tickets [] = refl
count_tickets (x ∷ xs) = let rest = count_tickets xs in omega arith

pub count_free : (n : ℕ) → total (is_number 0) (replicate {A = ℕ} n zero) ≡ n
count_free zero = refl
count_free (suc n) = let rest = count_free n in omega arith

one_at_most : (b : Bool) → one b ≤ 1
one_at_most b = grind arith

few : (st : System) (p : SlotState) (entry : ℕ) (ts : List ℕ) (workers : List WorkerState) → Turns (machine_of st p entry ts workers)
    → (length ts ≤ 1) × (st.free ≤ 1)
few st p entry ts workers turns =
    let sv = turns.each 0 p refl in
    let a = one_at_most (not (is_held p.holder) && is_nonempty p.notes) in
    let b = one_at_most (is_free p.holder) in
    let c = count_tickets ts in
    let d = count_free st.free in
    (omega arith, omega arith)

no_act_in_vain : (st : System) (w : State) → Like st w → Turns w → NoActInVain st
no_act_in_vain st w (IsSettled p workers is set) turns =
    let now : Turns (machine_of st p st.entry st.tickets workers) = rw is at turns in
    let least = few st p st.entry st.tickets workers now in
    record { finds = λ i t there. let it = set.threads i t there in finds_settled st p workers set now it.there it.like; one_ticket = least.0; free_once = least.1 }
no_act_in_vain st w (IsHalfOpen t c workers is half) turns = record {
  finds = λ i u there. finds_half st t c workers half i u there;
  one_ticket = rw half.tickets (omega arith);
  free_once = (few st (opened_slot t.generation c) t.generation (t.generation ∷ []) workers (rw is at turns)).1;
}

-- A list of steps

pub run_on : (steps more : List Step) (st mid : System) → run st steps ≡ Some mid → run st (steps ++ more) ≡ run mid more
run_on [] more st mid ran = ap (λ (q : System). run q more) (same_Some _ _ ran)
run_on (s ∷ steps) more st mid ran = option_and_then_some (λ (q : System). run q steps) (step st s) mid ran (λ q is rest. rw is (run_on steps more q mid rest))

record Ran (st : System) (w : State) (before : List Exchange) (steps : List Step) (to : System) : Type 0 where
  pub events : List Event
  pub world : State
  pub like : Like to world
  pub shows : shown before w events ≡ (Some world, flat_map visible_of steps, exchanges st steps ++ ahead to world like)

went_on : {before : List Exchange} {w : State} {st q to : System} (s : Step) (steps : List Step) → step st s ≡ Some q → (f : Follows before (made_all (kinds_in st s) st.word) w s q)
    → Ran q f.world (ahead q f.world f.like) steps to → Ran st w before (s ∷ steps) to
went_on {st = st} s steps is f r = record {
  events = f.events ++ r.events;
  world = r.world;
  like = r.like;
  shows = rw (is, append_assoc) (f.shows r.events ∙ ap (after_step s (made_all (kinds_in st s) st.word)) r.shows);
}

went : (laws : CoreLaws) (steps : List Step) (w : State) (st to : System) (like : Like st w) → Turns w → run st steps ≡ Some to → Ran st w (ahead st w like) steps to
went laws [] w st to like turns ran =
    let same : st ≡ to = cc in
    rw (← same) (record { events = []; world = w; like = like; shows = rw append-nil })
went laws (s ∷ steps) w st to like turns ran = option_and_then_some _ _ _ ran (λ q is rest.
    let f : Follows (ahead st w like) (made_all (kinds_in st s) st.word) w s q = kept_at _ _ is (follows st w like turns s) in
    let led : machine_runs.run w f.events ≡ Some f.world = rw append-nil at (ap (λ (x : Shown). x.0) (f.shows [])) in
    let now = holds_after Turns (λ v e u. turns_on laws v) w f.world f.events turns led in
    went_on s steps is f (went laws steps f.world q to f.like now rest))

-- from the opening

at_first : (l : Limits) → l.slots ≡ 1 → Like (start l) (opening l)
at_first l one = IsSettled (unused_place l.generation) (replicate l.workers idle_worker) (rw one refl) (settled refl refl (λ yes. refl) (λ i t there.
    let same = get-replicate l.workers i resting_thread t there in
    record { worker = idle_worker; there = get_beside l.workers i resting_thread t idle_worker there; like = rw (← same) (Rests refl) }))

pub every_interleaving : CoreLaws → EveryRunHolds → EveryInterleavingIsARun
unfolding at_first
every_interleaving laws holds l steps st one ran =
    let first = opening l in
    let r : Ran (start l) first [] steps st = went laws steps first (start l) st (at_first l one) (turns_after laws l [] first refl) ran in
    let led : machine_runs.run first r.events ≡ Some r.world = ap (λ (x : Shown). x.0) r.shows in
    let nothing = no_act_in_vain st r.world r.like (turns_after laws l r.events r.world led) in
    record {
      made = r.events;
      world = r.world;
      allowed = led;
      like = r.like;
      visible = ap (λ (x : Shown). x.1) r.shows;
      words = ap (λ (x : Shown). x.2) r.shows;
      holds = holds l r.events r.world led;
      nothing = nothing;
    }

-- one step

pub every_step : CoreLaws → EveryStepIsFollowed
every_step laws = record {
  begins = at_first;
  follows = λ l before w st q was s led is.
      let f : Follows (ahead st w was) (made_all (kinds_in st s) st.word) w s q =
      kept_at {P = Follows (ahead st w was) (made_all (kinds_in st s) st.word) w s} (step st s) q is (follows st w was (turns_after laws l before w led) s) in
      let shows = rw (append-nil f.events, append-nil (visible_of s), append-nil (ahead q f.world f.like)) at (f.shows []) in
      record {
        made = f.events;
        world = f.world;
        allowed = ap (λ (x : Shown). x.0) shows;
        like = f.like;
        visible = ap (λ (x : Shown). x.1) shows;
        words = ap (λ (x : Shown). x.2) shows;
      };
}
