-- What a thread does leaves a sound state, which its own steps make lighter: each act of its program, and each call.
pub mod Weights
pub use Rattle.claims.specs.Words.{WordState, some_wait}
pub use Rattle.interleaving.{proofs.Runs.{count_free, Programs.{PairCall, by_plan, chosen}}, specs.{Likeness.{Adopted, Emptied, Entered, Finds, Goes, HasClosed, HasOut, HasRetired, Holds, IsHalfOpen, IsHolder, IsSettled, Leaves, Like, Opens, Placed, Posted, Registered as IsRegistered, Rests, Stage, Stays, ThreadLike, Tries, machine_of, opened_slot}, Rest.{calls_to_come, poller_weight, program_weight, slot_weight, thread_weight, ticket_weight, weight}, Threads.{Act, Call, System, Thread, acts, again, turn_begun, calls, end_acts, then_acts, notes_heard, open_slot, plan, planned, note_posted, quiet, registering, released, taken_out, taking, turn, with_thread}}}
pub use Rattle.relay_core.specs.Idle.{expired, is_overdue, timed_out}
pub use Rattle.std.{proofs.{Common.{ap, drop, eq-eqb, inl, inr, leb-false, nat_le, subst, sym, ◌<◌, ◌∙◌, ◌≢◌, ◌⊎◌}, lemmas.{Bool.cases_eq, List.length-set}}, specs.Prelude.IsSome}
pub use Rattle.token.specs.{Names.last_generation, declared.side.Side.{Side, TheVariants.{Client, Target}}}
pub use Rattle.world.{proofs.Headline.Ends.Pairs.Holders.{Turns, Events.Lists.{at_one, kept_none, kept_some, opened_here, opened_other}}, specs.{Headline.end_there, Slots.{SlotState, WorkerState}, States.State, Steps.{connection_at, is_worn, token_of}, declared.connection.Connection.Connection}}
pub use Weights.*

-- Which programs there are

-- its connection is out, and both ends of that are open
pub record IsOut (st : System) (t : Thread) (c : Connection) : Type 0 where
  pub out : t.out ≡ Some c
  pub ends : st.ends ≡ Some c.ends
  pub open_ends : (side : Side) → IsSome (end_at st.kernel.ends (descriptor c.ends side))

-- The programs of the thread i, which is t, that are half way, and no others, with what each needs: the poller opens; no
-- slot is free while one is entered; a call is left; and the slot that is given has its entry in the table
pub data Known (st : System) (i : ℕ) (t : Thread) : List Act → Type 0 where
  Nothing : Known st i t []
  Opening : i ≡ 0 → Known st i t open_slot
  Adopting : Known st i t (drop 1 open_slot)
  Entering : st.free ≡ 0 → Known st i t (drop 2 open_slot)
  Discarding : Known st i t (drop 3 open_slot)
  Posting : Known st i t (drop 1 again)
  Releasing : Known st i t (drop 1 quiet)
  Claiming : Known st i t turn
  TakingOut : Known st i t (drop 1 turn)
  Taking : (c : Connection) → t.out ≡ Some c → Known st i t (drop 2 turn)
  Calling : (c : Connection) → IsOut st t c → (call : PairCall) → next_call c.pair ≡ Some call → Known st i t (Call ∷ [])
  Resting : Known st i t quiet
  Spending : Known st i t again
  Ending : (c : Connection) → IsOut st t c → Known st i t end_acts
  Retiring : Known st i t (drop 1 end_acts)
  Giving : t.generation ≡ st.entry → Known st i t (drop 2 end_acts)

module _ (st : System) (i : ℕ) (t : Thread) where
  known_thread : {budget : ℕ} {place : Option Connection} {p : SlotState} {k : WorkerState} {todo : List Act} → p.generation ≡ st.entry
      → ((c : Connection) → p.connection ≡ Some c → t.out ≡ Some c → IsOut st t c) → ThreadLike budget place p i t k todo → Known st i t todo
  known_thread entry out (Rests is) = Nothing
  known_thread entry out (Opens first is) = Opening first
  known_thread entry out (Tries least is) = Claiming
  known_thread entry out (IsHolder c more held is (Holds at least all some)) = TakingOut
  known_thread entry out (IsHolder c more held is (HasOut at has least all some)) = Taking c has
  known_thread entry out (IsHolder c more held is (Goes at has least)) = let o = out c held.there has in
      by_plan (Known st i t) t.left c.pair (λ live none. Resting) (λ live call next spent. Spending) (λ live call next left. Calling c o call next) (λ over. Ending c o)
  known_thread entry out (IsHolder c more held is (Stays at live)) = Posting
  known_thread entry out (IsHolder c more held is (Leaves at may)) = Releasing
  known_thread entry out (HasClosed held at is) = Retiring
  known_thread entry out (HasRetired own is) = Giving (sym own ∙ entry)

  known_stage : {word : WordState} {place : Option Connection} {entry : ℕ} {u : Thread} {c : Connection} {todo : List Act} → st.free ≡ 0 → Stage word place entry u c todo
      → Known st i t todo
  known_stage free (IsRegistered notes is at out) = Adopting
  known_stage free (Adopted notes is at out) = Entering free
  known_stage free (Entered notes is at out own) = Discarding
  known_stage free (Emptied is at out own) = Spending
  known_stage free (Placed is at own) = Posting
  known_stage free (Posted is at own) = Releasing

  pub known : (w : State) → Like st w → Turns w → ((c : Connection) → connection_at w 0 ≡ Some c → (side : Side) → IsSome (end_there w c side)) → slice_get st.threads i ≡ Some t
      → Known st i t t.todo
  known w (IsSettled p workers is set) turns opens there =
      let now : Turns (machine_of st p st.entry st.tickets workers) = rw is at turns in
      let entry : Some st.entry ≡ Some p.generation = (now.each 0 p refl).entry in
      let at = rw is at opens in
      known_thread (cc entry) (λ c lies has. record { out = has; ends = rw (set.ends, lies) refl; open_ends = at c lies }) (set.threads i t there).like
  known w (IsHalfOpen first c workers is half) turns opens there = by (cases_eq i 0)
    where
      now : Turns (machine_of st (opened_slot first.generation c) first.generation (first.generation ∷ []) workers)
      now = rw is at turns

      by : (i ≡ 0) ⊎ (i ≢ 0) → Known st i t t.todo
      by (inl this) =
          let same : t ≡ first = cc half.first in
          let stage : Stage st.word st.place st.entry first c t.todo = rw same half.stage in
          known_stage (omega (arith, (now.each 0 (opened_slot first.generation c) refl).gone, count_free st.free)) stage
      by (inr other) = rw (half.others i t other there).0 Nothing

-- What is sound

-- All but the threads: the slot's two descriptors differ; a slot is free for an accepted client, and has a generation left
pub record Base (l : Limits) (st : System) : Type 0 where
  pub limits : st.limits ≡ l
  pub apart : (e : Descriptors) → st.ends ≡ Some e → e.client ≢ e.target
  pub some_free : st.accepted ≡ true → 1 ≤ st.free
  pub unworn : l.generation < last_generation → 1 ≤ st.free → st.entry < last_generation

-- and the poller opens only with an accepted client
pub record Sound (l : Limits) (st : System) : Type 0 where
  pub base : Base l st
  pub open base use *
  pub count : length st.threads ≡ l.workers
  pub begun : (t : Thread) → slice_get st.threads 0 ≡ Some t → t.todo ≡ open_slot → st.accepted ≡ true

-- The step from st to `next` left a sound state, which is lighter if the step is the relay's own
pub record Fine (l : Limits) (st : System) (own : Bool) (next : System) : Type 0 where
  pub sound : Sound l next
  pub lighter : own ≡ true → weight next + 1 ≤ weight st

-- all but the threads
abbrev others_weight : System → ℕ
others_weight st = kernel_weight st.limits st.kernel + (poller_weight st + slot_weight st)

two_ends : (k : KernelState) (client target : EndName) → client.side ≡ Client → target.side ≡ Target
    → (kernel.open_both k client target).told.client ≢ (kernel.open_both k client target).told.target
two_ends k client target this that same =
    let first = (kernel.open_end k client).value in
    let a : Registered = record { token = client; socket = opened client.side } in
    let b : Registered = record { token = target; socket = opened target.side } in
    let still = opened_other first.ends (lowest_free k.ends) b (opened_here k.ends a) in
    let both : a ≡ b = cc (still, opened_here first.ends b) in
    let sides : Client ≡ Target = sym this ∙ (ap (λ (r : Registered). r.token.side) both ∙ that) in
    cc

side_is : (side : Side) (g : ℕ) (n : EndName) → token_of 0 side g ≡ Some n → n.side ≡ side
side_is side g n is = grind (arith, common_steps)

-- What weighs

spent_none : (left : ℕ) → spent_weight left 0 ≡ 0
spent_none left = grind (arith, nat_tests)

spent_more : (left m n : ℕ) → m ≤ n → spent_weight left m ≤ spent_weight left n
spent_more left m n more = grind (arith, nat_tests)

-- a turn that goes on comes to its end, and posts if its calls are spent
plan_weighs : (left : ℕ) (p : PairState) (c : Connection) → c.pair ≡ p → program_weight (plan left p) + spent_weight left (calls_to_come (plan left p) (Some c)) ≤ rest_weight left p
plan_weighs left p c is = by_plan (λ todo. program_weight todo + spent_weight left (calls_to_come todo (Some c)) ≤ rest_weight left p) left p
    (λ live none. rw live (omega (arith, spent_none left)))
    (λ live call next spent. let some = some_left p call next in let full : spent_weight left (calls_left p) ≡ post_weight = grind (arith, nat_tests) in
    rw live (omega (arith, spent_none left)))
    (λ live call next more. rw (live, is) (omega arith)) (λ over. rw over (omega (arith, spent_none left)))

planned_weighs : (st : System) (t : Thread) (left : ℕ) (c : Connection) → thread_weight (planned st t left c) ≤ rest_weight left c.pair + pair_weight c.pair
planned_weighs st t left c =
    let p = expired st.second st.limits.idle c.pair in
    let same = by (is_overdue st.second st.limits.idle c.pair) in
    omega (arith, plan_weighs left p (record c { pair = p }) refl, same.0, same.1)
  where
    by : (b : Bool) → let p = if b then timed_out c.pair else c.pair in (pair_weight p ≡ pair_weight c.pair) × (rest_weight left p ≤ rest_weight left c.pair)
    by b = let most = rest_most left c.pair in grind arith

pub posted_weighs : (st : System) (g : ℕ) → slot_weight (note_posted st g) ≤ slot_weight st + post_weight
posted_weighs st g = grind (arith, length-append {A = ℕ})

released_weighs : (st : System) (g : ℕ) → slot_weight (released st g) ≤ slot_weight st + ticket_weight
released_weighs st g = grind (arith, length-append {A = ℕ})

-- A step of one thread

not_opening : {X : Type 0} (left : ℕ) (p : PairState) → plan left p ≡ open_slot → X
not_opening {X} left p = by_plan (λ todo. todo ≡ open_slot → X) left p (λ _ _ e. absurd (cc)) (λ _ _ _ _ e. absurd (cc)) (λ _ _ _ _ e. absurd (cc)) (λ _ e. absurd (cc))

module _ {l : Limits} {st : System} (s : Sound l st) (i : ℕ) (t : Thread) (there : slice_get st.threads i ≡ Some t) where
  -- the thread becomes u, and gives up more than comes of it
  pub goes : {own : Bool} (q : System) (u : Thread) → q.threads ≡ slice_set st.threads i u → Base l q → (i ≢ 0 → q.accepted ≡ st.accepted) → (u.todo ≡ open_slot → q.accepted ≡ true)
      → (own ≡ true → others_weight q + (thread_weight u + 1) ≤ others_weight st + thread_weight t) → Fine l st own q
  goes q u is base same opens less = record {
    sound = record { base = base; count = ap (λ (ts : List Thread). length ts) is ∙ length-set st.threads i u ∙ s.count; begun = λ v at. by v (at_one st.threads 0 there is at) };
    lighter = λ own. rw is (omega (arith, total-set thread_weight st.threads i t u there, less own));
  }
    where
      by : (v : Thread) → ((0 ≡ i) × (v ≡ u)) ⊎ ((0 ≡ i → ⊥) × (slice_get st.threads 0 ≡ Some v)) → v.todo ≡ open_slot → q.accepted ≡ true
      by v (inl it) begins = opens (rw it.1 at begins)
      by v (inr it) begins = same (λ e. it.0 (sym e)) ∙ s.begun v it.1 begins

  -- the notes pay for the turn's calls and its end
  takes : (c : Connection) → t.out ≡ Some c → t.todo ≡ drop 2 turn → some_wait st.word.pending ≡ true → Fine l st true (taking st i t [] (Some c))
  takes c has is some =
      let c' = notes_heard st.word.pending c in
      let flags : pair_weight c'.pair ≤ pair_weight c.pair + 4 = grind arith in
      goes _ _ refl (assumption s) (λ e. refl) (not_opening t.left (expired st.second st.limits.idle c'.pair)) (λ yes. rw (is, has)
      (omega (arith, ap one some, planned_weighs st t t.left c', (rest_most t.left c'.pair).1, spent_more t.left (calls_left c'.pair) 4 (four_left c'.pair))))

  gives : t.generation ≡ st.entry → t.todo ≡ drop 2 end_acts → (b : Bool) → is_worn t.generation ≡ b
      → Fine l st true (with_thread (if b then st else record st { free = suc st.free }) i (then_acts t []))
  gives own is true worn = goes _ _ refl (assumption s) (λ e. refl) (λ e. cc) (λ yes. rw is (omega arith))
  gives own is false not_worn =
      let free : st.accepted ≡ true → 1 ≤ suc st.free = λ yes. omega arith in
      let less : l.generation < last_generation → 1 ≤ suc st.free → st.entry < last_generation =
      λ below some. (let most = leb-false last_generation t.generation not_worn in omega arith) in
      goes _ _ refl (assumption (s, free, less)) (λ e. refl) (λ e. cc) (λ yes. rw is (omega arith))

  -- the client that was accepted pays for a fresh connection and the opening
  registers : i ≡ 0 → t.todo ≡ open_slot → (free : ℕ) → st.free ≡ free → Kept (Fine l st true) (registering st i t (drop 1 open_slot) free)
  registers first is zero some = kept_none
  registers first is (suc free) some = kept_when st.accepted _ (λ accepted. kept_bind _ (token_of 0 Client (st.entry + 1)) (λ client one. kept_map _ (token_of 0 Target (st.entry + 1)) (λ target two.
      let differ = two_ends st.kernel client target (side_is Client (st.entry + 1) client one) (side_is Target (st.entry + 1) target two) in
      goes _ _ refl (record { limits = s.limits; apart = λ e at same. differ (cc); some_free = λ yes. absurd (cc); unworn = λ below more. s.unworn below (omega arith) })
      (λ later. absurd (later first)) (λ e. cc) (λ yes. rw (is, accepted)
      (omega (arith, both_opened st.kernel client target, fresh_weighs st.limits.lead 0 (st.entry + 1) st.limits.ring st.second))))))

  pub acts_fine : {todo : List Act} → Known st i t todo → t.todo ≡ todo → Finds st.word st.place t.generation todo → Kept (Fine l st true) (acts st i t todo)
  acts_fine Nothing is find = kept_none
  acts_fine (Calling c out call next) is find = kept_none
  acts_fine (Opening first) is find = registers first is st.free refl
  acts_fine (Entering none) is find =
      let never : l.generation < last_generation → 1 ≤ st.free → t.generation < last_generation = λ below some. absurd (omega (arith, none)) in
      kept_some (goes _ _ refl (assumption (s, never)) (λ e. refl) (λ e. cc) (λ yes. rw is (omega arith)))
  acts_fine Adopting is find = kept_some (chosen (Fine l st true) st.word.free _ _ (goes _ _ refl (assumption s) (λ e. refl) (λ e. cc) (λ yes. rw is (omega arith)))
      (goes _ _ refl (assumption s) (λ e. refl) (λ e. cc) (λ yes. rw is (omega (arith, spent_none 0)))))
  acts_fine Claiming is find = kept_some (chosen (Fine l st true) st.word.held _ _ (goes _ _ refl (assumption s) (λ e. refl) (λ e. cc) (λ yes. rw is (omega (arith, spent_none 0))))
      (goes _ _ refl (assumption s) (λ e. refl) (λ e. cc) (λ yes. rw is (omega arith))))
  acts_fine TakingOut is (c, at, own) = kept_some (subst (λ (o : Option Connection). Fine l st true (taken_out st i t (drop 2 turn) o)) (sym at) (rw (eq-eqb c.pair.generation t.generation own)
      (goes (with_thread (record st { place = None }) i (record t { out = Some c; todo = drop 2 turn })) _ refl (assumption s) (λ e. refl) (λ e. cc) (λ yes. rw (is, at) (omega arith)))))
  acts_fine (Taking c has) is some = kept_some (subst (λ (o : Option Connection). Fine l st true (taking st i t [] o)) (sym has) (takes c has is some))
  acts_fine (Ending _ out) is find = kept_bind _ t.out (λ c has. kept_map _ (kernel.close_both st.kernel c.ends) (λ told may.
      let none : (e : Descriptors) → None ≡ Some e → e.client ≢ e.target = λ e at. absurd (cc) in
      let less = kept_at (kernel.close_both st.kernel c.ends) told may (both_closed st.limits st.kernel c.ends) in
      goes _ _ refl (assumption (s, none)) (λ e. refl) (λ e. cc) (λ yes. rw is (omega arith))))
  acts_fine (Giving own) is find = kept_some (gives own is (is_worn t.generation) refl)
  acts_fine known is find =
      kept_some (goes _ _ refl (assumption s) (λ e. refl) (λ e. cc) (λ yes. rw is (omega (arith, posted_weighs st t.generation, released_weighs st t.generation))))

  -- a call

  pub calls_fine : {todo : List Act} (r : Reply) → Known st i t todo → t.todo ≡ todo → Kept (Fine l st (is_answered r)) (calls st i t r todo)
  calls_fine r (Calling _ out call next) is = kept_bind _ t.out (λ c has. kept_map _ (called st.second (record { kernel = st.kernel; connection = c }) r) (λ line replied.
      goes _ _ refl (assumption s) (λ e. refl) (not_opening (t.left - 1) (expired st.second st.limits.idle line.connection.pair)) (λ settled.
      let a = kept_at (called st.second (record { kernel = st.kernel; connection = c }) r) line replied (calls_answered st.second (record { kernel = st.kernel; connection = c }) r settled) in
      rw (is, has, a.queue, a.backlog) (omega (arith, a.lighter t.left, planned_weighs st t (t.left - 1) line.connection)))))
  calls_fine r _ is = kept_none

  pub begins_fine : (most : ℕ) (tickets : List ℕ) → st.tickets ≡ tickets → t.todo ≡ [] → Kept (Fine l st (nat_le 4 most)) (turn_begun st i most tickets)
  begins_fine most [] is rest = kept_none
  begins_fine most (g ∷ tickets) is rest =
      kept_some (goes _ _ refl (assumption s) (λ e. refl) (λ e. cc) (λ four.
      let full : spent_weight most 4 ≡ 0 = grind (arith, nat_tests) in rw (is, rest) (omega arith)))
