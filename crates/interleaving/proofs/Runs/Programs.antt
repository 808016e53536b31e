-- What a step is for the machine: what the network, the kernel, the clock and the poller do between the programs, and
-- what a thread does, act by act, where no opening is half way. Its imports are passed on to the file above it.
pub use Rattle.std.{proofs.{Common.{Bool, List, None, Option, Some, [], ap, append-nil, arith, drop, false, if◌then◌else◌, inl, inr, is_some, length, lt-ltb, map, nat_le, nat_lt, not, option_map, refl, replicate, slice_get, slice_set, subst, suc, sym, true, zero, ℕ, ◌&&◌, ◌++◌, ◌+◌, ◌==◌, ◌∙◌, ◌∷◌, ◌≡◌, ◌≢◌, ◌≤◌, ◌⊎◌, length-append, eqb-true, ne_eqb, ◌-◌, append_assoc, eq-eqb, leb-true}, lemmas.{Bool.{or_right, and_parts, cases_eq, Decides.nat_tests}, Option.slice_get_past, List.{map-append, length-replicate, set-set}}}, specs.{Option.is_none, Cmp.second_so, List.flat_map}}
pub use Rattle.claims.specs.{Words.{WordState, made as exchange_made, some_wait, wakes, word_after}, declared.view.Exchange.Exchange}
pub use Rattle.interleaving.specs.{Likeness.{Adopted, Emptied, Entered, Finds, Goes, HalfOpen, HasClosed, HasOut, HasRetired, Held, HolderLike, Holds, IsHalfOpen, IsHolder, IsSettled, Leaves, Like, Opens, OthersRest, Placed, Posted, Registered, Rests, Settled, Stage, Stays, ThreadLike, Tries, WorkerFor, WorkersFor, ahead, descriptors_of, exchanges_in, first_kinds, here, kinds_in, left_of, machine_of, made_all, opened_slot, posts, ticket, visible_in, visible_of}, Threads.{Accept, Act, Acts, Begin, Call, Calls, Connect, Deliver, Drop, Give, Network, Open, Poll, Post, Release, Retire, Spurious, Step, Sweep, System, Thread, Tick, Vanish, acts, again, begins, turn_begun, calls, system_closed, report_delivered, delivers, end_acts, slot_given, then_acts, notes_heard, limit_is_set, is_over, open_slot, plan, planned, poller_rests, note_posted, put_in, quiet, registered, registering, released, rests, step, taking, watched_by, with_thread}}
pub use Rattle.kernel_model.specs.{Ends.is_nonempty, Kernel.KernelState, declared.{accepting.Accepting.TheVariants.{Accepted, Blocked}, both.Descriptors.Descriptors, reply.Reply.Reply}}
pub use Rattle.relay_core.specs.{declared.call.Call.{Call as PairCall}, Order.next_call, Pairs.{PairState, is_live, verdict, fresh}, Replies.fits, Idle.{is_overdue, expired}}
pub use Rattle.token.specs.{Names.EndName, declared.{name.Name.Name, side.Side.{Side, TheVariants.{Client, Target}}}}
pub use Rattle.world.{proofs.Headline.Ends.Pairs.Holders.{Events.Lists.{Kept, get-set_other, get-set_same, kept_at, kept_bind, kept_guard, kept_map, kept_none, kept_some, kept_when, set_same, total_at}, Turns, facts, first_free, is_number, is_shaped, names_it, own_generation, some_more, waiting, worker_retires}, specs.{Acts.busy, Leads.lead_at, Slots.{SlotState, WorkerState, is_by_worker, is_held}, States.{State, resting_worker as idle_worker}, Steps.{with_note, brings_ticket, may_release, is_worn, token_of}, Support.{of_slot, one, tickets, total, worker_tickets}, Words.{is_free, word_at}, declared.{actors.Holder.{Holder, TheVariants.{By, Free, Nobody}}, connection.Connection.Connection, event.{Event.Event, Change.Change, Reported.Reported}}, Calls.{descriptor, OpenConnection, called, told_of, made}}}
pub use Rattle.claims.specs.Words as word
pub use Rattle.kernel_model.specs.Kernel as kernel
pub use Rattle.world.specs.Runs as machine_runs
pub use Rattle.world.specs.Steps as machine
pub use Rattle.world.specs.declared.actors.Doing.TheVariants as doing
pub use Rattle.world.specs.declared.event.Act.TheVariants as act
pub use Rattle.world.specs.declared.event.Event.TheVariants as event
pub use Rattle.world.specs.declared.event.Polling.TheVariants as polling
pub use Rattle.kernel_model.specs.declared.watched.Watched.TheVariants as watched
pub use Rattle.world.specs.declared.event.Reported.TheVariants as reported
pub use Rattle.world.specs.declared.event.Listening.TheVariants as listening
pub use Rattle.token.specs.declared.name.Name.TheVariants as name

-- What a list of events leads to and shows, after these exchanges
abbrev pub Shown : Type 0
Shown = Option State × List Event × List Exchange

abbrev pub shown : List Exchange → State → List Event → Shown
shown before w events = (machine_runs.run w events, flat_map visible_in events, before ++ exchanges_in w events)

-- with a step of the threads first, which makes these exchanges
abbrev pub after_step : Step → List Exchange → Shown → Shown
after_step s own x = (x.0, visible_of s ++ x.1, own ++ x.2)

-- One step of the threads, which makes these exchanges, and what the machine makes of it, which was ahead by those
-- before; whatever comes next
pub record Follows (before own : List Exchange) (w : State) (s : Step) (next : System) : Type 0 where
  pub events : List Event
  pub world : State
  pub like : Like next world
  pub shows : (more : List Event) → shown before w (events ++ more) ≡ after_step s own (shown (ahead next world like) world more)

pub settled : {st : System} {p : SlotState} {workers : List WorkerState} → st.ends ≡ descriptors_of p → st.word ≡ word_at p
    → (is_by_worker p.holder ≡ false → st.place ≡ p.connection) → WorkersFor st.limits.budget st.place p workers st.threads
    → Settled st p workers
settled ends word place threads = record { ends = ends; word = word; place = place; threads = threads }

-- by these events, where no opening is half way before or after
follow : {own : List Exchange} {w : State} {s : Step} {next : System} (events : List Event) (q : SlotState) (workers : List WorkerState) → Settled next q workers
    → ((more : List Event) → shown [] w (events ++ more) ≡ after_step s own (shown [] (machine_of next q next.entry next.tickets workers) more)) → Follows [] own w s next
follow {next = next} events q workers settled shows =
    record { events = events; world = machine_of next q next.entry next.tickets workers; like = IsSettled q workers refl settled; shows = shows }

-- What the network, the kernel, the clock and the poller's own values do concerns no thread

pub record Beside : Type 0 where
  pub second : ℕ
  pub kernel : KernelState
  pub flag : Bool
  pub accepted : Bool
  pub batch : List Name

abbrev pub beside : System → Beside → System
beside st b = record st { second = b.second; kernel = b.kernel; flag = b.flag; accepted = b.accepted; batch = b.batch }

-- in both kinds of likeness
pub record Frame (st : System) (before : List Exchange) (p : SlotState) (entry : ℕ) (tickets : List ℕ) (workers : List WorkerState) : Type 0 where
  pub ends : st.ends ≡ descriptors_of p
  pub like : (b : Beside) → Like (beside st b) (machine_of (beside st b) p entry tickets workers)
  pub ahead_is : (b : Beside) → ahead (beside st b) (machine_of (beside st b) p entry tickets workers) (like b) ≡ before

pub settled_frame : {st : System} {p : SlotState} {workers : List WorkerState} → Settled st p workers → Frame st [] p st.entry st.tickets workers
settled_frame {p = p} {workers} s = record { ends = s.ends; like = λ b. IsSettled p workers refl (assumption s); ahead_is = λ b. refl }

pub half_frame : {st : System} {t : Thread} {c : Connection} {workers : List WorkerState} → HalfOpen st t c workers
    → Frame st (left_of t.todo st.word) (opened_slot t.generation c) t.generation (t.generation ∷ []) workers
half_frame {t = t} {c} {workers} s = record { ends = s.ends; like = λ b. IsHalfOpen t c workers refl (assumption s); ahead_is = λ b. refl }

over_ends : (o : Option Connection) (side : Side) → option_map (λ (c : Connection). watched.End (descriptor c.ends side)) o
    ≡ option_map (λ (ends : Descriptors). watched.End (descriptor ends side)) (option_map (λ (c : Connection). c.ends) o)
over_ends o side = grind arith

same_watched : (st : System) (p : SlotState) (entry : ℕ) (tickets : List ℕ) (workers : List WorkerState) → st.ends ≡ descriptors_of p
    → (who : Reported) → machine.watched_of (machine_of st p entry tickets workers) (here who) ≡ watched_by st who
same_watched st p entry tickets workers ends reported.Listener = refl
same_watched st p entry tickets workers ends reported.Waker = refl
same_watched st p entry tickets workers ends (reported.End s side) = rw ends (over_ends p.connection side)

-- the steps that no thread and no post makes
abbrev pub is_beyond : Step → Bool
is_beyond Deliver = false
is_beyond Sweep = false
is_beyond Open = false
is_beyond (Begin i most) = false
is_beyond (Acts i) = false
is_beyond (Calls i r) = false
is_beyond s = true

module _ {st : System} {before : List Exchange} {p : SlotState} {entry : ℕ} {tickets : List ℕ} {workers : List WorkerState} (fr : Frame st before p entry tickets workers) where
  abbrev frame_world : State
  frame_world = machine_of st p entry tickets workers

  -- one event that changes nothing but these
  pub alone : {s : Step} {b : Beside} (e : Event)
      → ((more : List Event) → shown before frame_world (e ∷ more) ≡ after_step s [] (shown before (machine_of (beside st b) p entry tickets workers) more))
      → Follows before [] frame_world s (beside st b)
  alone {s} {b} e shows = record {
    events = e ∷ [];
    world = machine_of (beside st b) p entry tickets workers;
    like = fr.like b;
    shows = λ more. rw (fr.ahead_is b) (shows more);
  }

  network_at : (side : Side) (change : Change) (ends : Descriptors) (q : KernelState) → machine.change_at st.kernel (descriptor ends side) change ≡ Some q
      → (o : Option Connection) → p.connection ≡ o → option_map (λ (c : Connection). c.ends) o ≡ Some ends
      → Follows before [] frame_world (Network side change) (record st { kernel = q })
  network_at side change ends q may None is there = cc
  network_at side change ends q may (Some c) is there =
      let same : c.ends ≡ ends = cc in
      alone (event.Network 0 side change) (λ more. rw (is, same, may))

  may : (poller_rests st && (st.flag && (not st.accepted && nat_lt 0 st.free))) ≡ true → machine.may_accept frame_world ≡ true
  may h =
      let some : is_nonempty (replicate st.free 0) ≡ nat_lt 0 st.free = rw (length-replicate {A = ℕ} st.free 0) refl in
      rw some (second_so _ _ h)

  pub beyond : (s : Step) → is_beyond s ≡ true → Kept (Follows before [] frame_world s) (step st s)
  beyond (Tick n) is = kept_guard _ _ (λ may. alone (event.Tick n) (λ more. rw may))
  beyond (Network side change) is = kept_bind _ _ (λ ends is. kept_map _ _ (λ q may.
      network_at side change ends q may p.connection refl (sym fr.ends ∙ is)))
  beyond Connect is = kept_map _ (kernel.connect_in st.kernel) (λ q may. alone (event.Listen listening.Connect) (λ more. rw may))
  beyond (Spurious who) is = kept_bind _ (watched_by st who) (λ what is. kept_map _ (kernel.spurious st.kernel what) (λ q may.
      alone (event.Spurious (here who)) (λ more. rw (same_watched st p entry tickets workers fr.ends who, is, may))))
  beyond (Vanish who) is = kept_bind _ (watched_by st who) (λ what is. kept_map _ (kernel.vanish st.kernel what) (λ q may.
      alone (event.Vanish (here who)) (λ more. rw (same_watched st p entry tickets workers fr.ends who, is, may))))
  beyond (Accept Accepted) is = kept_when _ _ (λ b. kept_map _ (kernel.accept st.kernel Accepted) (λ q can.
      alone (event.Listen (listening.Accept Accepted)) (λ more. rw (may b, can))))
  beyond (Accept Blocked) is = kept_when _ _ (λ b. kept_map _ _ (λ q can.
      alone (event.Listen (listening.Accept Blocked)) (λ more. rw (may b, can))))
  beyond (Accept reply) is = kept_when _ _ (λ b. kept_some (alone (event.Listen (listening.Accept reply)) (λ more. rw (may b))))
  beyond Drop is = kept_guard _ _ (λ b. alone (event.Listen listening.Drop) (λ more. rw (second_so (poller_rests st) st.accepted b)))
  beyond (Poll names) is = kept_when _ _ (λ b. kept_map _ (kernel.poll st.kernel names.items) (λ q can.
      alone (event.Poll (polling.Poll names)) (λ more. rw (second_so (poller_rests st) (length st.batch == 0) b, can))))
  beyond s is = cc

-- What the word says, and what the place does

pub some_notes : (notes : List ℕ) → some_wait (length notes) ≡ is_nonempty notes
some_notes [] = refl
some_notes (n ∷ ns) = sym (lt-ltb _ _ (omega arith))

wakes_as : (p : SlotState) → wakes (word_at p) ≡ brings_ticket p
wakes_as p = rw (some_notes p.notes) (grind arith)

post_word : (p : SlotState) (g : ℕ) → word_after word.post (word_at p) ≡ word_at (with_note p g)
post_word p g =
    let longer : length (p.notes ++ g ∷ []) ≡ suc (length p.notes) = length-append p.notes (g ∷ []) ∙ omega arith in
    rw longer refl

-- a slot that may be released may be so with one note more

due_now : (c : Connection) → is_live (verdict c.pair) ≡ true → may_release c true ≡ true
unfolding may_release
due_now c live = rw live (or_right _ true refl)

may_still : (c : Connection) (some : Bool) → may_release c some ≡ true → may_release c true ≡ true
unfolding may_release
may_still c some may = due_now c (and_parts _ _ may).0

still : {p : SlotState} {i g : ℕ} {has : Option Connection} (note : ℕ) → Held p i g has → Held (with_note p note) i g has
still note held = assumption held

-- what is so of each list that a plan may be, for the pair for which it is one, is so of the plan
pub by_plan : (P : List Act → Type 0) (left : ℕ) (p : PairState) → (is_live (verdict p) ≡ true → next_call p ≡ None → P quiet)
    → (is_live (verdict p) ≡ true → (call : PairCall) → next_call p ≡ Some call → (left == 0) ≡ true → P again)
    → (is_live (verdict p) ≡ true → (call : PairCall) → next_call p ≡ Some call → (left == 0) ≡ false → P (Call ∷ [])) → (is_live (verdict p) ≡ false → P end_acts) → P (plan left p)
by_plan P left p rests spends calls ends = go (is_live (verdict p)) (next_call p) (left == 0) refl refl refl
  where
    go : (live : Bool) (next : Option PairCall) (spent : Bool) → is_live (verdict p) ≡ live → next_call p ≡ next → (left == 0) ≡ spent
        → P (if live then (if is_none next then quiet else (if spent then again else Call ∷ [])) else end_acts)
    go true None spent lives none over = rests lives none
    go true (Some call) true lives next over = spends lives call next over
    go true (Some call) false lives next more = calls lives call next more
    go false next spent lives is over = ends lives

-- one of two states that a step may leave
pub chosen : (P : System → Type 0) (b : Bool) (x y : System) → P x → P y → P (if b then x else y)
chosen P true x y p q = p
chosen P false x y p q = q

module _ {budget : ℕ} {place : Option Connection} {p : SlotState} {i : ℕ} {t : Thread} {k : WorkerState} where
  -- a thread without a program is like a worker with nothing to do
  pub rests_like : {todo : List Act} → ThreadLike budget place p i t k todo → is_over todo ≡ true → k ≡ idle_worker
  rests_like (Rests is) over = is
  rests_like (Opens first is) over = is
  rests_like (IsHolder c more held is (Goes at out least)) over =
      let no = by_plan (λ acts. is_over acts ≡ false) t.left c.pair (λ live none. refl) (λ live call next spent. refl) (λ live call next left. refl) (λ over. refl) in cc
  rests_like like over = cc

  -- a thread that does not hold the slot is where it was, whatever becomes of place and slot but its generation
  apart : {next : Option Connection} {q : SlotState} {todo : List Act} → p.holder ≢ By i → q.generation ≡ p.generation → ThreadLike budget place p i t k todo
      → ThreadLike budget next q i t k todo
  apart other same (Rests is) = Rests is
  apart other same (Opens first is) = Opens first is
  apart other same (Tries least is) = Tries least is
  apart other same (IsHolder c more held is at) = absurd (other held.holder)
  apart other same (HasClosed held at is) = absurd (other held.holder)
  apart other same (HasRetired own is) = HasRetired (same ∙ own) is

  -- with one note more each thread is where it was
  noted_like : {todo : List Act} (g : ℕ) → ThreadLike budget place p i t k todo → ThreadLike budget place (with_note p g) i t k todo
  noted_like g (Rests is) = Rests is
  noted_like g (Opens first is) = Opens first is
  noted_like g (Tries least is) = Tries least is
  noted_like g (IsHolder c more held is (Holds at least all some)) = IsHolder c more (still g held) is (Holds at least all (some_more p.notes g))
  noted_like g (IsHolder c more held is (HasOut at out least all some)) = IsHolder c more (still g held) is (HasOut at out least all (some_more p.notes g))
  noted_like g (IsHolder c more held is (Goes at out least)) = IsHolder c more (still g held) is (Goes at out least)
  noted_like g (IsHolder c more held is (Stays at live)) = IsHolder c more (still g held) is (Stays at live)
  noted_like g (IsHolder c more held is (Leaves at may)) =
      IsHolder c more (still g held) is (Leaves at (rw (some_more p.notes g) (may_still c (is_nonempty p.notes) may)))
  noted_like g (HasClosed held at is) = HasClosed (still g held) at is
  noted_like g (HasRetired own is) = HasRetired own is

  -- a worker that has something to do counts
  none_here : {todo : List Act} (workers : List WorkerState) → slice_get workers i ≡ Some k → i ≢ 0 → p.holder ≡ Free → total (worker_tickets 0) workers ≡ 0
      → total (worker_retires 0) workers ≡ 0 → ThreadLike budget place p i t k todo → (todo ≡ []) × (slice_get workers i ≡ Some idle_worker)
  none_here workers there other free none gone (Rests is) = (refl, there ∙ ap Some is)
  none_here workers there other free none gone (Opens first is) = absurd (other first)
  none_here workers there other free none gone (Tries least is) = absurd (
      let least = total_at (worker_tickets 0) workers i k there in
      let some : worker_tickets 0 k ≡ 1 = rw is refl in omega arith)
  none_here workers there other free none gone (IsHolder c more held is at) = cc held.holder
  none_here workers there other free none gone (HasClosed held at is) = cc held.holder
  none_here workers there other free none gone (HasRetired own is) = absurd (
      let least = total_at (worker_retires 0) workers i k there in
      let some : worker_retires 0 k ≡ 1 = rw is refl in omega arith)

-- A post by the poller. A post that wakes makes a ticket, which the machine's poller puts at once

-- the state here, with this batch
abbrev with_batch : System → List Name → System
with_batch st batch = record st { batch = batch }

module _ {st : System} {p : SlotState} {workers : List WorkerState} (set : Settled st p workers) where
  abbrev world : State
  world = machine_of st p st.entry st.tickets workers

  settled_post : (g : ℕ) (batch : List Name) → Settled (with_batch (note_posted st g) batch) (with_note p g) workers
  settled_post g batch = settled set.ends (ap (word_after word.post) set.word ∙ post_word p g) set.place (λ i t there.
      let it = set.threads i t there in
      record { worker = it.worker; there = it.there; like = noted_like g it.like })

  -- the machine's posts, by an event that does this
  posts_by : (s : Step) (e : Event) (g : ℕ) (batch : List Name) (b : Bool) → brings_ticket p ≡ b
      → ((more : List Event) → shown [] world (e ∷ more) ≡ after_step s (exchange_made word.post (word_at p) ∷ []) (shown [] (record (machine.posted world 0 g p) { batch = batch }) more))
      → Follows [] (exchange_made word.post st.word ∷ []) world s (with_batch (note_posted st g) batch)
  posts_by s e g batch true brings shows =
      let longer : map ticket (st.tickets ++ g ∷ []) ≡ map ticket st.tickets ++ ticket g ∷ [] = map-append ticket st.tickets (g ∷ []) in
      follow (e ∷ event.Poll polling.Put ∷ []) (with_note p g) workers (settled_post g batch)
      (λ more. shows (event.Poll polling.Put ∷ more) ∙ rw (set.word, wakes_as p, brings, longer))
  posts_by s e g batch false brings shows =
      follow (e ∷ []) (with_note p g) workers (settled_post g batch) (λ more. shows more ∙ rw (set.word, wakes_as p, brings))

  -- a report of an end

  abbrev Delivers : Name → List Name → Type 0
  Delivers n rest = Follows [] (made_all (posts st (n ∷ rest)) st.word) world Deliver (record (report_delivered st n) { batch = rest })

  delivers_end : (n : EndName) (rest : List Name) → st.batch ≡ name.End n ∷ rest → (n.slot ≡ 0) ⊎ (n.slot ≢ 0) → (b : Bool) → (st.entry == n.generation) ≡ b → Delivers (name.End n) rest
  delivers_end n rest is (inl first) true own =
      rw (first, own, sym (eqb-true _ _ own)) (posts_by Deliver (event.Poll polling.Deliver) st.entry rest (brings_ticket p) refl (λ more. rw (is, first, own)))
  delivers_end n rest is (inl first) false own = rw (first, own) (alone (settled_frame set) (event.Poll polling.Deliver) (λ more. rw (is, first, own)))
  delivers_end n rest is (inr other) b own = rw (ne_eqb _ _ other) (alone (settled_frame set) (event.Poll polling.Deliver) (λ more. rw (is, slice_get_past (st.entry ∷ []) n.slot (omega arith))))

  delivers_all : (batch : List Name) → st.batch ≡ batch → Kept (Follows [] (made_all (posts st batch) st.word) world Deliver) (delivers st batch)
  delivers_all [] is = kept_none
  delivers_all (name.End n ∷ rest) is = kept_some (delivers_end n rest is (cases_eq n.slot 0) (st.entry == n.generation) refl)
  delivers_all (n ∷ rest) is = kept_some (alone (settled_frame set) (event.Poll polling.Deliver) (λ more. rw is))

  pub reports : Kept (Follows [] (made_all (kinds_in st Deliver) st.word) world Deliver) (step st Deliver)
  reports = kept_when (poller_rests st) _ (λ b. delivers_all st.batch refl)

  pub sweeps : Kept (Follows [] (made_all (kinds_in st Sweep) st.word) world Sweep) (step st Sweep)
  sweeps = kept_guard _ _ (λ b.
      let parts = and_parts (limit_is_set st) (nat_lt 0 st.entry) (second_so (poller_rests st) _ b) in
      posts_by Sweep (event.Poll (polling.Sweep 0)) st.entry st.batch (brings_ticket p) refl (λ more. rw (parts.0, parts.1)))

pub some_there : {X : Type 0} (o : Option X) → is_some o ≡ true → (x : X) × (o ≡ Some x)
some_there None h = cc
some_there (Some x) h = (x, refl)

rests_now : (c : Connection) (some : Bool) → is_live (verdict c.pair) ≡ true → next_call c.pair ≡ None → may_release c some ≡ true
unfolding may_release
rests_now c some live none = rw (none, live) refl

one_more : (n : ℕ) → replicate {A = ℕ} n zero ++ zero ∷ [] ≡ replicate {A = ℕ} (suc n) zero
one_more zero = refl
one_more (suc n) = ap (λ (xs : List ℕ). 0 ∷ xs) (one_more n)

-- A worker holds the slot, and its connection fails where the idle limit has passed: by one event more, or none

abbrev with_connection : SlotState → Connection → SlotState
with_connection p c = record p { connection = Some c }

abbrev held_to_limit : System → Connection → Connection
held_to_limit st c = record c { pair = expired st.second st.limits.idle c.pair }

abbrev expires : ℕ → Bool → List Event
expires i true = event.Work i act.Expire ∷ []
expires i false = []

limited : (st : System) (p : SlotState) (c : Connection) (workers : List WorkerState) (i left : ℕ) → slice_get workers i ≡ Some (busy (doing.Holds 0 left))
    → (b : Bool) → is_overdue st.second st.limits.idle c.pair ≡ b → (more : List Event)
    → shown [] (machine_of st (with_connection p c) st.entry st.tickets workers) (expires i b ++ more)
    ≡ shown [] (machine_of st (with_connection p (held_to_limit st c)) st.entry st.tickets workers) more
limited st p c workers i left had true over more = rw (had, over)
limited st p c workers i left had false over more = rw over

heard_as : (c : Connection) (notes : List ℕ) → machine.heard c notes ≡ notes_heard (length notes) c
heard_as c notes = rw (some_notes notes) refl

same_ends : (notes : ℕ) (c : Connection) → (notes_heard notes c).ends ≡ c.ends
same_ends notes c = grind arith

all_keep_ends : (now : ℕ) (l : OpenConnection) (r : Reply) → Kept (λ (line : OpenConnection). line.connection.ends ≡ l.connection.ends) (called now l r)
unfolding called
all_keep_ends now l r = kept_bind _ (next_call l.connection.pair) (λ call c. kept_bind _ (told_of l call r) (λ t told. kept_when (fits l.connection.pair call t) _ (λ may.
    kept_map _ (made l call r) (λ k after. refl))))

-- the worker's call, with a connection in the slot
slot_calls : (now : ℕ) (p : SlotState) (k : KernelState) (c : Connection) (r : Reply) (line : OpenConnection) → p.connection ≡ Some c
    → called now (record { kernel = k; connection = c }) r ≡ Some line
    → machine.slot_call now (record { kernel = k; place = p }) r
    ≡ Some (record { kernel = line.kernel; place = record p { connection = Some line.connection } })
unfolding machine.slot_call
slot_calls now p k c r line is made = rw (is, made) refl

-- Before a slot is opened it is free: nobody has anything to do with it

pub none_by : (h : Holder) (o : Option Connection) → h ≡ Free → is_shaped h (is_some o) ≡ true → o ≡ None
none_by h o is shape = grind arith

no_tickets : (xs : List ℕ) → total (of_slot 0) (map ticket xs) ≡ 0 → xs ≡ []
no_tickets [] none = refl
no_tickets (x ∷ xs) none = absurd (omega arith)

pub after_set : (threads : List Thread) (workers : List WorkerState) (new : Thread) → OthersRest threads workers → OthersRest (slice_set threads 0 new) workers
after_set threads workers new rest i t other at = rest i t other (sym (get-set_other threads 0 i new (λ same. other (sym same))) ∙ at)

module _ (st : System) (p : SlotState) (workers : List WorkerState) (set : Settled st p workers) (i : ℕ) (t : Thread) (there : slice_get st.threads i ≡ Some t)
    (k : WorkerState) (had : slice_get workers i ≡ Some k) where
  abbrev w : State
  w = machine_of st p st.entry st.tickets workers

  -- the thread's act makes these exchanges
  abbrev Acted : List Exchange → System → Type 0
  Acted own next = Follows [] own w (Acts i) next

  -- with this place and this slot each other thread is where it was
  abbrev Others : Option Connection → SlotState → Type 0
  Others place q = (j : ℕ) (u : Thread) (v : WorkerState) → i ≢ j → ThreadLike st.limits.budget st.place p j u v u.todo → ThreadLike st.limits.budget place q j u v u.todo

  -- who holds the slot is one thread
  others : {place : Option Connection} {q : SlotState} → p.holder ≡ By i → q.generation ≡ p.generation → Others place q
  others by same j u v other like = apart (λ also. other (cc)) same like

  -- the thread and its worker go on
  both_go : {place : Option Connection} {q : SlotState} {new : Thread} {busier : WorkerState} → Others place q → ThreadLike st.limits.budget place q i new busier new.todo
      → WorkersFor st.limits.budget place q (slice_set workers i busier) (slice_set st.threads i new)
  both_go {place} {q} {new} {busier} others like j u at = go (cases_eq j i)
    where
      go : (j ≡ i) ⊎ (j ≢ i) → WorkerFor st.limits.budget place q (slice_set workers i busier) j u
      go (inl same) =
          let it : u ≡ new = cc (get-set_same st.threads i t new there) in
          record { worker = busier; there = rw same (get-set_same workers i k busier had); like = rw (same, it) like }
      go (inr other) =
          let apart : i ≢ j = λ same. other (sym same) in
          let it = set.threads j u (sym (get-set_other st.threads i j new apart) ∙ at) in
          record { worker = it.worker; there = get-set_other workers i j busier apart ∙ it.there; like = others j u it.worker apart it.like }

  -- the thread goes on alone
  goes : {place : Option Connection} {q : SlotState} {new : Thread} → Others place q → ThreadLike st.limits.budget place q i new k new.todo
      → WorkersFor st.limits.budget place q workers (slice_set st.threads i new)
  goes {place} {q} {new} others like =
      subst (λ (ks : List WorkerState). WorkersFor st.limits.budget place q ks (slice_set st.threads i new)) (sym (set_same workers i k had)) (both_go others like)

  -- it begins a turn with the oldest ticket, or an opening

  begins_with : k ≡ idle_worker → (most : ℕ) → most ≤ st.limits.budget → (tickets : List ℕ) → st.tickets ≡ tickets
      → Kept (Follows [] [] w (Begin i most)) (turn_begun st i most tickets)
  begins_with is most within [] tickets = kept_none
  begins_with is most within (g ∷ rest) tickets = kept_some
      (follow (event.Work i act.Pop ∷ []) p (slice_set workers i (busy (doing.Tries (ticket g))))
      (settled set.ends set.word set.place (both_go (λ j u v other like. like) (Tries within refl)))
      (λ more. rw (had, is, tickets)))

  pub begins_turn : ThreadLike st.limits.budget st.place p i t k t.todo → (most : ℕ) → Kept (Follows [] [] w (Begin i most)) (begins st i most t)
  begins_turn like most = kept_when _ _ (λ r.
      let parts = and_parts _ _ r in
      begins_with (rests_like like parts.0) most (leb-true _ _ parts.1) st.tickets refl)

  pub begins_opening : i ≡ 0 → ThreadLike st.limits.budget st.place p i t k t.todo → rests t ≡ true → Follows [] [] w Open (with_thread st i (then_acts t open_slot))
  begins_opening first like r = follow [] p workers
      (settled set.ends set.word set.place (goes (λ j u v other like. like) (Opens first (rests_like like r))))
      (λ more. refl)

  -- while it holds the slot with its connection

  module _ (c : Connection) (more : ℕ) (held : Held p i t.generation (Some c)) (is : k ≡ busy (doing.Holds 0 more)) where
    -- another connection in the slot, or none, or other notes
    holds_on : {notes : List ℕ} {has : Option Connection} → Held (record p { notes = notes; connection = has }) i t.generation has
    holds_on = record { holder = held.holder; there = refl; generation = held.generation }

    not_nobody : {X : Type 0} → is_by_worker p.holder ≡ false → X
    not_nobody nobody = cc held.holder

    -- the connection is back in its place
    put_back : t.out ≡ Some c → (rest : List Act) → HolderLike st.limits.budget (Some c) p (record t { out = None; todo = rest }) c more rest → Acted [] (put_in st i t rest)
    put_back out rest at = rw out (follow [] p workers
        (settled set.ends set.word not_nobody (goes (others held.holder refl) (IsHolder c more held is at))) (λ es. refl))

    -- a release

    released_like : st.place ≡ Some c → (tickets : List ℕ)
        → Settled (with_thread (record st { word = word_after word.release st.word; tickets = tickets }) i (then_acts t [])) (record p { holder = Nobody })
        (slice_set workers i idle_worker)
    released_like at tickets = settled set.ends (rw (set.word, held.holder) refl) (λ yes. at ∙ sym held.there)
        (both_go (others held.holder refl) (Rests refl))

    releases : st.place ≡ Some c → (b : Bool) → is_nonempty p.notes ≡ b → may_release c b ≡ true
        → Acted (exchange_made word.release st.word ∷ []) (with_thread (released st t.generation) i (then_acts t []))
    releases at true some may =
        let wait : some_wait st.word.pending ≡ true = rw set.word (some_notes p.notes ∙ some) in
        let tickets : List ℕ = st.tickets ++ t.generation ∷ [] in
        let between : WorkerState = record { doing = doing.Idle; hand = ticket t.generation ∷ [] } in
        let longer : map ticket tickets ≡ map ticket st.tickets ++ ticket t.generation ∷ [] = map-append ticket st.tickets (t.generation ∷ []) in
        rw wait (follow (event.Work i act.Release ∷ event.Work i act.Put ∷ []) (record p { holder = Nobody }) (slice_set workers i idle_worker) (released_like at tickets)
        (λ es. rw (had, is, held.there, some, may, held.generation, get-set_same workers i k between had, set-set workers i between idle_worker, longer, some_notes p.notes ∙ some)))
    releases at false some may =
        let wait : some_wait st.word.pending ≡ false = rw set.word (some_notes p.notes ∙ some) in
        rw wait (follow (event.Work i act.Release ∷ []) (record p { holder = Nobody }) (slice_set workers i idle_worker) (released_like at st.tickets)
        (λ es. rw (had, is, held.there, some, may, some_notes p.notes ∙ some)))

    -- the connection is closed
    closes : st.place ≡ None → is_live (verdict c.pair) ≡ false → Kept (Acted []) (system_closed st i t (Retire ∷ Give ∷ []) c)
    closes at over = kept_map _ _ (λ told may.
        follow (event.Work i act.Close ∷ []) (record p { connection = None }) (slice_set workers i (busy (doing.Closed 0)))
        (settled refl set.word not_nobody (both_go (others held.holder refl) (HasClosed holds_on at refl))) (λ es. rw (had, is, held.there, over, may)))

    -- the next act
    holder_acts : {todo : List Act} → Turns w → HolderLike st.limits.budget st.place p t c more todo → Kept (Acted (made_all (first_kinds todo) st.word)) (acts st i t todo)
    -- it takes the connection out, which is its ticket's own
    holder_acts turns (Holds at least all some) =
        let own = own_generation (facts w 0 p.generation) p c ((turns.each 0 p refl).connection c held.there).stands ∙ held.generation in
        kept_some (rw (at, eq-eqb _ _ own) (follow [] p workers
        (settled set.ends set.word not_nobody (goes (others held.holder refl) (IsHolder c more held is (HasOut refl refl least all some))))
        (λ es. refl)))
    -- it takes the notes
    holder_acts turns (HasOut at out least all some) = rw out (
        let heard_now = notes_heard st.word.pending c in
        let e = held_to_limit st heard_now in
        let b = is_overdue st.second st.limits.idle heard_now.pair in
        let count : length p.notes ≡ st.word.pending = rw set.word refl in
        let same : machine.heard c p.notes ≡ heard_now = heard_as c p.notes ∙ rw count refl in
        kept_some (follow (event.Work i act.Take ∷ expires i b) (record p { notes = []; connection = Some e }) workers
        (settled (set.ends ∙ rw (held.there, same_ends st.word.pending c) refl) (rw set.word refl) not_nobody
        (goes (others held.holder refl) (IsHolder e more holds_on is (Goes at refl (omega arith)))))
        (λ es. rw (had, is, held.there, same, count) (ap (λ (x : Shown). (x.0, x.1, exchange_made word.take st.word ∷ x.2))
        (limited (taking st i t [] (Some c)) (record p { notes = [] }) heard_now workers i more (had ∙ ap Some is) b refl es)))))
    holder_acts turns (Goes at out least) = by_plan (λ todo. Kept (Acted (made_all (first_kinds todo) st.word)) (acts st i t todo)) t.left c.pair
        (λ live none. kept_some (put_back out (Release ∷ []) (Leaves refl (rests_now c (is_nonempty p.notes) live none))))
        (λ live call next spent. kept_some (put_back out (Post ∷ Release ∷ []) (Stays refl live)))
        (λ live call next left. kept_none)
        (λ over. rw out (closes at over))
    -- it posts, which wakes nobody
    holder_acts turns (Stays at live) =
        let g = c.pair.generation in
        let held_word : st.word.held ≡ true = rw (set.word, held.holder) refl in
        let woke : wakes st.word ≡ false = rw held_word refl in
        kept_some (rw woke (follow (event.Work i act.Post ∷ []) (with_note p g) workers
        (settled set.ends (ap (word_after word.post) set.word ∙ post_word p g) not_nobody
        (goes (others held.holder refl) (IsHolder c more (still g held) is (Leaves at (rw (some_more p.notes g) (due_now c live))))))
        (λ es. rw (had, is, held.there, live, held.holder))))
    holder_acts turns (Leaves at may) = kept_some (releases at (is_nonempty p.notes) refl may)

    -- and the next call
    plan_calls : st.place ≡ None → t.out ≡ Some c → t.left ≤ more → (r : Reply) → Kept (Follows [] [] w (Calls i r)) (calls st i t r (plan t.left c.pair))
    plan_calls at out least r = by_plan (λ todo. Kept (Follows [] [] w (Calls i r)) (calls st i t r todo)) t.left c.pair (λ live none. kept_none) (λ live call next spent. kept_none)
        (λ live call next some. rw out (kept_map _ (called st.second (record { kernel = st.kernel; connection = c }) r) (λ line replied. (
        let some_left : nat_lt 0 more ≡ true = grind (arith, nat_tests) in
        let d = held_to_limit st line.connection in
        let b = is_overdue st.second st.limits.idle line.connection.pair in
        let busier = busy (doing.Holds 0 (more - 1)) in
        let made = slot_calls st.second p st.kernel c r line held.there replied in
        let ends = kept_at (called st.second (record { kernel = st.kernel; connection = c }) r) line replied (all_keep_ends st.second (record { kernel = st.kernel; connection = c }) r) in
        follow (event.Work i (act.Call r) ∷ expires i b) (record p { connection = Some d }) (slice_set workers i busier)
        (settled (set.ends ∙ rw (held.there, ends) refl) set.word not_nobody
        (both_go (others held.holder refl) (IsHolder d (more - 1) holds_on refl (Goes at refl (omega arith)))))
        (λ es. rw (had, is, some_left, made) (ap (λ (x : Shown). (x.0, event.Work i (act.Call r) ∷ x.1, x.2))
        (limited (with_thread (record st { kernel = line.kernel }) i (planned st t (t.left - 1) line.connection)) p line.connection (slice_set workers i busier) i (more - 1)
        (get-set_same workers i k busier had) b refl es)))))))
        (λ over. kept_none)

  -- the slot is given, or lost where its generations are used up
  gives_to : p.generation ≡ t.generation → k ≡ busy (doing.Retired 0) → (free : ℕ) → machine.step w (event.Work i act.Free)
      ≡ Some (machine_of (with_thread (record st { free = free }) i (then_acts t [])) p st.entry st.tickets (slice_set workers i idle_worker))
      → Acted [] (with_thread (record st { free = free }) i (then_acts t []))
  gives_to own is free can = follow (event.Work i act.Free ∷ []) p (slice_set workers i idle_worker)
      (settled set.ends set.word set.place (both_go (λ j u v other like. like) (Rests refl))) (λ more. rw (can, had))

  gives : p.generation ≡ t.generation → k ≡ busy (doing.Retired 0) → (b : Bool) → is_worn t.generation ≡ b → Acted [] (with_thread (slot_given st t.generation) i (then_acts t []))
  gives own is true worn = rw worn (gives_to own is st.free (rw (had, is, own, worn)))
  gives own is false worn = rw worn (gives_to own is (suc st.free) (rw (had, is, own, worn, one_more st.free)))

  module _ (turns : Turns w) where
    -- The machine makes an opening as soon as both sockets are registered

    module _ (first : i ≡ 0) (is : k ≡ idle_worker) where
      registers : (free : ℕ) → st.free ≡ free → Kept (Acted []) (registering st i t (drop 1 open_slot) free)
      registers zero some = kept_none
      registers (suc free) some =
          let g = st.entry + 1 in
          let unused = first_free w 0 p refl (rw some refl) turns in
          let none = unused.tickets in
          let gone = unused.gone in
          let empty : p.connection ≡ None = none_by p.holder p.connection unused.holder (turns.each 0 p refl).shape in
          let no_ticket : st.tickets ≡ [] = no_tickets st.tickets (omega arith) in
          let rest : OthersRest st.threads workers =
          λ j u other there. (let it = set.threads j u there in none_here workers it.there other unused.holder (omega arith) (omega arith) it.like) in
          kept_when st.accepted _ (λ accepted. kept_bind _ (token_of 0 Client g) (λ client one. kept_map _ (token_of 0 Target g) (λ target two. (
          let told = kernel.open_both st.kernel client target in
          let c : Connection = record { pair = fresh 0 g st.limits.ring st.second (lead_at st.limits.lead 0 g); ends = told.told } in
          let new : Thread = record t { generation = g; out = Some c; todo = drop 1 open_slot } in
          rw first (record {
            events = event.Poll polling.Open ∷ event.Poll polling.Put ∷ [];
            world = machine_of (registered st 0 t (drop 1 open_slot) free g told) (opened_slot g c) g (g ∷ []) workers;
            like = IsHalfOpen new c workers refl (record {
              first = get-set_same st.threads 0 t new (rw first at there);
              worker = (rw first at had) ∙ ap Some is;
              others = after_set st.threads workers new rest;
              tickets = no_ticket;
              ends = refl;
              stage = Registered (length p.notes) (rw (set.word, unused.holder) refl) (set.place (rw unused.holder refl) ∙ empty) refl;
            });
            shows = λ more. rw (accepted, some, one, two, no_ticket, set.word);
          })))))

    pub thread_acts : {todo : List Act} → ThreadLike st.limits.budget st.place p i t k todo → Kept (Acted (made_all (first_kinds todo) st.word)) (acts st i t todo)
    thread_acts (Rests is) = kept_none
    thread_acts (Opens first is) = registers first is st.free refl
    -- it claims the slot, which nobody holds
    thread_acts (Tries least is) =
        let does : k.doing ≡ doing.Tries (ticket t.generation) = rw is refl in
        let wait = waiting w i k (ticket t.generation) p had does refl turns in
        let own = names_it w i k (ticket t.generation) p had does refl turns in
        let c = some_there p.connection wait.lies in
        let free : st.word.held ≡ false = rw (set.word, wait.holder) refl in
        kept_some (rw free (follow (event.Work i act.Claim ∷ []) (record p { holder = By i }) (slice_set workers i (busy (doing.Holds 0 st.limits.budget)))
        (settled set.ends (rw (set.word, wait.holder) refl) (λ nobody. cc) (both_go (λ j u v other like. apart (λ by. cc wait.holder) refl like)
        (IsHolder c.0 st.limits.budget (record { holder = refl; there = c.1; generation = sym own }) refl
        (Holds (set.place (rw wait.holder refl) ∙ c.1) least refl wait.some))))
        (λ more. rw (had, is, wait.holder, set.word))))
    thread_acts (IsHolder c more held is at) = holder_acts c more held is turns at
    -- the slot is retired
    thread_acts (HasClosed held at is) = kept_some
        (follow (event.Work i act.Retire ∷ []) (record p { holder = Free }) (slice_set workers i (busy (doing.Retired 0)))
        (settled set.ends (rw (set.word, held.holder) refl) (λ yes. at ∙ sym held.there)
        (both_go (others held.holder refl) (HasRetired held.generation refl)))
        (λ more. rw (had, is)))
    thread_acts (HasRetired own is) = kept_some (gives own is (is_worn t.generation) refl)

  pub thread_calls : {todo : List Act} → ThreadLike st.limits.budget st.place p i t k todo → (r : Reply) → Kept (Follows [] [] w (Calls i r)) (calls st i t r todo)
  thread_calls (IsHolder c more held is (Goes at out least)) r = plan_calls c more held is at out least r
  thread_calls like r = kept_none
