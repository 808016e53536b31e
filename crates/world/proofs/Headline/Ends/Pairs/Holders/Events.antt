-- What each event found and left, case by case: a claim about every event is proved by these cases. So is the listener's: while
-- the accept flag is down, it is armed and nobody waits, or somebody waits and its name is queued or in the batch.
pub mod Lists
unfoldable pub use Lists.*

-- a worker that holds a slot, and the connection that lies there
pub record Holding (st : State) (w : ℕ) : Type 0 where
  pub k : WorkerState
  pub s : ℕ
  pub left : ℕ
  pub p : SlotState
  pub c : Connection
  pub there : slice_get st.workers w ≡ Some k
  pub does : k.doing ≡ Holds s left
  pub lies : slice_get st.slots s ≡ Some p
  pub is : p.connection ≡ Some c

-- the token of one side of the connection in slot s of generation g
abbrev pub token_at : ℕ → Side → ℕ → EndName
token_at s side g = record { slot = s; side = side; generation = g }

-- what a change of the network does to an end
abbrev pub change_of : Change → EndState → Option (Told EndState Bool)
change_of (Arrive bytes) e = arrival e bytes.items
change_of Fin e = finish e
change_of Reset e = model.failure e
change_of Room e = new_room e

-- the end after a call on it, which got this reply
abbrev pub end_after : PairState → Call → Reply → EndState → Option EndState
end_after p (Read side most) r e = after_read e most r
end_after p (Write side) r e = after_write e (offer p side) r
end_after p (Join side) r e = after_join e r
end_after p (Shut side) r e = after_shut e r

-- a connection's call with its reply
pub record Made (st : State) (c : Connection) (r : Reply) : Type 0 where
  pub call : Call
  pub value : answer.AnswerValue
  pub old : Registered
  pub socket : EndState
  pub next : next_call c.pair ≡ Some call
  pub told : told_of (record { kernel = st.kernel; connection = c }) call r ≡ Some value
  pub fit : fits c.pair call value ≡ true
  pub there : end_there st c (side_of call) ≡ Some old
  pub replied : end_after c.pair call r old.socket ≡ Some socket

-- the ends with another at one side of a connection
abbrev pub ends_with : State → Connection → Side → Option Registered → List (Option Registered)
ends_with st c side o = slice_set st.kernel.ends (descriptor c.ends side) o

-- the worlds that it leaves: it took the notes, made a call, released the slot, or closed the connection
abbrev pub taken : {st : State} {w : ℕ} → Holding st w → State
taken {st} h = with_place st h.s (record h.p { notes = []; connection = Some (heard h.c h.p.notes) })

abbrev pub after_call : {st : State} {c : Connection} {r : Reply} → Made st c r → Connection
after_call {st} {c} m = record c { pair = after st.second c.pair m.call m.value }

abbrev pub called_on : {st : State} {w : ℕ} (h : Holding st w) {r : Reply} → Made st h.c r → State
called_on {st} {w} h m = doing (with_place (record st {
  kernel = record st.kernel {
    ends = ends_with st h.c (side_of m.call) (Some (record m.old { socket = m.socket }));
  };
}) h.s (record h.p { connection = Some (after_call m) }))
    w h.k (Holds h.s (h.left - 1))

abbrev pub hand_after : {st : State} {w : ℕ} → Holding st w → List Ticket
hand_after h = with_ticket (is_nonempty h.p.notes) h.s h.p.generation h.k.hand

abbrev pub released : {st : State} {w : ℕ} → Holding st w → State
released {st} {w} h = with_worker (with_place st h.s (record h.p { holder = Nobody })) w (record { doing = Idle; hand = hand_after h })

abbrev pub closed_on : {st : State} {w : ℕ} → Holding st w → Registered → Registered → State
closed_on {st} {w} h one two = closed_world st w h.k h.s h.p h.c (record {
  value = record st.kernel {
    ends = slice_set (ends_with st h.c Client None) h.c.ends.target None;
    queue = without_name (End two.token) (without_name (End one.token) st.kernel.queue);
  };
  told = record { client = one.socket; target = two.socket };
})

-- the world with a fresh connection
abbrev pub fresh_world : State → ℕ → ℕ → State
fresh_world st s g = opened_world st s g (open_both st.kernel (token_at s Client g) (token_at s Target g))

-- the world without the first name of its batch
abbrev pub behind : State → State
behind st = record st { batch = drop 1 st.batch }

pub data Happens (st : State) : Event → State → Type 0 where
  Ticks : (n : ℕ) → Happens st (event.Tick n) (record st { second = st.second + n })
  Changes : (s : ℕ) (side : Side) (change : Change) (c : Connection) (r : Registered) (t : Told EndState Bool) → connection_at st s ≡ Some c → end_there st c side ≡ Some r
      → change_of change r.socket ≡ Some t → Happens st (event.Network s side change) (record st {
        kernel = record st.kernel {
          ends = ends_with st c side (Some (record r { socket = t.value }));
          queue = reported st.kernel.queue (End r.token) t.told;
        };
      })
  Reports : (who : Reported) (n : Name) → Happens st (event.Spurious who) (record st { kernel = record st.kernel { queue = with_name n st.kernel.queue } })
  WithdrawsListener : (st.kernel.backlog == 0) ≡ true
      → Happens st (event.Vanish reports.Listener) (record st { kernel = record st.kernel { queue = without_name Listener st.kernel.queue } })
  WithdrawsWaker : Happens st (event.Vanish reports.Waker) (record st { kernel = record st.kernel { queue = without_name Waker st.kernel.queue } })
  Withdraws : (s : ℕ) (side : Side) (c : Connection) (r : Registered) → connection_at st s ≡ Some c → end_there st c side ≡ Some r → is_quiet_end (Some r) ≡ true
      → Happens st (event.Vanish (reports.End s side)) (record st { kernel = record st.kernel { queue = without_name (End r.token) st.kernel.queue } })
  Connects : Happens st (event.Listen listening.Connect) (record st {
    kernel = record st.kernel {
      backlog = st.kernel.backlog + 1;
      queue = reported st.kernel.queue Listener st.kernel.armed;
      armed = false;
    };
  })
  Accepts : st.flag ≡ true → Happens st (event.Listen (listening.Accept Accepted)) (record st { accepted = true; kernel = record st.kernel { backlog = st.kernel.backlog - 1 } })
  Blocks : (st.kernel.backlog == 0) ≡ true → Happens st (event.Listen (listening.Accept Blocked)) (record st { flag = false; kernel = record st.kernel { armed = true } })
  Misses : (reply : Accepting) → Happens st (event.Listen (listening.Accept reply)) st
  Drops : Happens st (event.Listen listening.Drop) (record st { accepted = false })
  Opens : (s g : ℕ) (p : SlotState) → slice_get st.free 0 ≡ Some s → slice_get st.slots s ≡ Some p → slice_get st.table s ≡ Some g
      → Happens st (event.Poll polling.Open) (fresh_world st s (g + 1))
  Polls : (names : Vec Name Global) → (length st.batch == 0) ≡ true
      → Happens st (event.Poll (polling.Poll names)) (record st { batch = names.items; kernel = record st.kernel { queue = without_names names.items st.kernel.queue } })
  Hears : slice_get st.batch 0 ≡ Some Listener → Happens st (event.Poll polling.Deliver) (record (behind st) { flag = true })
  Wakes : slice_get st.batch 0 ≡ Some Waker → Happens st (event.Poll polling.Deliver) (behind st)
  Passes : (n : EndName) → slice_get st.batch 0 ≡ Some (End n) → is_entry (slice_get st.table n.slot) n.generation ≡ false → Happens st (event.Poll polling.Deliver) (behind st)
  Delivers : (n : EndName) (p : SlotState) → slice_get st.batch 0 ≡ Some (End n) → slice_get st.table n.slot ≡ Some n.generation → slice_get st.slots n.slot ≡ Some p
      → Happens st (event.Poll polling.Deliver) (behind (posted st n.slot n.generation p))
  Sweeps : (s g : ℕ) (p : SlotState) → slice_get st.table s ≡ Some g → slice_get st.slots s ≡ Some p → Happens st (event.Poll (polling.Sweep s)) (posted st s g p)
  Puts : (t : Ticket) (rest : List Ticket) → st.hand ≡ t ∷ rest → Happens st (event.Poll polling.Put) (record st { hand = rest; ready = st.ready ++ t ∷ [] })
  HandsIn : (w : ℕ) (k : WorkerState) (t : Ticket) (rest : List Ticket) → slice_get st.workers w ≡ Some k → k.hand ≡ t ∷ rest
      → Happens st (event.Work w act.Put) (with_worker (record st { ready = st.ready ++ t ∷ [] }) w (record k { hand = rest }))
  Pops : (w : ℕ) (k : WorkerState) (t : Ticket) (rest : List Ticket) → slice_get st.workers w ≡ Some k → k.doing ≡ Idle → st.ready ≡ t ∷ rest
      → Happens st (event.Work w act.Pop) (doing (record st { ready = rest }) w k (Tries t))
  Claims : (w : ℕ) (k : WorkerState) (t : Ticket) (p : SlotState) → slice_get st.workers w ≡ Some k → k.doing ≡ Tries t → slice_get st.slots t.slot ≡ Some p
      → Happens st (event.Work w act.Claim) (doing (with_place st t.slot (record p { holder = By w })) w k (Holds t.slot st.limits.budget))
  Leaves : (w : ℕ) (k : WorkerState) (t : Ticket) (p : SlotState) → slice_get st.workers w ≡ Some k → k.doing ≡ Tries t → slice_get st.slots t.slot ≡ Some p
      → is_held p.holder ≡ true → Happens st (event.Work w act.Claim) (doing st w k Idle)
  Takes : (w : ℕ) (h : Holding st w) → Happens st (event.Work w act.Take) (taken h)
  Calls : (w : ℕ) (h : Holding st w) (r : Reply) (m : Made st h.c r) → Happens st (event.Work w (act.Call r)) (called_on h m)
  Posts : (w : ℕ) (h : Holding st w) → Happens st (event.Work w act.Post) (with_place st h.s (with_note h.p h.c.pair.generation))
  Releases : (w : ℕ) (h : Holding st w) → may_release h.c (is_nonempty h.p.notes) ≡ true → Happens st (event.Work w act.Release) (released h)
  Expires : (w : ℕ) (h : Holding st w) → is_overdue st.second st.limits.idle h.c.pair ≡ true
      → Happens st (event.Work w act.Expire) (with_place st h.s (record h.p { connection = Some (record h.c { pair = timed_out h.c.pair }) }))
  Closes : (w : ℕ) (h : Holding st w) (one two : Registered) → end_there st h.c Client ≡ Some one → end_at (ends_with st h.c Client None) h.c.ends.target ≡ Some two
      → Happens st (event.Work w act.Close) (closed_on h one two)
  Retires : (w : ℕ) (k : WorkerState) (s : ℕ) (p : SlotState) → slice_get st.workers w ≡ Some k → k.doing ≡ Closed s → slice_get st.slots s ≡ Some p
      → Happens st (event.Work w act.Retire) (doing (with_place st s (record p { holder = Free })) w k (Retired s))
  Frees : (w : ℕ) (k : WorkerState) (s : ℕ) (p : SlotState) → slice_get st.workers w ≡ Some k → k.doing ≡ Retired s
      → Happens st (event.Work w act.Free) (doing (record st { free = free_after st.free s p }) w k Idle)

module _ (st : State) where
  abbrev On : Event → Option State → Type 0
  On e o = Kept (Happens st e) o

  changes : (s : ℕ) (side : Side) (change : Change) (c : Connection) → connection_at st s ≡ Some c → (f : EndState → Option (Told EndState Bool))
      → ((e : EndState) → f e ≡ change_of change e) → On (event.Network s side change) (over_kernel st (changed st.kernel (descriptor c.ends side) f))
  changes s side change c lies f is = kept_over _ _ (kept_bind _ (end_there st c side) (λ r there. kept_map _ (f r.socket) (λ t now.
      Changes s side change c r t lies there (sym (is r.socket) ∙ now))))

  network_does : (s : ℕ) (side : Side) (change : Change) (c : Connection) → connection_at st s ≡ Some c
      → On (event.Network s side change) (over_kernel st (change_at st.kernel (descriptor c.ends side) change))
  network_does s side (Arrive bytes) c lies = kept_over _ _ (kept_when _ _ (λ few. kept_bind _ (end_there st c side) (λ r there. kept_map _ (arrival r.socket bytes.items) (λ t now.
      Changes s side (Arrive bytes) c r t lies there now))))
  network_does s side Fin c lies = changes s side Fin c lies _ (λ e. refl)
  network_does s side Reset c lies = changes s side Reset c lies _ (λ e. refl)
  network_does s side Room c lies = changes s side Room c lies _ (λ e. refl)

  listens : (l : Listening) → On (event.Listen l) (listen st l)
  listens listening.Connect = kept_over _ _ (kept_guard _ _ (λ room. Connects))
  listens (listening.Accept Accepted) = kept_when (may_accept st) _ (λ may. kept_over _ (kernel.accept st.kernel Accepted)
      (kept_guard _ _ (λ some. Accepts (and_parts st.flag (not st.accepted && is_nonempty st.free) may).0)))
  listens (listening.Accept Blocked) = kept_when (may_accept st) _ (λ may. kept_over _ (kernel.accept st.kernel Blocked) (kept_guard _ _ (λ none. Blocks none)))
  listens (listening.Accept reply) = kept_when (may_accept st) _ (λ may. kept_some (Misses reply))
  listens listening.Drop = kept_guard _ _ (λ had. Drops)

  delivers_at : (n : EndName) (entry : Option ℕ) → slice_get st.batch 0 ≡ Some (End n) → slice_get st.table n.slot ≡ entry
      → Kept (λ (q : State). Happens st (event.Poll polling.Deliver) (record q { batch = drop 1 st.batch })) (delivered_at st n entry)
  delivers_at n None first is = kept_some (Passes n first (rw is))
  delivers_at n (Some g) first is = kept_if (g == n.generation) (post_at st n.slot g) (Some st)
      (λ own. let same = eqb-true g n.generation own in rw same (kept_map _ (slice_get st.slots n.slot) (λ p lies. Delivers n p first (is ∙ ap Some same) lies)))
      (λ other. kept_some (Passes n first (rw is other)))

  delivers : (n : Name) → slice_get st.batch 0 ≡ Some n
      → Kept (λ (q : State). Happens st (event.Poll polling.Deliver) (record q { batch = drop 1 st.batch })) (delivered st n)
  delivers Listener first = kept_some (Hears first)
  delivers Waker first = kept_some (Wakes first)
  delivers (End n) first = delivers_at n (slice_get st.table n.slot) first refl

  puts : (hand : List Ticket) → st.hand ≡ hand → On (event.Poll polling.Put) (put_by_poller st hand)
  puts [] is = kept_none
  puts (t ∷ rest) is = kept_some (Puts t rest is)

  polls : (p : Polling) → On (event.Poll p) (polled st p)
  polls polling.Open = kept_when st.accepted _ (λ had. kept_bind _ (slice_get st.free 0) (λ s first. kept_bind _ (slice_get st.slots s) (λ p lies. kept_bind _ (slice_get st.table s) (λ g entry.
      kept_through _ (token_of s Client (g + 1)) (kept_guard _ _ (λ client. kept_over _ (token_of s Target (g + 1)) (kept_guard _ _ (λ target. Opens s g p first lies entry))))))))
  polls (polling.Poll names) = kept_when _ _ (λ none. kept_over _ _ (kept_guard _ _ (λ may. Polls names none)))
  polls polling.Deliver = kept_bind _ (slice_get st.batch 0) (λ n first. kept_over _ (delivered st n) (delivers n first))
  polls (polling.Sweep s) = kept_when (is_limited st) _ (λ limited. kept_bind _ (slice_get st.table s) (λ g entry. kept_when (nat_lt 0 g) (post_at st s g) (λ over.
      kept_map _ (slice_get st.slots s) (λ p lies. Sweeps s g p entry lies))))
  polls polling.Put = puts st.hand refl

  made_is : (l : OpenConnection) (call : Call) (r : Reply) → made l call r ≡ kernel.called l.kernel (descriptor l.connection.ends (side_of call)) (end_after l.connection.pair call r)
  made_is l (Read side most) r = refl
  made_is l (Write side) r = refl
  made_is l (Join side) r = refl
  made_is l (Shut side) r = refl

  abbrev worker : Doing → List Ticket → WorkerState
  worker d hand = record { doing = d; hand = hand }

  pops : (w : ℕ) (hand ready : List Ticket) → slice_get st.workers w ≡ Some (worker Idle hand) → st.ready ≡ ready → On (event.Work w act.Pop) (popped st w (worker Idle hand) ready)
  pops w hand [] there is = kept_none
  pops w hand (t ∷ rest) there is = kept_some (Pops w _ t rest there refl is)

  claims_at : (w : ℕ) (t : Ticket) (hand : List Ticket) (p : SlotState) (held : Bool) → slice_get st.workers w ≡ Some (worker (Tries t) hand) → slice_get st.slots t.slot ≡ Some p
      → is_held p.holder ≡ held → Happens st (event.Work w act.Claim) (if held then doing st w (worker (Tries t) hand) Idle
      else doing (with_place st t.slot (record p { holder = By w })) w (worker (Tries t) hand) (Holds t.slot st.limits.budget))
  claims_at w t hand p true there lies held = Leaves w _ t p there refl lies held
  claims_at w t hand p false there lies held = Claims w _ t p there refl lies

  module _ (w s left : ℕ) (hand : List Ticket) (there : slice_get st.workers w ≡ Some (worker (Holds s left) hand)) where
    abbrev holding : (p : SlotState) (c : Connection) → slice_get st.slots s ≡ Some p → p.connection ≡ Some c → Holding st w
    holding p c lies is = record { k = worker (Holds s left) hand; s = s; left = left; p = p; c = c; there = there; does = refl; lies = lies; is = is }

    calls : (p : SlotState) (c : Connection) → slice_get st.slots s ≡ Some p → p.connection ≡ Some c → (r : Reply)
        → Kept (λ (l : OpenConnection). Happens st (event.Work w (act.Call r)) (doing (with_place (record st { kernel = l.kernel }) s
        (record p { connection = Some l.connection })) w (worker (Holds s left) hand) (Holds s (left - 1)))) (called st.second (record { kernel = st.kernel; connection = c }) r)
    unfolding called
    calls p c lies is r = kept_bind _ (next_call c.pair) (λ call next. kept_bind _ (told_of (record { kernel = st.kernel; connection = c }) call r) (λ t told. kept_when (fits c.pair call t) _ (λ fit.
        kept_over _ _ (rw (made_is (record { kernel = st.kernel; connection = c }) call r) (kept_bind _ (end_there st c (side_of call)) (λ old at. kept_map _ (end_after c.pair call r old.socket)
        (λ e replied. Calls w (holding p c lies is) r
        (record { call = call; value = t; old = old; socket = e; next = next; told = told; fit = fit; there = at; replied = replied }))))))))

  acts : (w : ℕ) (a : Act) (d : Doing) (hand : List Ticket) → slice_get st.workers w ≡ Some (worker d hand) → On (event.Work w a) (acted st w (worker d hand) a)
  unfolding slot_call
  acts w act.Put d [] there = kept_none
  acts w act.Put d (t ∷ rest) there = kept_some (HandsIn w _ t rest there refl)
  acts w act.Pop Idle hand there = kept_when _ _ (λ none. pops w hand st.ready there refl)
  acts w act.Claim (Tries t) hand there = kept_map _ (slice_get st.slots t.slot) (λ p lies. claims_at w t hand p (is_held p.holder) there lies refl)
  acts w act.Take (Holds s left) hand there = kept_bind _ (slice_get st.slots s) (λ p lies. kept_over _ _ (kept_map _ p.connection (λ c is. Takes w (holding w s left hand there p c lies is))))
  acts w (act.Call r) (Holds s left) hand there = kept_when (nat_lt 0 left) _ (λ some. kept_bind _ (slice_get st.slots s) (λ p lies. kept_over _ _ (kept_bind _ p.connection (λ c is.
      kept_over _ _ (calls w s left hand there p c lies is r)))))
  acts w act.Post (Holds s left) hand there = kept_bind _ (slice_get st.slots s) (λ p lies. kept_bind _ p.connection (λ c is.
      kept_guard _ _ (λ live. Posts w (holding w s left hand there p c lies is))))
  acts w act.Release (Holds s left) hand there = kept_bind _ (slice_get st.slots s) (λ p lies. kept_bind _ p.connection (λ c is.
      kept_guard _ _ (λ may. Releases w (holding w s left hand there p c lies is) may)))
  acts w act.Expire (Holds s left) hand there = kept_bind _ (slice_get st.slots s) (λ p lies. kept_over _ _ (kept_bind _ p.connection (λ c is. kept_over _ _
      (kept_guard _ _ (λ over. Expires w (holding w s left hand there p c lies is) over)))))
  acts w act.Close (Holds s left) hand there = kept_bind _ (slice_get st.slots s) (λ p lies. kept_bind _ p.connection (λ c is.
      kept_when (not (is_live (verdict c.pair))) _ (λ dead. kept_over _ _ (kept_through _ _
      (kept_map _ (end_there st c Client) (λ one at. kept_over _ _ (kept_map _ (end_at (ends_with st c Client None) c.ends.target) (λ two as_well.
      Closes w (holding w s left hand there p c lies is) one two at as_well))))))))
  acts w act.Retire (Closed s) hand there = kept_map _ (slice_get st.slots s) (λ p lies. Retires w _ s p there refl lies)
  acts w act.Free (Retired s) hand there = kept_map _ (slice_get st.slots s) (λ p lies. Frees w _ s p there refl)
  acts w a d hand there = kept_none

  pub happens : (e : Event) → On e (step st e)
  happens (event.Tick n) = kept_guard _ _ (λ may. Ticks n)
  happens (event.Network s side change) = kept_bind _ (connection_at st s) (λ c lies. network_does s side change c lies)
  happens (event.Spurious who) = kept_bind _ (watched_of st who) (λ x is. kept_over _ _ (kept_map _ (name_watched st.kernel x) (λ n named. Reports who n)))
  happens (event.Vanish reports.Listener) = kept_over _ _ (kept_guard _ _ (λ may. WithdrawsListener (second_so (has Listener st.kernel.queue) _ may)))
  happens (event.Vanish reports.Waker) = kept_over _ _ (kept_guard _ _ (λ may. WithdrawsWaker))
  happens (event.Vanish (reports.End s side)) = kept_through _ _ (kept_map _ (connection_at st s) (λ c lies. kept_over _ _ (kept_through _ _ (kept_map _ (end_there st c side) (λ r there.
      kept_guard _ _ (λ may. Withdraws s side c r lies there (let quiet = second_so (has (End r.token) st.kernel.queue) _ may in rw there at quiet)))))))
  happens (event.Listen l) = listens l
  happens (event.Poll p) = polls p
  happens (event.Work w a) = kept_bind _ (slice_get st.workers w) (λ k there. acts w a k.doing k.hand there)

run_kept : (P : State → Type 0) → ((st : State) (e : Event) (q : State) → P st → Happens st e q → P q) → (st : State) (events : List Event) → P st → Kept P (run st events)
run_kept P each st [] here = kept_some here
run_kept P each st (e ∷ events) here = kept_bind _ (step st e) (λ q is. run_kept P each q events (each st e q here (kept_at (step st e) q is (happens st e))))

-- what each event keeps holds after a run
pub holds_after : (P : State → Type 0) → ((st : State) (e : Event) (q : State) → P st → Happens st e q → P q) → (st w : State) (events : List Event) → P st
    → run st events ≡ Some w → P w
holds_after P each st w events here ran = kept_at (run st events) w ran (run_kept P each st events here)

-- The listener

abbrev hears : List Name → Bool
hears names = has Listener names

pub record Listens (st : State) : Type 0 where
  pub covered : is_covered st.flag st.kernel.armed (nat_lt 0 st.kernel.backlog) (hears st.kernel.queue || hears st.batch) ≡ true

-- nothing is known of a report where it isn't ready
pub cover_unready : (flag armed ready r q : Bool) → ready ≡ false → is_covered flag armed ready r ≡ true → is_covered flag armed ready q ≡ true
cover_unready flag armed ready r q none h = grind arith

-- the name is queued or in the batch where it was before
goes_on : {st next : State} → next.flag ≡ st.flag → next.kernel.armed ≡ st.kernel.armed → next.kernel.backlog ≡ st.kernel.backlog
    → (hears st.kernel.queue ≡ true → (hears next.kernel.queue || hears next.batch) ≡ true) → (hears st.batch ≡ true → (hears next.kernel.queue || hears next.batch) ≡ true)
    → Listens st → Listens next
goes_on {st} {next} flag armed backlog queue batch l = grind arith

-- another queue has it where this one has
queues_on : {st : State} {ends : List (Option Registered)} {queue : List Name} {slots : List SlotState} {workers : List WorkerState} {past : List Past}
    → (hears st.kernel.queue ≡ true → hears queue ≡ true)
    → Listens st → Listens (record st { kernel = record st.kernel { ends = ends; queue = queue }; slots = slots; workers = workers; past = past })
queues_on {st} {queue = queue} more l = grind arith

shorter : {st : State} {hand : List Ticket} {slots : List SlotState} (n : Name) → slice_get st.batch 0 ≡ Some n → same Listener n ≡ false → Listens st
    → Listens (record (behind st) { hand = hand; slots = slots })
shorter {st} n first other l = grind (arith, batch_left Listener n st.batch first other)

connected : (flag armed ready : Bool) (queue : List Name) (r : Bool) → is_covered flag armed ready (hears queue || r) ≡ true
    → is_covered flag false true (hears (reported queue Listener armed) || r) ≡ true
connected flag armed ready queue r h = grind (arith, reported_has Listener true queue)

unheard : (xs : List Name) → (length xs == 0) ≡ true → hears xs ≡ false
unheard [] none = refl
unheard (x ∷ xs) none = absurd (let empty = eqb-true (length (x ∷ xs)) 0 none in omega arith)

listens_on : (st : State) {e : Event} {q : State} → Listens st → Happens st e q → Listens q
listens_on st l (Changes s side change c r t lies there now) = queues_on (has_reported Listener (End r.token) t.told st.kernel.queue) l
listens_on st l (Reports who n) = queues_on (has_with Listener n st.kernel.queue) l
listens_on st l (WithdrawsListener none) =
    let none = eqb-true st.kernel.backlog 0 none in
    record {
      covered = rw none (cover_unready st.flag st.kernel.armed false (hears st.kernel.queue || hears st.batch)
          (hears (without_name Listener st.kernel.queue) || hears st.batch) refl (rw none at l.covered));
    }
listens_on st l WithdrawsWaker = queues_on (has_without Listener Waker st.kernel.queue refl) l
listens_on st l (Withdraws s side c r lies there quiet) = queues_on (has_without Listener (End r.token) st.kernel.queue refl) l
listens_on st l Connects = record {
  covered =
      let some = lt-ltb 0 (st.kernel.backlog + 1) (omega arith) in
      rw some (connected st.flag st.kernel.armed (nat_lt 0 st.kernel.backlog) st.kernel.queue (hears st.batch) l.covered);
}
listens_on st l (Accepts up) = record { covered = rw up refl }
listens_on st l (Blocks none) = record { covered = rw (eqb-true st.kernel.backlog 0 none) refl }
listens_on st l (Polls names none) = goes_on refl refl refl (has_polled Listener names.items st.kernel.queue) (λ h. absurd (cc (unheard st.batch none))) l
listens_on st l (Hears first) = record { covered = refl }
listens_on st l (Wakes first) = shorter Waker first refl l
listens_on st l (Passes n first other) = shorter (End n) first refl l
listens_on st l (Delivers n p first entry lies) = shorter (End n) first refl l
listens_on st l (Closes w h one two at as_well) = queues_on (λ h. has_without Listener (End two.token) (without_name (End one.token) st.kernel.queue) refl
    (has_without Listener (End one.token) st.kernel.queue refl h)) l
listens_on st l _ = record { covered = l.covered }

tells : (armed ready rep none : Bool) → (ready ≡ false → none ≡ true) → is_covered false armed ready rep ≡ true → (none || rep) ≡ true
tells armed ready rep none waits h = grind arith

listener_holds : (st : State) → Listens st → ListenerHolds st
listener_holds st l = grind (arith, nat_tests)

-- so the listener's clause holds after every run from the opening world
pub listener_after : (l : Limits) (events : List Event) (w : State) → run (opening l) events ≡ Some w → ListenerHolds w
listener_after l events w ran = listener_holds w (holds_after Listens (λ st e q. listens_on st) (opening l) w events (record { covered = refl }) ran)
