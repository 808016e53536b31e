-- The headline of every run.
pub mod Ends
unfoldable pub use Ends.*

both_if : (xs ys : List Event) (o : Option State) → ((q : State) → run q (xs ++ ys) ≡ option_and_then (λ (r : State). run r ys) (run q xs))
    → option_and_then (λ (q : State). run q (xs ++ ys)) o ≡ option_and_then (λ (r : State). run r ys) (option_and_then (λ (q : State). run q xs) o)
both_if xs ys None each = refl
both_if xs ys (Some q) each = each q

run_both : (st : State) (xs ys : List Event) → run st (xs ++ ys) ≡ option_and_then (λ (r : State). run r ys) (run st xs)
run_both st [] ys = refl
run_both st (x ∷ xs) ys = both_if xs ys (step st x) (λ q. run_both q xs ys)

one_step : (o : Option State) → option_and_then (λ (p : State). Some p) o ≡ o
one_step o = grind arith

-- where the events lead to a world in which one more can happen
pub run_and : (st q r : State) (events : List Event) (e : Event)
    → run st events ≡ Some q → step q e ≡ Some r → run st (events ++ e ∷ []) ≡ Some r
run_and st q r events e ran one = rw (run_both st events (e ∷ []), ran) (one_step (step q e) ∙ one)

-- after the first i events comes the event at i
pub run_more : (st q : State) (events : List Event) (i : ℕ) (e : Event)
    → run st (take i events) ≡ Some q → slice_get events i ≡ Some e → run st (take (i + 1) events) ≡ step q e
run_more st q events i e ran here =
    rw (take_more events i e (slice_get_within events i e here), get_or_from_slice_get events i e e here, run_both st (take i events) (e ∷ []), ran) (one_step (step q e))

-- a ticket that counts is there

either_counts : (a b : Bool) (n m : ℕ) → (1 ≤ n → a ≡ true) → (1 ≤ m → b ≡ true) → 1 ≤ n + m → (a || b) ≡ true
either_counts a b n m first second some = grind arith

any_of : {X : Type 0} (f : X → ℕ) (test : X → Bool) (xs : List X) → ((x : X) → 1 ≤ f x → test x ≡ true) → 1 ≤ total f xs → list_any test xs ≡ true
any_of f test [] each some = absurd (omega arith)
any_of f test (x ∷ xs) each some = either_counts (test x) (list_any test xs) (f x) (total f xs) (each x) (any_of f test xs each) some

in_hand : (s g : ℕ) (hand : List Ticket) → 1 ≤ total (names s g) hand → list_any (is_ticket s g) hand ≡ true
in_hand s g hand some = any_of _ (is_ticket s g) hand (λ t. sure _) some

with_worker_at : (s g : ℕ) (d : Doing) (hand : List Ticket) → 1 ≤ tried_right s g d + total (names s g) hand → (tries s g d || list_any (is_ticket s g) hand) ≡ true
with_worker_at s g d hand some = grind (arith, in_hand s g hand)

ticketed : (st : State) (s g : ℕ) → 1 ≤ right_tickets st s g → is_ticketed st s g ≡ true
ticketed st s g some = grind (arith, in_hand s g st.ready, in_hand s g st.hand, any_of (worker_right s g) (has_ticket s g) st.workers (λ k here. with_worker_at s g k.doing k.hand here))

-- a report that is there is one of the connection

reports_one : (a : EndName) (names : List Name) → has (End a) names ≡ true → list_any (is_report a.slot a.generation) names ≡ true
reports_one a [] h = absurd (cc)
reports_one a (Listener ∷ names) h = reports_one a names h
reports_one a (Waker ∷ names) h = reports_one a names h
reports_one a (End b ∷ names) h = or_then (same (End a) (End b)) (has (End a) names)
    (λ here. let is = same_end_is a b here in or_left (is_report a.slot a.generation (End b)) _ (rw (is, eq-eqb b.slot b.slot refl, eq-eqb b.generation b.generation refl)))
    (λ later. or_right (is_report a.slot a.generation (End b)) _ (reports_one a names later)) h

reported : (st : State) (a : EndName) (notes : List ℕ) → notes ≡ [] → has_report st a notes ≡ true → is_reported st a.slot a.generation ≡ true
reported st a notes none h = grind (arith, reports_one a st.kernel.queue, reports_one a st.batch)

open_one : (o : Option Registered) → gives o ≡ true → (x : Registered) × (o ≡ Some x) × (is_readable x.socket ≡ true)
open_one o h = grind arith

room_one : (o : Option Registered) → takes o ≡ true → (x : Registered) × (o ≡ Some x) × (is_writable x.socket ≡ true)
room_one o h = grind arith

-- the rings are as long as the limits say
capacity_of : (p : PairState) (s g r : ℕ) (d : Direction) → pair_place p ≡ record { slot = s; generation = g; up_capacity = r; down_capacity = r } → (stream_of p d).capacity ≡ r
capacity_of p s g r d e = grind arith

empty_so : (xs : List ℕ) → nat_lt 0 (length xs) ≡ false → xs ≡ []
empty_so xs h = nil_from_length xs (grind (arith, nat_tests))

drained : (s : Stream) → is_drained s ≡ true → IsDrained s
drained s h = record { ended = grind arith; empty = empty_so (waiting s) (grind arith); kept = grind arith }

both : {C : Type 0} (a b : Bool) → (a ≡ true → b ≡ true → C) → (a && b) ≡ true → C
both a b each h = each (grind arith) (grind arith)

-- a connection that rests, in a slot that nobody holds, without notes
record Rests (st : State) (s : ℕ) (p : SlotState) (c : Connection) : Type 0 where
  lies : slice_get st.slots s ≡ Some p
  is : p.connection ≡ Some c
  none : p.notes ≡ []
  stands : pair_place c.pair ≡ standing (facts st s p.generation) p.generation
  rest : (d : Direction) → IsAtRest c.pair d

module _ (st : State) (s : ℕ) (p : SlotState) (c : Connection) (r : Rests st s p c) (edges : EdgesHold st) where
  reads_due : (side : Side) → (flags_of c.pair side).read ≡ false → gives (end_there st c side) ≡ true → is_reported st s c.pair.generation ≡ true
  reads_due side down ready =
      let x = open_one (end_there st c side) ready in
      grind (arith, reported st (record { slot = s; side = side; generation = c.pair.generation }) p.notes r.none, edges s p c side x.0 r.lies r.is x.1, x)

  writes_due : (side : Side) → (flags_of c.pair side).write ≡ false → takes (end_there st c side) ≡ true → is_reported st s c.pair.generation ≡ true
  writes_due side down ready =
      let x = room_one (end_there st c side) ready in
      grind (arith, reported st (record { slot = s; side = side; generation = c.pair.generation }) p.notes r.none, edges s p c side x.0 r.lies r.is x.1, x)

  comes_in : (d : Direction) → has_place st.limits.ring (stream_of c.pair d) ≡ true → gives (end_there st c (source d)) ≡ true → is_reported st s c.pair.generation ≡ true
  comes_in d place ready = reads_due (source d) ((r.rest d).unread (grind arith) (grind (arith, nat_tests, capacity_of c.pair s p.generation st.limits.ring d r.stands))) ready

  goes_out : (d : Direction) → is_waiting (stream_of c.pair d) ≡ true → takes (end_there st c (destination d)) ≡ true → is_reported st s c.pair.generation ≡ true
  goes_out d wait ready = writes_due (destination d) ((r.rest d).waits (grind (arith, nat_tests))) ready

  passes_on : (d : Direction) → is_drained (stream_of c.pair d) ≡ true → (is_joined c.pair (destination d) || takes (end_there st c (destination d))) ≡ true
      → is_reported st s c.pair.generation ≡ true
  passes_on d dry next = writes_due (destination d) ((r.rest d).unasked (drained (stream_of c.pair d) dry)) (grind (arith, (r.rest d).unjoined (drained (stream_of c.pair d) dry)))

  flows_due : (d : Direction) → flows st.limits.ring st.kernel c d ≡ true → is_reported st s c.pair.generation ≡ true
  flows_due d h = grind (arith, comes_in d, goes_out d, passes_on d)

  either_way : (live : Bool) → live ≡ true → (not live || (flows st.limits.ring st.kernel c Up || flows st.limits.ring st.kernel c Down)) ≡ true
      → is_reported st s c.pair.generation ≡ true
  either_way false live h = absurd (cc)
  either_way true live h = or_then _ _ (flows_due Up) (flows_due Down) h

-- by who holds the slot

live_is : (v : Verdict) → is_live v ≡ true → v ≡ Live
live_is v h = grind arith

-- nobody holds it: with notes there is a ticket, and without notes the connection rests
unheld_due : (laws : CoreLaws) (st : State) (s : ℕ) (p : SlotState) (c : Connection) (some : Bool) → is_nonempty p.notes ≡ some → p.holder ≡ Nobody → slice_get st.slots s ≡ Some p
    → p.connection ≡ Some c → SlotOk (facts st s p.generation) p → EdgesHold st → could_move st.limits.ring st.kernel c ≡ true
    → (is_reported st s c.pair.generation || is_ticketed st s c.pair.generation) ≡ true
unheld_due laws st s p c true noted none lies is sv edges moving =
    let own = own_generation (facts st s p.generation) p c (sv.connection c is).stands in
    let count = rw (none, noted) at sv.tickets in
    or_right (is_reported st s c.pair.generation) _ (rw own (ticketed st s p.generation (omega arith)))
unheld_due laws st s p c false noted none lies is sv edges moving =
    let ok = sv.connection c is in
    let empty = empty_so p.notes noted in
    let live = ok.live none in
    let rest : Rests st s p c = record { lies = lies; is = is; none = empty; stands = ok.stands; rest = laws.rest c.pair (live_is (verdict c.pair) live) (ok.rest none empty) } in
    or_left _ (is_ticketed st s c.pair.generation) (either_way st s p c rest edges (is_live (verdict c.pair)) live moving)

held_due : (laws : CoreLaws) (st : State) (s : ℕ) (p : SlotState) (c : Connection) (h : Holder) → p.holder ≡ h → slice_get st.slots s ≡ Some p → p.connection ≡ Some c
    → SlotOk (facts st s p.generation) p → EdgesHold st → could_move st.limits.ring st.kernel c ≡ true
    → (is_by_worker h || (is_reported st s c.pair.generation || is_ticketed st s c.pair.generation)) ≡ true
held_due laws st s p c h held lies is sv edges moving = grind (arith, unheld_due laws st s p c (is_nonempty p.notes) refl)

pub movable_is_due : (laws : CoreLaws) (st : State) → Turns st → EdgesHold st → (s : ℕ) → movable st s ≡ true → due st s ≡ true
movable_is_due laws st turns edges s moving = grind (arith, held_due laws st s, turns.each s)

-- When each connection last moved: not before any event that opened it or moved something of it, and not after the
-- second that it is. One that expires moved nothing for the idle limit; and a pair fails only so, or by a failed call.

-- the first event happened, and then the others
goes_on : (o : Option State) (q : State) (events : List Event) {p : Option State} → p ≡ o → option_and_then (λ (m : State). run m events) o ≡ Some q → (m : State)
    × (p ≡ Some m) × (run m events ≡ Some q)
goes_on o q events is ran = grind arith

throughout_more : {Each Other : State → Event → Type 0} (st : State) (events : List Event) → Throughout Each st events → ((st : State) (e : Event) → Each st e → Other st e)
    → Throughout Other st events
throughout_more st [] all more = tt
throughout_more st (e ∷ events) all more = (more st e all.0, λ q is. throughout_more q events (all.1 q is) more)

throughout_further : (Each : State → Event → Type 0) (first st : State) (done : List Event) (e : Event) → run first done ≡ Some st → Each st e → Throughout Each first done
    → Throughout Each first (done ++ e ∷ [])
throughout_further Each first st [] e ran now all = (let same : first ≡ st = cc in rw same now, λ q is. tt)
throughout_further Each first st (d ∷ done) e ran now all = (all.0, λ q is. throughout_further Each q st done e (rw is at ran) now (all.1 q is))

-- an event comes by this second
abbrev ComesBy : ℕ → State → Event → Type 0
ComesBy m st e = st.second ≤ m

-- and one that opens this connection or moves something of it does
abbrev MovesBy : ℕ → Named → State → Event → Type 0
MovesBy m x st e = connection_moved st e ≡ Some x → st.second ≤ m

record LastMoved (first : State) (done : List Event) (st : State) (s : ℕ) (c : Connection) : Type 0 where
  now : c.pair.moved ≤ st.second
  each : Throughout (MovesBy c.pair.moved (named s c.pair.generation)) first done

record TimesOk (first : State) (done : List Event) (st : State) : Type 0 where
  limits : st.limits ≡ first.limits
  past : Throughout (ComesBy st.second) first done
  moved : (s : ℕ) (p : SlotState) (c : Connection) → slice_get st.slots s ≡ Some p → p.connection ≡ Some c → LastMoved first done st s c

-- every failure so far, live and closed, is one that this names
record FailuresOk (failed : Failure → Type 0) (st : State) : Type 0 where
  lying : (s : ℕ) (p : SlotState) (c : Connection) (fault : Fault) → slice_get st.slots s ≡ Some p → p.connection ≡ Some c → verdict c.pair ≡ Failed fault
      → failed (failed_with s c.pair.generation fault)
  closed : (i : ℕ) (p : Past) (fault : Fault) → slice_get st.past i ≡ Some p → p.verdict ≡ Failed fault → failed (failed_with p.slot p.generation fault)

-- The connection that an event opens or moves has moved now

plain_moves : (r : Reply) → is_movement r ≡ true → Kept (λ (t : answer.AnswerValue). moves t ≡ true) (plain r)
plain_moves r is = grind arith

told_moves : (l : OpenConnection) (call : Call) (r : Reply) → is_movement r ≡ true → Kept (λ (t : answer.AnswerValue). moves t ≡ true) (told_of l call r)
told_moves l call r is = grind (arith, plain_moves r is)

only_if : {X : Type 0} (b : Bool) (o : Option X) (x : X) → (if b then o else None) ≡ Some x → (b ≡ true) × (o ≡ Some x)
only_if b o x h = grind arith

-- a slot changed, and has a connection that moved now
here_now : (xs : List SlotState) (now s g : ℕ) {old : SlotState} (new : SlotState) {b : Connection} → slice_get xs s ≡ Some old → new.connection ≡ Some b → b.pair.moved ≡ now
    → (i : ℕ) (p : SlotState) (c : Connection) → slice_get (slice_set xs s new) i ≡ Some p → p.connection ≡ Some c → Some (named s g) ≡ Some (named i c.pair.generation)
    → now ≤ c.pair.moved
here_now xs now s g {old} new {b} lies is moved i p c here lying named_so = grind (arith, get-set_same xs s old new lies)

module _ {st : State} where
  holds_it : {w : ℕ} (h : Holding st w) → held_connection st w ≡ Some (named h.s h.c.pair.generation)
  holds_it h = rw (h.there, h.does, h.lies, h.is) refl

  moves_on : {e : Event} {q : State} → Happens st e q → (i : ℕ) (p : SlotState) (c : Connection) → slice_get q.slots i ≡ Some p → p.connection ≡ Some c
      → connection_moved st e ≡ Some (named i c.pair.generation) → st.second ≤ c.pair.moved
  moves_on (Opens s g old first lies entry) i p c here lying is =
      here_now st.slots st.second s (g + 1) _ lies refl refl i p c here lying (let next : next_opened st ≡ Some (named s (g + 1)) = rw (first, entry) refl in sym next ∙ is)
  moves_on (Calls w h r m) i p c here lying is =
      let moved = only_if (is_movement r) (held_connection st w) (named i c.pair.generation) is in
      let it = kept_at (told_of (record { kernel = st.kernel; connection = h.c }) m.call r) m.value m.told (told_moves (record { kernel = st.kernel; connection = h.c }) m.call r moved.0) in
      here_now st.slots st.second h.s h.c.pair.generation _ h.lies refl (rw it) i p c here lying (sym (holds_it h) ∙ moved.1)
  moves_on _ i p c here lying is = absurd (cc)

  clock : {e : Event} {q : State} → Happens st e q → (q.limits ≡ st.limits) × (st.second ≤ q.second)
  clock (Ticks n) = (refl, omega arith)
  clock _ = (refl, le_refl st.second)

  -- the failures of closed connections
  closed_fails : (failed : Failure → Type 0) {e : Event} {q : State} → Happens st e q → FailuresOk failed st → (i : ℕ) (p : Past) (fault : Fault) → slice_get q.past i ≡ Some p
      → p.verdict ≡ Failed fault → failed (failed_with p.slot p.generation fault)
  closed_fails failed (Closes w h one two at as_well) ok i p fault here failing = elim (last_of st.past i _ p here) [
    | inl before ↦ ok.closed i p fault before failing
    | inr is ↦ subst (λ (r : Past). failed (failed_with r.slot r.generation fault)) is (ok.lying h.s h.p h.c fault h.lies h.is (ap (λ (r : Past). r.verdict) is ∙ failing))
  ]
  closed_fails failed _ ok i p fault here failing = ok.closed i p fault here failing

-- Lists of events

-- what is known of a failure after these events
abbrev known : State → List Event → Failure → Type 0
known first done f = FailedAfter first done f.slot f.generation f.fault

failed_more : (st : State) (done more : List Event) (f : Failure) → FailedBy st done f → FailedBy st (done ++ more) f
failed_more st [] more f h = absurd h
failed_more st (e ∷ done) more f (inl h) = inl h
failed_more st (e ∷ done) more f (inr h) = inr (h.0, h.1, failed_more h.0 done more f h.2)

failed_now : (first st : State) (done : List Event) (e : Event) (f : Failure) → run first done ≡ Some st → failure_by st e ≡ Some f → FailedBy first (done ++ e ∷ []) f
failed_now first st [] e f ran now = inl (let same : first ≡ st = cc in rw same now)
failed_now first st (d ∷ done) e f ran now =
    let m = goes_on (step first d) st done refl ran in
    inr (m.0, m.1, failed_now m.0 st done e f m.2 now)

known_more : (first : State) (done more : List Event) (s g : ℕ) (fault : Fault) → FailedAfter first done s g fault → FailedAfter first (done ++ more) s g fault
known_more first done more s g (Broken side call kind) h = failed_more first done more _ h
known_more first done more s g reason.Idle h = record {
  before = h.before;
  after = h.after ++ more;
  worker = h.worker;
  state = h.state;
  split = ap (λ (es : List Event). es ++ more) h.split ∙ append_assoc h.before (event.Work h.worker act.Expire ∷ h.after) more;
  reached = h.reached;
  held = h.held;
  idle = h.idle;
}

-- the times and the failures of all that happened so far
record AllKnown (first : State) (done : List Event) (st : State) : Type 0 where
  times : TimesOk first done st
  failures : FailuresOk (known first done) st

module _ (laws : CoreLaws) (l : Limits) {st : State} (done : List Event) (ran : run (opening l) done ≡ Some st) (all : AllKnown (opening l) done st) where
  known_now : {e : Event} {q : State} → Happens st e q → (f : Failure) → cause_by st e ≡ Some f → known (opening l) (done ++ e ∷ []) f
  known_now (Expires w h over) f now =
      let late : IsOverdue st.second st.limits.idle h.c.pair = (laws.overdue st.second st.limits.idle h.c.pair).exact.0 over in
      let long = late.long in
      let same = ap (λ (l : Limits). l.idle) all.times.limits in
      let is : failed_with h.s h.c.pair.generation reason.Idle ≡ f = (let it = rw (holds_it h) at now in cc) in
      rw (← is) (record {
        before = done;
        after = [];
        worker = w;
        state = st;
        split = refl;
        reached = ran;
        held = holds_it h;
        idle = throughout_more {Each = MovesBy h.c.pair.moved (named h.s h.c.pair.generation)} (opening l) done (all.times.moved h.s h.p h.c h.lies h.is).each
            (λ m e by moved. let early = by moved in let before = late.before in omega arith);
      })
  known_now (Calls w h (reply.Failed kind) m) f now =
      let it : failure_by st (event.Work w (act.Call (reply.Failed kind))) ≡ Some (failed_with h.s h.c.pair.generation (broken_by kind m.call)) = rw (h.there, h.does, h.lies, h.is, m.next) refl in
      let is : failed_with h.s h.c.pair.generation (broken_by kind m.call) ≡ f = cc (sym it ∙ now) in
      rw (← is) (failed_now (opening l) st done _ _ ran it)
  known_now _ f now = absurd (cc)

  module _ {e : Event} {q : State} (h : Happens st e q) where
    was : (i : ℕ) (p : SlotState) → slice_get q.slots i ≡ Some p → Was st e i p
    was = was_in laws (λ s p there. ((turns_after laws l done st ran).each s p there).entry) h

    -- before this event, what lies in a slot after it had moved so
    lasts : (i : ℕ) (p : SlotState) (c : Connection) → slice_get q.slots i ≡ Some p → p.connection ≡ Some c → LastMoved (opening l) done st i c
    lasts i p c here lying = let w = was i p here in elim (w.connection c lying) [
      | inl b ↦ (let last = all.times.moved i w.old b.0 w.there b.1 in let since = b.2.since last.now in record {
        now = since.1;
        each = rw (b.2.generation) (throughout_more {Each = MovesBy b.0.pair.moved (named i b.0.pair.generation)} (opening l) done last.each (grind (arith, since)));
      })
      | inr fresh ↦ record { now = grind (arith, fresh); each = throughout_more {Each = ComesBy st.second} (opening l) done all.times.past (grind (arith, fresh)) }
    ]

    times_after : TimesOk (opening l) (done ++ e ∷ []) q
    times_after = record {
      limits = grind (arith, clock h, all.times);
      past = throughout_further (ComesBy q.second) (opening l) st done e ran (clock h).1 (throughout_more {Each = ComesBy st.second} (opening l) done all.times.past (grind (arith, clock h)));
      moved = λ i p c here lying. let last = lasts i p c here lying in record {
        now = grind (arith, clock h, last);
        each = throughout_further (MovesBy c.pair.moved (named i c.pair.generation)) (opening l) st done e ran (moves_on h i p c here lying) last.each;
      };
    }

    failures_after : FailuresOk (known (opening l) (done ++ e ∷ [])) q
    failures_after =
        let more : (f : Failure) → known (opening l) done f → known (opening l) (done ++ e ∷ []) f =
        (λ f. known_more (opening l) done (e ∷ []) f.slot f.generation f.fault) in record {
          lying = λ i p c fault here lying failing. let w = was i p here in elim (w.connection c lying) [
            | inl b ↦ rw (b.2.generation) (⊎_elim (λ before. more (failed_with i b.0.pair.generation fault) (all.failures.lying i w.old b.0 fault w.there b.1 before))
                (known_now h (failed_with i b.0.pair.generation fault)) (b.2.fails fault failing))
            | inr fresh ↦ absurd (let live = fresh.live in cc)
          ];
          closed = λ i p fault here failing. more (failed_with p.slot p.generation fault) (closed_fails (known (opening l) done) h all.failures i p fault here failing);
        }

run_known : (laws : CoreLaws) (l : Limits) (st q : State) (done events : List Event) → run (opening l) done ≡ Some st → AllKnown (opening l) done st → run st events ≡ Some q
    → AllKnown (opening l) (done ++ events) q
run_known laws l st q done [] ran all rest = let same : st ≡ q = cc in rw (append-nil done, ← same) all
run_known laws l st q done (e ∷ events) ran all rest =
    let m = goes_on (step st e) q events refl rest in
    let h = kept_at (step st e) m.0 m.1 (happens st e) in
    subst (λ (es : List Event). AllKnown (opening l) es q) (append_assoc done (e ∷ []) events) (run_known laws l m.0 q (done ++ e ∷ []) events
    (run_and (opening l) st m.0 done e ran m.1) (record { times = times_after laws l done ran all h; failures = failures_after laws l done ran all h }) m.2)

unconnected : (l : Limits) (s : ℕ) (p : SlotState) (c : Connection) → slice_get (opening l).slots s ≡ Some p → p.connection ≡ Some c → ⊥
unconnected l s p c here lying = grind (arith, get-replicate l.slots s (unused l.generation) p)

opening_known : (l : Limits) → AllKnown (opening l) [] (opening l)
opening_known l = record {
  times = record { limits = refl; past = tt; moved = λ s p c here lying. absurd (unconnected l s p c here lying) };
  failures = record {
    lying = λ s p c fault here lying failing. absurd (unconnected l s p c here lying);
    closed = λ i p fault here failing. absurd (cc);
  };
}

failures_hold : (laws : CoreLaws) (l : Limits) (events : List Event) (st : State) → run (opening l) events ≡ Some st → FailuresHold (opening l) st events
failures_hold laws l events st ran =
    let all = run_known laws l (opening l) st [] events refl (opening_known l) ran in
    record {
      lying = λ s c fault at_s failing. (let here = lies_in (slice_get st.slots s) c at_s in all.failures.lying s here.place c fault here.there here.connection failing);
      closed = all.failures.closed;
    }

pub headline : (laws : CoreLaws) (l : Limits) (events : List Event) (st : State) → run (opening l) events ≡ Some st → HeadlineHolds l events st
headline laws l events st ran = record {
  bytes = bytes_hold laws l events st ran;
  closed = closed_hold laws l events st ran;
  own = own_after laws l events st ran;
  failures = failures_hold laws l events st ran;
  due = movable_is_due laws st (turns_after laws l events st ran) (edges_hold laws l events st ran);
  listener = listener_after l events st ran;
}

pub support : (laws : CoreLaws) (l : Limits) (events : List Event) (st : State) → run (opening l) events ≡ Some st → SupportHolds st
support laws l events st ran = support_from st (turns_after laws l events st ran) (edges_hold laws l events st ran)
