-- What the threads do over wires that rest, act by act and call by call, and what happens there.
pub mod Steps
pub use Rattle.interleaving.{proofs.{Rest.Acts.{Calling, Ending, IsOut, Known, Opening}, Runs.run_on}, specs.{Threads.{calls, planned, registered, registering}, Late.{NextCall, Handed, Looks, Polled, Tells, Unasked, as_call, asked_by, asks, unasked}}}
pub use Rattle.kernel_model.specs.Replies.{bytes_read}
pub use Rattle.readiness.proofs.Runs.{failed_reads}
pub use Rattle.relay_core.specs.{Calls.{side_of}, Order.{next_call, offer}, Pairs.{PairState, verdict}, Replies.{after as answered, fits}, declared.call.Call.{Call as PairCall, TheVariants.{Join, Read, Shut, Write}}}
pub use Rattle.std.proofs.Common.{append_assoc, subst, ◌≤◌}
pub use Rattle.world.{proofs.Headline.Ends.Pairs.Holders.Events.Lists.{get-set_other}, specs.{Calls.{OpenConnection, made, plain as plain_answer, told_of}, Steps.{token_of}}}
pub use Steps.*
unfoldable pub use Rattle.world.specs.Calls.{called}
pub use Rattle.interleaving.specs.Late as wired
pub use Rattle.relay_core.specs.Replies as answer

-- What is known of a thread by the rest of its program

known_calls : {st : System} {i : ℕ} {t : Thread} {todo rest : List Act} → Known st i t todo → todo ≡ Call ∷ rest → (c : Connection) × IsOut st t c
known_calls (Calling c out call next) is = (c, out)
known_calls other is = cc

known_closes : {st : System} {i : ℕ} {t : Thread} {todo rest : List Act} → Known st i t todo → todo ≡ Close ∷ rest → (c : Connection) × IsOut st t c
known_closes (Ending c out) is = (c, out)
known_closes other is = cc

known_opens : {st : System} {i : ℕ} {t : Thread} {todo rest : List Act} → Known st i t todo → todo ≡ Register ∷ rest → i ≡ 0
known_opens (Opening first) is = first
known_opens other is = cc

-- Sockets close

abbrev shut : System → ℕ → Thread → List Act → Connection → ℕ → (Side → EndState) → System
shut s i t rest c g f = with_thread (record s {
  kernel = record s.kernel { ends = None ∷ None ∷ []; queue = without_name (End (token g Target)) (without_name (End (token g Client)) s.kernel.queue) };
  ends = None;
  past = s.past ++ record { slot = 0; generation = c.pair.generation; verdict = verdict c.pair; ends = record { client = f Client; target = f Target } } ∷ [];
}) i (record t { out = None; todo = rest })

close_is : (s : System) (i : ℕ) (t : Thread) (rest : List Act) (c : Connection) (g : ℕ) (f : Side → EndState) → c.ends ≡ two → s.kernel.ends ≡ open_as g f
    → alone.system_closed s i t rest c ≡ Some (shut s i t rest c g f)
close_is s i t rest c g f ends real = rw (ends, real) refl

gone_named : (g : ℕ) (m : Name) → is_named (Some g) m ≡ true → not (same (End (token g Client)) m) ≡ true
    → not (same (End (token g Target)) m) ≡ true → is_named None m ≡ true
gone_named g m is one both = grind arith

-- Sockets open

named_then : (g : ℕ) (m : Name) → is_named None m ≡ true → is_named (Some g) m ≡ true
named_then g m is = grind arith

open_is : (k : KernelState) (g : ℕ) → (k.ends ≡ []) ⊎ (k.ends ≡ None ∷ None ∷ []) → open_both k (token g Client) (token g Target) ≡ record { value = record k { ends = open_as g opened }; told = two }
open_is k g (inl is) = rw is refl
open_is k g (inr is) = rw is refl

idle_polls : {batch : List Name} {early : Bool} {o : Option ℕ} (poll : Option Polling) → is_none poll ≡ true → Polls batch early o poll
idle_polls None is = Idle
idle_polls (Some p) is = cc

polls_opened : {batch : List Name} {early : Bool} {o : Option ℕ} {poll : Option Polling} → Polls batch early o poll → Polls batch true None poll
polls_opened Idle = Idle
polls_opened (Busy none few once named gone within) = Busy none few once (λ e. cc) (λ e. refl) within

pub when_back : {X : Type 0} (b : Bool) (o : Option X) (x : X) → when b o ≡ Some x → (b ≡ true) × (o ≡ Some x)
when_back b o x h = grind arith

module _ (w : WiredSystem) (d : Delay) (e : List (Option Registered)) (q : List Name) (j : Joined (rim w.system) w.wires w.poll d e q) (rested : (is_none w.poll || poller_rests w.system) ≡ true) where
  abbrev here : System
  here = w.system

  abbrev there_now : System
  there_now = seen_as here e q (batch_there w.poll d.early here.batch)

  -- An act
  module _ (i : ℕ) (t : Thread) (there : slice_get here.threads i ≡ Some t) (known : Known there_now i t t.todo) (next : System) (wires : Side → Wire)
      (new : Some (if is_none here.ends && is_some next.ends then fresh_wires w.wires else w.wires) ≡ Some wires) where
    abbrev Acted : List Side → Bool → Type 0
    Acted sides closing = Led there_now (comes d.late sides ++ ((if closing then polls d.early w.poll else []) ++ Acts i ∷ [])) (record w { system = next; wires = wires })
        (record { late = cleared sides d.late; early = closing || d.early })

    act_apart : (act : Act) (rest : List Act) → t.todo ≡ act ∷ rest → is_apart act ≡ true → after_act here i t act rest ≡ Some next → Acted [] false
    act_apart act rest todo is h =
        let a = acts_apart here e q (batch_there w.poll d.early here.batch) i t act rest next is h in
        stays w d e q j (Acts i) next wires (rw (there, todo) a.0, a.1) (old_wires w d e q j next wires (ap (λ (r : Rim). r.ends) a.1) new)

    act_opens : {o : Option ℕ} (rest : List Act) (free : ℕ) → t.todo ≡ Register ∷ rest → here.free ≡ free → (1 ≤ here.free → here.ends ≡ None) → registering here i t rest free ≡ Some next
        → Both (rim here) w.wires w.poll d.late e o → AllNamed o here.kernel.queue → Acted [] false
    act_opens rest zero todo count free h both named = cc
    act_opens rest (suc more) todo count free h (Opened f s ends real as_seen oks) named = let never = free (omega (arith, count)) in cc
    act_opens rest (suc more) todo count free h (Away ends real empty late) named =
        let g = here.entry + 1 in
        let a = when_back here.accepted _ next h in
        option_and_then_some _ (token_of 0 Client g) next a.1 (λ client one opens.
        mapped _ (token_of 0 Target g) next opens (λ target second after.
        let first = (guarded _ (token g Client) client one).1 in
        let other = (guarded _ (token g Target) target second).1 in
        let empty_here : (here.kernel.ends ≡ []) ⊎ (here.kernel.ends ≡ None ∷ None ∷ []) = elim empty [ inl is ↦ inl (real ∙ is) | inr is ↦ inr (real ∙ is) ] in
        let now : Told KernelState Descriptors = record { value = record here.kernel { ends = open_as g opened }; told = two } in
        let is : next ≡ registered here i t rest more g now =
        after ∙ ap (registered here i t rest more g) (rw (first, other) (open_is here.kernel g empty_here)) in
        let new_wires : wires ≡ fresh_wires w.wires = some_is new ∙ rw (ends, is) refl in
        let zero_is = rw (known_opens known todo) at there in
        let busy : poller_rests here ≡ false = rw (zero_is, todo) refl in
        let idle : is_none w.poll ≡ true = (let or = rw busy at rested in grind arith) in
        let does : step there_now (Acts i)
        ≡ Some (seen_as (registered here i t rest more g now) (open_as g opened) q
        (batch_there w.poll d.early here.batch)) =
        rw (there, todo, count, a.0, one, second, first, other) (ap (λ (told : Told KernelState Descriptors). Some (registered there_now i t rest more g told)) (open_is there_now.kernel g empty)) in
        rw (is, new_wires) (led (open_as g opened) q (ap (option_and_then (λ (x : System). Some x)) does)
        (Opened opened opened refl refl refl
        (λ side. rw (late side) (awake (opened side) (coming here.kernel.queue w.poll (End (token g side))) (fresh_wires w.wires side) (inl refl))))
        (record { each = λ m h. named_then g m (named.each m h) }) (idle_polls w.poll idle) j.on_way)))

    act_closes : {o : Option ℕ} (rest : List Act) → t.todo ≡ Close ∷ rest → (c : Connection) → IsOut there_now t c → acts here i t (Close ∷ rest) ≡ Some next
        → Both (rim here) w.wires w.poll d.late e o → AllNamed o here.kernel.queue → Polls here.batch d.early o w.poll → Acted (Client ∷ Target ∷ []) true
    act_closes rest todo c' out h (Away ends real empty late) named busy = let never = out.ends in cc
    act_closes rest todo c' out h (Opened {g} f s ends real as_seen oks) named busy =
        let b = batch_there w.poll d.early here.batch in
        let own : c'.ends ≡ two = (let has = out.ends in cc) in
        let c = all_come g here q b f s ends oks in
        let now = polled_now here (open_as g f) c.queue (Some (g, f)) (ends, refl) d.early w.poll rested busy in
        let last = seen_as here (open_as g f) now.queue (batch_there w.poll true here.batch) in
        let closed = rw out.out at h in
        let is : next ≡ shut here i t rest c' g f = some_is (sym (close_is here i t rest c' g f own real) ∙ closed) in
        let old : wires ≡ w.wires = some_is new ∙ rw ends refl in
        let client = End (token g Client) in
        let target = End (token g Target) in
        let does : step last (Acts i) ≡ Some (shut last i t rest c' g f) = rw (there, todo, out.out) (close_is last i t rest c' g f own refl) in
        rw (is, old) (led (None ∷ None ∷ []) (without_name target (without_name client now.queue))
        (rw as_seen (run_on (comes d.late (Client ∷ Target ∷ [])) _ _ _ c.leads
        ∙ (run_on (polls d.early w.poll) (Acts i ∷ []) _ last now.leads ∙ ap (option_and_then (λ (x : System). Some x)) does)))
        (Away refl refl (inr refl) (λ side. grind arith))
        (record {
          each = λ m h. (let a = has_less m target (without_name client here.kernel.queue) h in
              let b = has_less m client here.kernel.queue a.0 in gone_named g m (named.each m b.0) b.1 a.1);
        })
        (polls_opened busy) (λ m h.
        let a = has_less m target (without_name client now.queue) h in
        let b = has_less m client now.queue a.0 in
        let less = now.less m b.0 in
        let in0 = c.back m (grind (arith, less)) b.1 a.1 in
        let way = j.on_way m in0 in
        let was : has m here.kernel.queue ≡ true = grind (arith, less, way) in
        or_left _ _ (less_has m target (without_name client here.kernel.queue) (less_has m client here.kernel.queue was b.1) a.1)))

-- Calls

abbrev told_at : EndState → PairCall → Reply → Option answer.AnswerValue
told_at e (Read side most) (reply.Bytes n) = option_map (λ (bytes : List ℕ). answer.Bytes bytes) (bytes_read e most n)
told_at e call r = plain_answer r

told_is : (k : KernelState) (c : Connection) (g : ℕ) (f : Side → EndState) (call : PairCall) (r : Reply) → k.ends ≡ open_as g f → c.ends ≡ two
    → told_of (record { kernel = k; connection = c }) call r ≡ told_at (f (side_of call)) call r
told_is k c g f (Read side most) (reply.Bytes n) real own = rw (own, real, end_as g f side) refl
told_is k c g f call r real own = refl

made_is : (k : KernelState) (c : Connection) (g : ℕ) (f : Side → EndState) (call : PairCall) (r : Reply) → k.ends ≡ open_as g f → c.ends ≡ two → made (record { kernel = k; connection = c }) call r
    ≡ option_map (λ (x : EndState). record k { ends = open_as g (on (side_of call) x f) }) (after_call (f (side_of call)) (as_call c.pair call) r)
made_is k c g f (Read side most) r real own = rw own (called_at k g f side (λ (x : EndState). after_call x (machine.Read most) r) real)
made_is k c g f (Write side) r real own = rw own (called_at k g f side (λ (x : EndState). after_call x (machine.Write (offer c.pair side)) r) real)
made_is k c g f (Join side) r real own = rw own (called_at k g f side (λ (x : EndState). after_call x machine.Join r) real)
made_is k c g f (Shut side) r real own = rw own (called_at k g f side (λ (x : EndState). after_call x machine.Shut r) real)

-- the thread i is to make the call a
record Makes (st : System) (i : ℕ) (a : NextCall) : Type 0 where
  there : slice_get st.threads i ≡ Some a.thread
  rest : List Act
  todo : a.thread.todo ≡ Call ∷ rest
  out : a.thread.out ≡ Some a.connection
  next : next_call a.connection.pair ≡ Some a.asks

makes_back : (st : System) (i : ℕ) (a : NextCall) → asks st i ≡ Some a → Makes st i a
makes_back st i a h = option_and_then_some _ _ _ h (λ t there made. by t there t.todo refl made)
  where
    by : (t : Thread) → slice_get st.threads i ≡ Some t → (todo : List Act) → t.todo ≡ todo → asked_by t todo ≡ Some a → Makes st i a
    by t there (Call ∷ rest) todo h = option_and_then_some _ _ _ h (λ c out more. mapped _ _ _ more (λ call next is.
        rw is (record { there = there; rest = rest; todo = todo; out = out; next = next })))
    by t there other todo h = cc

abbrev its_call : NextCall → machine.Call
its_call a = as_call a.connection.pair a.asks

-- the call a has this answer r of the socket e
record Answer (e : EndState) (a : NextCall) (r : Reply) : Type 0 where
  value : answer.AnswerValue
  told : told_at e a.asks r ≡ Some value
  fit : fits a.connection.pair a.asks value ≡ true
  socket : EndState
  after : after_call e (its_call a) r ≡ Some socket

-- and then the thread goes on so
abbrev goes_so : System → ℕ → NextCall → KernelState → answer.AnswerValue → System
goes_so st i a k value = with_thread (record st { kernel = k }) i
    (planned st a.thread (a.thread.left - 1) (record a.connection { pair = answered st.second a.connection.pair a.asks value }))

module _ (st : System) (i : ℕ) (a : NextCall) (m : Makes st i a) (own : a.connection.ends ≡ two) (g : ℕ) (f : Side → EndState) (real : st.kernel.ends ≡ open_as g f) (r : Reply) where
  abbrev its_end : EndState
  its_end = f (side_of a.asks)

  abbrev then_kernel : EndState → KernelState
  then_kernel x = record st.kernel { ends = open_as g (on (side_of a.asks) x f) }

  abbrev lines : OpenConnection → System
  lines line = with_thread (record st { kernel = line.kernel }) i (planned st a.thread (a.thread.left - 1) line.connection)

  abbrev line_after : Option OpenConnection
  line_after = called st.second (record { kernel = st.kernel; connection = a.connection }) r

  call_is : step st (Calls i r) ≡ option_map lines line_after
  call_is = ap (option_and_then (λ (t : Thread). calls st i t r t.todo)) m.there ∙ (ap (calls st i a.thread r) m.todo
      ∙ ap (option_and_then (λ (c : Connection). option_map lines (called st.second (record { kernel = st.kernel; connection = c }) r))) m.out)

  called_is : line_after ≡ option_and_then (λ (v : answer.AnswerValue). when (fits a.connection.pair a.asks v)
      (option_map (λ (k : KernelState). record { kernel = k; connection = record a.connection { pair = answered st.second a.connection.pair a.asks v } })
      (option_map then_kernel (after_call its_end (its_call a) r)))) (told_at its_end a.asks r)
  unfolding called
  called_is = rw (m.next, told_is st.kernel a.connection g f a.asks r real own, made_is st.kernel a.connection g f a.asks r real own) refl

  answer_runs : (n : Answer its_end a r) → run st (Calls i r ∷ []) ≡ Some (goes_so st i a (then_kernel n.socket) n.value)
  answer_runs n = ap (option_and_then (λ (y : System). Some y)) (call_is ∙ ap (option_map lines) (rw (n.told, n.fit, n.after) at called_is))

  answer_ran : (next : System) → step st (Calls i r) ≡ Some next → (n : Answer its_end a r) × (next ≡ goes_so st i a (then_kernel n.socket) n.value)
  answer_ran next h = mapped _ _ _ (sym call_is ∙ h) (λ line does after.
      option_and_then_some _ _ _ (sym called_is ∙ does) (λ value word_told rest.
      let fit = when_back _ _ _ rest in
      mapped _ _ _ fit.1 (λ k made line_is.
      mapped _ _ _ made (λ x ends k_is.
      (record { value = value; told = word_told; fit = fit.0; socket = x; after = ends }, after ∙ rw (line_is, k_is) refl)))))

-- the bytes that a read gives are the same there: nothing is late while the wire reads
told_same : {e x : EndState} {b : Bool} {wire : Wire} {late : List Change} → EndOk e b wire late x → (p : PairState) (call : PairCall) (r : Reply) → may_call wire.reads (as_call p call) ≡ true
    → told_at e call r ≡ told_at x call r
told_same ok p (Read side most) (reply.Bytes n) may = rw (same_here ok (λ reads word_told some. cc)).1 refl
told_same ok p call r may = refl

-- a wire answers a read by itself as the socket there would
itself : {x : EndState} (a : NextCall) (call : PairCall) → a.asks ≡ call → (reads : Bool) → ((most : ℕ) → reads ≡ false → after_call x (machine.Read most) reply.Blocked ≡ Some x)
    → may_call reads (its_call a) ≡ false → (n : Answer x a reply.Blocked) × (n.socket ≡ x) × (n.value ≡ answer.Blocked)
itself {x} a (Read side most) is reads blocks asleep =
    (record { value = answer.Blocked; told = rw is refl; fit = rw is refl; socket = x; after = rw is (blocks most (rw is at asleep)) }, refl, refl)
itself a call is reads blocks asleep = let never = rw is at asleep in cc

deliver_ends : (st : System) (batch : List Name) (next : System) → delivers st batch ≡ Some next → next.ends ≡ st.ends
deliver_ends st batch next h = grind arith

closes_is : (before : System) (i : ℕ) (t : Thread) (todo : List Act) → slice_get before.threads i ≡ Some t → t.todo ≡ todo → closes before i ≡ is_close todo
closes_is before i t todo there is = ap (λ (o : Option Thread). unwrap_or (option_map (λ (t : Thread). is_close t.todo) o) false) there ∙ ap is_close is

-- A step

module _ (w : WiredSystem) (d : Delay) (e : List (Option Registered)) (q : List Name) (j : Joined (rim w.system) w.wires w.poll d e q) (rested : (is_none w.poll || poller_rests w.system) ≡ true)
    (known : (i : ℕ) (t : Thread) → slice_get w.system.threads i ≡ Some t → Known (seen_as w.system e q (batch_there w.poll d.early w.system.batch)) i t t.todo)
    (free : 1 ≤ w.system.free → w.system.ends ≡ None) where
  abbrev before : System
  before = seen_as w.system e q (batch_there w.poll d.early w.system.batch)

  acts_next : (i : ℕ) (t : Thread) → slice_get w.system.threads i ≡ Some t → (next : System) (wires : Side → Wire)
      → Some (if is_none w.system.ends && is_some next.ends then fresh_wires w.wires else w.wires) ≡ Some wires
      → (todo : List Act) → t.todo ≡ todo → acts w.system i t todo ≡ Some next → (b : Bool) → closes w.system i ≡ b → let sides : List Side = if b then Client ∷ Target ∷ [] else [] in
      Led before (comes d.late sides ++ ((if b then polls d.early w.poll else []) ++ Acts i ∷ [])) (record w { system = next; wires = wires })
      (record { late = cleared sides d.late; early = b || d.early })
  acts_next i t there next wires new [] todo h b is = cc
  acts_next i t there next wires new (Register ∷ rest) todo h b is =
      rw (sym is ∙ closes_is w.system i t _ there todo) (act_opens w d e q j rested i t there (known i t there) next wires new rest w.system.free todo refl free h j.ends j.known)
  acts_next i t there next wires new (Close ∷ rest) todo h b is =
      let c = known_closes (known i t there) todo in
      rw (sym is ∙ closes_is w.system i t _ there todo) (act_closes w d e q j rested i t there (known i t there) next wires new rest todo c.0 c.1 h j.ends j.known j.polls)
  acts_next i t there next wires new (act ∷ rest) todo h b is =
      rw (sym is ∙ closes_is w.system i t _ there todo) (act_apart w d e q j rested i t there (known i t there) next wires new act rest todo refl h)

  abbrev asking_wire : NextCall → Reply → Side → Wire
  asking_wire a r = on (side_of a.asks) (record (w.wires (side_of a.asks)) { reads = reads_then (w.wires (side_of a.asks)).reads (its_call a) r }) w.wires

  abbrev failing : Reply → NextCall → List Side
  failing r a = if is_failed r then side_of a.asks ∷ [] else []

  abbrev Called_by : ℕ → Reply → NextCall → System → Type 0
  Called_by i r a next = Led before (comes d.late (failing r a) ++ Calls i r ∷ []) (record w { system = next; wires = asking_wire a r }) (record d { late = cleared (failing r a) d.late })

  abbrev b : List Name
  b = batch_there w.poll d.early w.system.batch

  -- the call a of the thread i, on the connection of generation g
  module _ (i : ℕ) (a : NextCall) (m : Makes w.system i a) {g : ℕ} (f s : Side → EndState) (own : a.connection.ends ≡ two) (ends : w.system.ends ≡ Some two) (real : w.system.kernel.ends ≡ open_as g f)
      (as_seen : e ≡ open_as g s) (oks : (side : Side) → EndOk (f side) (coming w.system.kernel.queue w.poll (End (token g side))) (w.wires side) (d.late side) (s side))
      (named : AllNamed (Some g) w.system.kernel.queue) (busy : Polls w.system.batch d.early (Some g) w.poll) where
    abbrev side : Side
    side = side_of a.asks

    answer_there : (s : Side → EndState) (queue : List Name) (r : Reply) (n : Answer (s side) a r) → let st = seen_as w.system (open_as g s) queue b in
        run st (Calls i r ∷ []) ≡ Some (goes_so st i a (record st.kernel { ends = open_as g (on side n.socket s) }) n.value)
    answer_there s queue r n = answer_runs (seen_as w.system (open_as g s) queue b) i a (record { there = m.there; rest = m.rest; todo = m.todo; out = m.out; next = m.next }) own g s refl r n

    answered_at : (r : Reply) (n : Answer (f side) a r) → may_call (w.wires side).reads (its_call a) ≡ true
        → Called_by i r a (goes_so w.system i a (record w.system.kernel { ends = open_as g (on side n.socket f) }) n.value)
    -- what is late comes before a call that fails
    answered_at (reply.Failed kind) n may =
        let r = reply.Failed kind in
        let c1 = comes_at w.system g s q b side (f side) (d.late side) ends (oks side).due in
        let wire : Wire = record (w.wires side) { reads = reads_then (w.wires side).reads (its_call a) r } in
        let all = changed_end g w.system.kernel.queue w.poll w.system.kernel.queue w.poll side (awake n.socket _ wire (inl (failed_reads (w.wires side).reads (its_call a) kind)))
        (λ k other some more. more) oks in
        let same = on_here side (f side) s in
        let made = answer_there (on side (f side) s) c1.queue r (record { value = n.value; told = rw same n.told; fit = n.fit; socket = n.socket; after = rw same n.after }) in
        led (open_as g (on side n.socket s)) c1.queue (rw (as_seen, append-nil (map (Network side) (d.late side)))
        (run_on (map (Network side) (d.late side)) _ _ _ c1.leads ∙ rw (open_twice g side (f side) n.socket s) at made))
        (Opened (on side n.socket f) (on side n.socket s) ends refl refl all) named busy (came_way w.system.kernel.queue busy (oks side) j.on_way c1)
    answered_at r n may =
        let x = answers (oks side) n.socket (its_call a) r may n.after refl in
        let all = changed_end g w.system.kernel.queue w.poll w.system.kernel.queue w.poll side x.ok (λ k other some more. more) oks in
        let word_told = sym (told_same (oks side) a.connection.pair a.asks r may) ∙ n.told in
        led (open_as g (on side x.there s)) q
        (rw as_seen (answer_there s q r (record { value = n.value; told = word_told; fit = n.fit; socket = x.there; after = x.is })))
        (Opened (on side n.socket f) (on side x.there s) ends refl refl (λ k. rw (on_same side d.late k) at (all k))) named busy j.on_way

    blocked_at : (v : WiredSystem) → unasked w i a ≡ Some v → Led before (Calls i reply.Blocked ∷ []) v d
    blocked_at v h =
        let it = w.wires side in
        let gave = guarded _ _ _ h in
        let none = both_down _ _ gave.0 in
        let n = itself a a.asks refl it.reads (λ most asleep. would_block (oks side) most asleep none.1) none.0 in
        let does = rw (n.1, n.2, open_same g side s) at (answer_there s q reply.Blocked n.0) in
        rw gave.1 (record { there = e; queue = q; leads = rw as_seen does; joined = j })

  -- a connection that is out is the slot's
  its_own : (i : ℕ) (a : NextCall) → Makes w.system i a → w.system.ends ≡ Some a.connection.ends
  its_own i a m = let k = known_calls (known i a.thread m.there) m.todo in let has = k.1.out in let are = k.1.ends in cc m.out

  calls_by : {o : Option ℕ} (i : ℕ) (r : Reply) (a : NextCall) → Makes w.system i a → (next : System) → step w.system (Calls i r) ≡ Some next
      → may_call (w.wires (side_of a.asks)).reads (its_call a) ≡ true
      → Both (rim w.system) w.wires w.poll d.late e o → AllNamed o w.system.kernel.queue → Polls w.system.batch d.early o w.poll → Called_by i r a next
  calls_by i r a m next h may (Away ends real empty late) named busy = let never = its_own i a m in cc
  calls_by i r a m next h may (Opened {g} f s ends real as_seen oks) named busy =
      let own : a.connection.ends ≡ two = (let has = its_own i a m in cc) in
      let n = answer_ran w.system i a m own g f real r next h in
      rw n.1 (answered_at i a m f s own ends real as_seen oks named busy r n.0 may)

  blocks_by : {o : Option ℕ} (i : ℕ) (a : NextCall) → Makes w.system i a → (v : WiredSystem) → unasked w i a ≡ Some v
      → Both (rim w.system) w.wires w.poll d.late e o → AllNamed o w.system.kernel.queue → Polls w.system.batch d.early o w.poll → Led before (Calls i reply.Blocked ∷ []) v d
  blocks_by i a m v h (Away ends real empty late) named busy = let never = its_own i a m in cc
  blocks_by i a m v h (Opened {g} f s ends real as_seen oks) named busy =
      blocked_at i a m f s (let has = its_own i a m in cc) ends real as_seen oks named busy v h

  -- which changes come first, where this call is made
  failing_is : (i : ℕ) (r : Reply) (a : NextCall) → asks w.system i ≡ Some a → catching w (Plain (Calls i r)) ≡ failing r a
  failing_is i (reply.Failed kind) a asking = rw asking refl
  failing_is i r a asking = refl

  plain_next : (s : alone.Step) (next : System) (wires : Side → Wire) → step w.system s ≡ Some next → wires_after w s next ≡ Some wires
      → Led before (comes d.late (catching w (Plain s)) ++ happens w d (Plain s)) (record w { system = next; wires = wires }) (delay_after w d (Plain s))
  plain_next (Network side c) next wires h new = nets w d e q j side c next wires h new j.ends j.known j.polls
  plain_next Connect next wires h new = connects w d e q j next wires h new
  plain_next (Spurious who) next wires h new = rumours w d e q j who next wires h new
  plain_next (Vanish who) next wires h new = vanishes w d e q j who next wires h new
  plain_next (Poll names) next wires h new = cc
  plain_next Deliver next wires h new =
      let a = when_back _ _ _ h in
      rw (old_wires w d e q j next wires (deliver_ends w.system w.system.batch next a.1) new) (delivers_on w.system w.wires w.poll d e q j w.system.batch refl next a.0 a.1)
  plain_next (Acts i) next wires h new = option_and_then_some _ _ _ h (λ t there made.
      acts_next i t there next wires new t.todo refl made (closes w.system i) refl)
  plain_next (Calls i r) next wires h new = option_and_then_some _ _ _ new (λ a asking made.
      let g = guarded _ _ _ made in
      rw (g.1, failing_is i r a asking) (calls_by i r a (makes_back w.system i a asking) next h g.0 j.ends j.known j.polls))
  plain_next s next wires h new =
      let a = steps_apart w.system e q (batch_there w.poll d.early w.system.batch) s next refl h in
      stays w d e q j s next wires a (old_wires w d e q j next wires (ap (λ (r : Rim). r.ends) a.1) new)

  -- while it polls, the poller rests
  abbrev pub Fit : wired.Step → WiredSystem → Type 0
  Fit x v = Led before (comes d.late (catching w x) ++ happens w d x) v (delay_after w d x) × ((is_none v.poll || poller_rests v.system) ≡ true)

  poller_stays : (i : ℕ) (t u : Thread) (rest : List Act) → slice_get w.system.threads i ≡ Some t → t.todo ≡ Call ∷ rest → (is_none w.poll || poller_rests (with_thread w.system i u)) ≡ true
  poller_stays i t u rest there todo = elim (cases_eq i 0) [
    | inl first ↦ (let it = rw first at there in let busy : poller_rests w.system ≡ false = rw (it, todo) refl in grind arith)
    | inr other ↦ rw (get-set_other w.system.threads i 0 u other) rested
  ]

  told_of_poll : (p : Polling) → w.poll ≡ Some p → (v : WiredSystem) → poller_tells w p p.left ≡ Some v
      → Led before (comes d.late (catching w Tells) ++ []) v (record d { late = cleared (catching w Tells) d.late })
  told_of_poll p is v h = subst
      (λ (o : Option Polling). let sides = unwrap_or (option_map (λ (p : Polling). sides_told p p.left) o) [] in
      Joined (rim w.system) w.wires o d e q → poller_tells (record w { poll = o }) p p.left ≡ Some v
      → Led (seen_as w.system e q (batch_there o d.early w.system.batch)) (comes d.late sides ++ []) v (record d { late = cleared sides d.late })) (sym is)
      (λ j h. rw (append-nil (comes d.late (sides_told p p.left))) (tells_on w.system w.wires p d e q j p.left refl v h)) j h

  tells_rests : (p : Polling) (left : List Name) (v : WiredSystem) → poller_tells w p left ≡ Some v → poller_rests w.system ≡ true → (is_none v.poll || poller_rests v.system) ≡ true
  tells_rests p left v h rests = grind arith

  hands : (p : Polling) → w.poll ≡ Some p → poller_rests w.system ≡ true → p.left ≡ []
      → Led before (polls d.early w.poll) (record w { system = record w.system { batch = p.names.items }; poll = None }) d
  hands p is rests none = subst
      (λ (o : Option Polling). Joined (rim w.system) w.wires o d e q
      → Led (seen_as w.system e q (batch_there o d.early w.system.batch)) (polls d.early o) (record w { system = record w.system { batch = p.names.items }; poll = None }) d) (sym is)
      (λ j. handed_on w.system w.wires p d e q j rests none) j

  pub step_next : (x : wired.Step) (v : WiredSystem) → wired.step w x ≡ Some v → Fit x v
  step_next (Plain s) v h = option_and_then_some _ _ _ h (λ next is rest.
      let a = when_back _ _ _ rest in
      mapped _ _ _ a.1 (λ wires made after. rw after (plain_next s next wires is made, a.0)))
  step_next (Polled names reading) v h =
      let a = when_back _ _ _ h in
      let b = and_parts _ _ a.0 in
      let c = and_parts _ _ b.1 in
      let both = and_parts _ _ c.1 in
      mapped _ _ _ a.1 (λ k is after. rw after (polls_on w.system w.wires w.poll d e q j names reading b.0 c.0 both.0 both.1 k is, c.0))
  step_next Tells v h = option_and_then_some _ _ _ h (λ p is made. (told_of_poll p is v made, tells_rests p p.left v made (rw is at rested)))
  step_next Handed v h = option_and_then_some _ _ _ h (λ p is made.
      let g = guarded _ _ _ made in
      rw g.1 (hands p is (rw is at rested) (nil_from_length _ (eqb-true _ _ g.0)), refl))
  step_next (Looks side) v h = rw (some_is h) (looks_at w d e q j side, rested)
  step_next (Unasked i) v h = option_and_then_some _ _ _ h (λ a asking made.
      let m = makes_back w.system i a asking in
      let g = guarded _ _ _ made in
      (blocks_by i a m v made j.ends j.known j.polls, rw g.1 (poller_stays i a.thread _ m.rest m.there m.todo)))
