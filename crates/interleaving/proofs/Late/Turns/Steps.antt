-- A step over wires that rest, and what happens there: what the network, the kernel, the poller and the wires do.
pub mod Ends
pub use Rattle.interleaving.specs.{Threads.{Act, Acts, Call, Calls, Close, Connect, Deliver, Poll, Register, Thread, acts, after_act, delivers, poller_rests, note_posted, rests, with_thread}, Late.{Plain, Step, WiredSystem, batch_there, catching, cleared, closes, delay_after, fresh_wires, happens, is_close, may_name, polls, sides_told, poller_tells, word_told, wires_after}}
pub use Rattle.kernel_model.specs.{Names.are_among, declared.accepting.Accepting.TheVariants.Blocked}
pub use Rattle.std.{proofs.{Common.{Vec, append-nil, slice_get, suc, unwrap_or, zero, ◌+◌, ◌-◌}, lemmas.{Bool.{eqb-true, not-true}, List.nil_from_length}}, specs.Global.Global}
pub use Rattle.world.{proofs.Headline.Ends.Pairs.Holders.Events.Lists.has_polled, specs.declared.connection.Connection.Connection}
pub use Ends.*

-- These steps lead from here to what the threads over wires have come to
pub record Led (before : System) (own : List alone.Step) (v : WiredSystem) (d : Delay) : Type 0 where
  pub there : List (Option Registered)
  pub queue : List Name
  pub leads : run before own ≡ Some (seen_as v.system there queue (batch_there v.poll d.early v.system.batch))
  pub joined : Joined (rim v.system) v.wires v.poll d there queue

-- by all that is kept
pub led : {before : System} {own : List alone.Step} {v : WiredSystem} {d : Delay} {o : Option ℕ} (there : List (Option Registered))
    (queue : List Name) → run before own ≡ Some (seen_as v.system there queue (batch_there v.poll d.early v.system.batch))
    → Both (rim v.system) v.wires v.poll d.late there o → AllNamed o v.system.kernel.queue → Polls v.system.batch d.early o v.poll
    → ((n : Name) → has n queue ≡ true → (has n v.system.kernel.queue || in_poll d.early v.poll n) ≡ true) → Led before own v d
led {o = o} there queue leads ends known polls on_way = record {
  there = there;
  queue = queue;
  leads = leads;
  joined = record { generation = o; ends = ends; known = known; polls = polls; on_way = on_way };
}

pub not_new : {X : Type 0} (o : Option Descriptors) (x y : X) → (if is_none o && is_some o then x else y) ≡ y
not_new None x y = refl
not_new (Some ends) x y = refl

-- Acts that do not concern sockets

abbrev pub is_apart : Act → Bool
is_apart Register = false
is_apart Close = false
is_apart act = true

module _ (st : System) (e : List (Option Registered)) (q b : List Name) where
  abbrev pub Apart : (System → Option System) → System → Type 0
  Apart makes next = (makes (seen_as st e q b) ≡ Some (seen_as next e q b)) × (rim next ≡ rim st)

  -- with other sockets the same is made
  abbrev carried : System → System × Rim
  carried n = (seen_as n e q b, rim n)

  abbrev kept : System → System × Rim
  kept n = (n, rim st)

  abbrev Alike : Option System → Option System → Type 0
  Alike here there = option_map carried here ≡ option_map kept there

  alike_at : (here there : Option System) (next : System) → here ≡ Some next → Alike here there → (there ≡ Some (seen_as next e q b)) × (rim next ≡ rim st)
  alike_at None there next is alike = cc
  alike_at (Some n) None next is alike = cc
  alike_at (Some n) (Some m) next is alike =
      let both = some_is alike in
      rw (some_is is) (ap (λ (x : System × Rim). Some x.0) both, sym (ap (λ (x : System × Rim). x.1) both))

  acts_alike : (i : ℕ) (t : Thread) (act : Act) (rest : List Act) → is_apart act ≡ true
      → Alike (after_act st i t act rest) (after_act (seen_as st e q b) i t act rest)
  acts_alike i t act rest is = grind arith

  pub acts_apart : (i : ℕ) (t : Thread) (act : Act) (rest : List Act) (next : System) → is_apart act ≡ true → after_act st i t act rest ≡ Some next
      → Apart (λ s. after_act s i t act rest) next
  acts_apart i t act rest next is h = alike_at _ _ next h (acts_alike i t act rest is)

  -- steps that do not concern sockets
  abbrev pub no_socket : alone.Step → Bool
  no_socket (Network side change) = false
  no_socket Connect = false
  no_socket (Spurious who) = false
  no_socket (Vanish who) = false
  no_socket (Poll names) = false
  no_socket Deliver = false
  no_socket (Acts i) = false
  no_socket (Calls i r) = false
  no_socket s = true

  steps_alike : (s : alone.Step) → no_socket s ≡ true → Alike (step st s) (step (seen_as st e q b) s)
  steps_alike s is = grind arith

  pub steps_apart : (s : alone.Step) (next : System) → no_socket s ≡ true → step st s ≡ Some next → Apart (λ x. step x s) next
  steps_apart s next is h = alike_at _ _ next h (steps_alike s is)

module _ {r : Rim} {wires : Side → Wire} {poll : Option Polling} {late : Side → List Change} {e : List (Option Registered)} where
  -- the same ends, with another queue or another poll
  pub requeued : {o : Option ℕ} (queue batch : List Name) (next : Option Polling)
      → ((g : ℕ) (f : Side → EndState) → o ≡ Some g → r.ends ≡ Some two → r.sockets ≡ open_as g f → (k : Side) → is_readable (f k) ≡ true
      → coming r.queue poll (End (token g k)) ≡ true → coming queue next (End (token g k)) ≡ true)
      → Both r wires poll late e o → Both (record r { queue = queue; batch = batch }) wires next late e o
  requeued queue batch next more (Away ends real there late) = Away ends real there late
  requeued queue batch next more (Opened {g} f s ends real there oks) =
      Opened f s ends real there (λ k. eased (more g f refl ends real k) (oks k))

  -- what the slot's connection is there
  abbrev pub shape_there : {o : Option ℕ} → Both r wires poll late e o
      → (x : Option (ℕ × (Side → EndState))) × (Shape r.ends e x) × (generation_of x ≡ o)
  shape_there (Away ends real there late) = (None, ends, refl)
  shape_there (Opened {g} f s ends real there oks) = (Some (g, s), (ends, there), refl)

  abbrev pub shape_here : {o : Option ℕ} → Both r wires poll late e o
      → (x : Option (ℕ × (Side → EndState))) × (Shape r.ends r.sockets x) × (generation_of x ≡ o)
  shape_here (Away ends real there late) = (None, ends, refl)
  shape_here (Opened {g} f s ends real there oks) = (Some (g, f), (ends, real), refl)

  -- where no call could do anything here, none could there
  pub quiet_there : {o : Option ℕ} (backlog : ℕ) (ends : Both r wires poll late e o) (who : Reported)
      → quiet_here backlog (shape_here ends).0 who ≡ true → quiet_here backlog (shape_there ends).0 who ≡ true
  quiet_there backlog ends reports.Listener quiet = quiet
  quiet_there backlog ends reports.Waker quiet = quiet
  quiet_there backlog (Away ends real there late) (reports.End i side) quiet = refl
  quiet_there backlog (Opened {g} f s ends real there oks) (reports.End i side) quiet =
      let none : is_readable (f side) ≡ false = grind arith in
      rw (same_here (oks side) (λ reads word_told some. cc)).1 quiet

  -- a report is withdrawn, of an end where no call could do anything
  withdrawn : {o : Option ℕ} (backlog : ℕ) (ends : Both r wires poll late e o) (who : Reported) (n : Name)
      → name_here o who ≡ Some n → quiet_here backlog (shape_here ends).0 who ≡ true → Both (record r { queue = without_name n r.queue }) wires poll late e o
  withdrawn backlog (Away ends real there late) who n is quiet = Away ends real there late
  withdrawn backlog (Opened {g} f s ends real there oks) who n is quiet = Opened f s ends real there (λ k.
      eased (λ some. more_or (has (End (token g k)) r.queue) _ (soon poll (End (token g k))) (has_without (End (token g k)) n r.queue (by k some))) (oks k))
    where
      by : (k : Side) → is_readable (f k) ≡ true → same n (End (token g k)) ≡ false
      by k some = grind arith

-- A poll there, of what may not be queued there

pub record Polled_there (st : System) (e : List (Option Registered)) (q : List Name) (early : Bool) (poll : Option Polling) : Type 0 where
  pub queue : List Name
  pub leads : run (seen_as st e q (batch_there poll early st.batch)) (polls early poll) ≡ Some (seen_as st e queue (batch_there poll true st.batch))
  pub less : (n : Name) → has n queue ≡ true → (has n q || in_poll early poll n) ≡ true × (in_poll early poll n ≡ false)

polls_there : (st : System) (e : List (Option Registered)) (q : List Name) (names : Vec Name Global) → poller_rests st ≡ true → st.batch ≡ [] → nat_le (length names.items) 256 ≡ true
    → are_among q names.items ≡ true → are_distinct names.items ≡ true → step (seen_as st e q st.batch) (Poll names) ≡ Some (seen_as st e (without_names names.items q) names.items)
polls_there st e q names rests none few among once = rw (rests, none, few, among, once) refl

pub polled_now : (st : System) (e : List (Option Registered)) (q : List Name) (o : Option (ℕ × (Side → EndState))) → Shape st.ends e o → (early : Bool) (poll : Option Polling)
    → (is_none poll || poller_rests st) ≡ true → Polls st.batch early (generation_of o) poll → Polled_there st e q early poll
polled_now st e q o shape early None rests Idle = record { queue = q; leads = rw (not_polled early) refl; less = λ n h. (rw (not_in early n) (or_left _ _ h), not_in early n) }
  where
    not_polled : (early : Bool) → polls early None ≡ []
    not_polled early = grind arith
polled_now st e q o shape true (Some p) rests busy = record { queue = q; leads = refl; less = λ n h. (or_left _ _ h, refl) }
polled_now st e q o shape false (Some p) rests (Busy none few once named gone within) =
    let r = reports_all st e q st.batch o shape p.names.items (named refl) in
    let among = all_from (λ n. has n r.queue) p.names.items r.has_all in
    record {
      queue = without_names p.names.items r.queue;
      leads = r.leads (Poll p.names ∷ []) ∙ ap (option_and_then (λ (x : System). Some x)) (polls_there st e r.queue p.names rests none few among once);
      less = λ n h.
          let had = has_filter n (λ m. not (has m p.names.items)) r.queue h in
          (elim (r.back n had.0) [ inl was ↦ or_left _ _ was | inr named ↦ or_right _ _ named ], not-true _ had.1);
    }

module _ (w : WiredSystem) (d : Delay) (e : List (Option Registered)) (q : List Name) (j : Joined (rim w.system) w.wires w.poll d e q) where
  abbrev pub st : System
  st = w.system

  abbrev pub there_batch : List Name
  there_batch = batch_there w.poll d.early w.system.batch

  abbrev pub seen : System
  seen = seen_as w.system e q there_batch

  abbrev pub New : System → (Side → Wire) → Type 0
  New next wires = Some (if is_none st.ends && is_some next.ends then fresh_wires w.wires else w.wires) ≡ Some wires

  -- what a step of `System` with no connection that opens leaves of the wires
  pub old_wires : (next : System) (wires : Side → Wire) → next.ends ≡ st.ends → New next wires → wires ≡ w.wires
  old_wires next wires same h = some_is h ∙ rw same (not_new st.ends (fresh_wires w.wires) w.wires)

  pub stays : (s : alone.Step) (next : System) (wires : Side → Wire) → Apart st e q there_batch (λ x. step x s) next → wires ≡ w.wires
      → Led seen (s ∷ []) (record w { system = next; wires = wires }) d
  stays s next wires a is =
      let same = sym (ap (λ (r : Rim). r.batch) a.1) in
      let batch = λ (b : List Name). Some (seen_as next e q (batch_there w.poll d.early b)) in
      record { there = e; queue = q; leads = rw a.0 (ap batch same); joined = rw (a.1, is) j }

  -- a change of the network
  pub nets : {o : Option ℕ} (side : Side) (c : Change) (next : System) (wires : Side → Wire) → step st (Network side c) ≡ Some next
      → New next wires
      → Both (rim st) w.wires w.poll d.late e o → AllNamed o st.kernel.queue → Polls st.batch d.early o w.poll
      → Led seen (if waits (w.wires side) c then [] else Network side c ∷ []) (record w { system = next; wires = wires })
      (record d { late = if waits (w.wires side) c then on side (d.late side ++ c ∷ []) d.late else d.late })
  nets side c next wires h new (Away ends real there late) known polls = cc (rw ends at h)
  nets side c next wires h new (Opened {g} f s ends real there oks) known polls =
      let n = net_back _ _ _ _ _ (sym (network_here st g f side c ends real) ∙ h) in
      let same = old_wires next wires (ap (λ (x : System). x.ends) n.3) new in
      rw (n.3, same) (by n.1 n.2 n.0 (waits (w.wires side) c) refl)
    where
      n : Name
      n = End (token g side)

      queue : List Name
      queue = st.kernel.queue

      all_after : {x : EndState} {more : List Change} (t : Told EndState Bool) → EndOk t.value (coming queue w.poll n || t.told) (w.wires side) more x
          → (k : Side) → EndOk (on side t.value f k) (coming (reported queue n t.told) w.poll (End (token g k))) (on side (w.wires side) w.wires k)
          (on side more d.late k) (on side x s k)
      all_after t ok = changed_end g queue w.poll (reported queue n t.told) w.poll side (eased (λ _. coming_told n t.told queue w.poll) ok)
          (λ k other some. coming_still n (End (token g k)) t.told queue w.poll) oks

      by : (t : Told EndState Bool) → effect c (f side) ≡ Some t → is_short c ≡ true → (b : Bool) → waits (w.wires side) c ≡ b
          → Led seen (if b then [] else Network side c ∷ []) (record w { system = record st { kernel = at_end st.kernel g f side t } })
          (record d { late = if b then on side (d.late side ++ c ∷ []) d.late else d.late })
      by t is fit true late =
          let all = all_after t (waited (oks side) c t is fit late) in
          led e q refl (Opened (on side t.value f) s ends refl there (λ k. rw (on_same side w.wires k, on_same side s k) at (all k)))
          (known_reported n t.told queue (same_self n) known) polls
          (λ m h. more_or (has m queue) (has m (reported queue n t.told)) (in_poll d.early w.poll m) (has_reported m n t.told queue) (j.on_way m h))
      by t is fit false now =
          let m = moves (oks side) c t is now in
          let all = all_after t m.ok in
          led (open_as g (on side m.there.value s)) (reported q n t.told)
          (rw (there, network_there st g s q there_batch side c m.there ends fit m.is, m.told) refl)
          (Opened (on side t.value f) (on side m.there.value s) ends refl refl
          (λ k. rw (on_same side w.wires k, on_same side d.late k) at (all k)))
          (known_reported n t.told queue (same_self n) known) polls (way_reported n t.told queue q (in_poll d.early w.poll) j.on_way)

  -- a step by which a name is queued here and there
  queues : (s : alone.Step) (n : Name) (t : Bool) → is_named j.generation n ≡ true → (backlog : ℕ) (armed : Bool)
      → let next = record st { kernel = record st.kernel { queue = reported st.kernel.queue n t; backlog = backlog; armed = armed } } in
      step seen s ≡ Some (seen_as next e (reported q n t) there_batch) → (wires : Side → Wire) → New next wires → Led seen (s ∷ []) (record w { system = next; wires = wires }) d
  queues s n t named backlog armed does wires new =
      let next = record st { kernel = record st.kernel { queue = reported st.kernel.queue n t; backlog = backlog; armed = armed } } in
      let queue = st.kernel.queue in
      rw (old_wires next wires refl new) (led e (reported q n t) (ap (option_and_then (λ (x : System). Some x)) does)
      (requeued (reported queue n t) st.batch w.poll (λ g f o ends real k some. coming_still n (End (token g k)) t queue w.poll) j.ends)
      (known_reported n t queue named j.known) j.polls (way_reported n t queue q (in_poll d.early w.poll) j.on_way))

  pub connects : (next : System) (wires : Side → Wire) → step st Connect ≡ Some next → New next wires → Led seen (Connect ∷ []) (record w { system = next; wires = wires }) d
  connects next wires h new = mapped _ _ _ h (λ k is after.
      let g = guarded _ _ _ is in
      rw (after, g.1) (queues Connect Listener st.kernel.armed refl (st.kernel.backlog + 1) false (rw g.0 refl) wires (rw after at new)))

  -- a report without cause
  pub rumours : (who : Reported) (next : System) (wires : Side → Wire) → step st (Spurious who) ≡ Some next → New next wires
      → Led seen (Spurious who ∷ []) (record w { system = next; wires = wires }) d
  rumours who next wires h new =
      let here = shape_here j.ends in
      let x = shape_there j.ends in
      mapped _ _ _ (sym (rw here.2 at (spurious_is st here.0 here.1 who)) ∙ h) (λ n is after.
      rw after (queues (Spurious who) n true (named_here j.generation who n is) st.kernel.backlog st.kernel.armed (rw (x.2, is) at (spurious_is seen x.0 x.1 who)) wires (rw after at new)))

  -- a report is taken back: one is taken back there too, and is queued before
  pub vanishes : (who : Reported) (next : System) (wires : Side → Wire) → step st (Vanish who) ≡ Some next → New next wires
      → Led seen (Spurious who ∷ Vanish who ∷ []) (record w { system = next; wires = wires }) d
  vanishes who next wires h new =
      let here = shape_here j.ends in
      let x = shape_there j.ends in
      option_and_then_some _ (name_here j.generation who) next (sym (rw here.2 at (vanish_is st here.0 here.1 who)) ∙ h) (λ n is ran.
      let g = guarded (has n st.kernel.queue && quiet_here st.kernel.backlog here.0 who) (queue_less st n) next ran in
      let quiet = second_so (has n st.kernel.queue) _ g.0 in
      let old = old_wires next wires (ap (λ (x : System). x.ends) g.1) new in
      let first = rw (x.2, is) at (spurious_is seen x.0 x.1 who) in
      let then_ = rw (x.2, is, has_itself n q, quiet_there st.kernel.backlog j.ends who quiet) at (vanish_is (queue_more seen n) x.0 x.1 who) in
      let queue = st.kernel.queue in
      rw (g.1, old) (led e (without_name n (with_name n q)) (rw first (ap (option_and_then (λ (x : System). Some x)) then_))
      (withdrawn st.kernel.backlog j.ends who n is quiet) (known_filter (λ m. not (same n m)) queue j.known) j.polls (λ m h.
      let had = has_less m n (with_name n q) h in
      elim (has_with_back m n q had.0) [
        | inl was ↦ more_or (has m queue) (has m (without_name n queue)) (in_poll d.early w.poll m)
            (λ r. less_has m n queue r had.1) (j.on_way m was)
        | inr this ↦ (let never = rw (this, same_self n) at had.1 in cc)
      ])))

  -- a wire looks at its word
  looked : {o : Option ℕ} (side : Side) → Both (rim st) w.wires w.poll d.late e o
      → Both (rim st) (on side (record { reads = (w.wires side).reads || (w.wires side).told; told = false }) w.wires) w.poll d.late e o
  looked side (Away ends real there late) = Away ends real there late
  looked side (Opened {g} f s ends real there oks) =
      let all = changed_end g st.kernel.queue w.poll st.kernel.queue w.poll side (looks (oks side)) (λ k other some more. more) oks in
      Opened f s ends real there (λ k. rw (on_same side f k, on_same side s k, on_same side d.late k) at (all k))

  pub looks_at : (side : Side) → Led seen [] (record w { wires = on side (record { reads = (w.wires side).reads || (w.wires side).told; told = false }) w.wires }) d
  looks_at side = led e q refl (looked side j.ends) j.known j.polls j.on_way

-- What the poller does with its polls. In these `poll` is known

pub delivers_on : (st : System) (wires : Side → Wire) (poll : Option Polling) (d : Delay) (e : List (Option Registered)) (q : List Name) → Joined (rim st) wires poll d e q
    → (batch : List Name) → st.batch ≡ batch → (next : System) → poller_rests st ≡ true → delivers st batch ≡ Some next
    → Led (seen_as st e q (batch_there poll d.early st.batch)) (Deliver ∷ []) (record { system = next; wires = wires; poll = poll }) d
delivers_on st wires poll d e q j [] is next rested h = cc
delivers_on st wires (Some p) d e q j (n ∷ rest) is next rested h = busy j.polls
  where
    busy : {o : Option ℕ} {X : Type 0} → Polls st.batch d.early o (Some p) → X
    busy (Busy none few once named gone within) = cc
delivers_on st wires None d e q j (n ∷ rest) is next rested h = rw (some_is h) (by n is)
  where
    joined : Joined (record (rim st) { batch = rest }) wires None d e q
    joined = record { generation = j.generation; ends = requeued st.kernel.queue rest None (λ g f o ends real k some more. more) j.ends; known = j.known; polls = Idle; on_way = j.on_way }

    To : System → Type 0
    To next = Led (seen_as st e q st.batch) (Deliver ∷ []) (record { system = record next { batch = rest }; wires = wires; poll = None }) d

    posts : (m : EndName) → st.batch ≡ End m ∷ rest → (b : Bool) → ((m.slot == 0) && (st.entry == m.generation)) ≡ b
        → To (if b then note_posted st m.generation else st)
    posts m is true own = record { there = e; queue = q; leads = rw (rested, is, own) refl; joined = joined }
    posts m is false own = record { there = e; queue = q; leads = rw (rested, is, own) refl; joined = joined }

    by : (n : Name) → st.batch ≡ n ∷ rest → To (alone.report_delivered st n)
    by (End m) is = posts m is ((m.slot == 0) && (st.entry == m.generation)) refl
    by n is = record { there = e; queue = q; leads = rw (rested, is) refl; joined = joined }

-- epoll_wait(2): there nothing happens yet
pub polls_on : (st : System) (wires : Side → Wire) (poll : Option Polling) (d : Delay) (e : List (Option Registered)) (q : List Name) → Joined (rim st) wires poll d e q → (names : Vec Name Global)
    (reading : Name → Bool) → is_none poll ≡ true → poller_rests st ≡ true → (length st.batch == 0) ≡ true → list_all (may_name st reading) names.items ≡ true → (k : KernelState)
    → kernel.poll st.kernel names.items ≡ Some k
    → Led (seen_as st e q (batch_there poll d.early st.batch)) []
    (record { system = record st { kernel = k }; wires = wires; poll = Some (record { names = names; reading = reading; left = names.items }) })
    (record d { early = false })
polls_on st wires (Some p) d e q j names reading idle rested empty may k h = cc
polls_on st wires None d e q j names reading idle rested empty may k h =
    let g = guarded (nat_le (length names.items) 256 && (are_among st.kernel.queue names.items && are_distinct names.items))
    (record st.kernel { queue = without_names names.items st.kernel.queue }) k h in
    let parts = and_parts _ _ g.0 in
    let fine = and_parts _ _ parts.1 in
    let none : st.batch ≡ [] = nil_from_length _ (eqb-true _ _ empty) in
    rw g.1 (led e q refl (requeued (without_names names.items st.kernel.queue) st.batch (Some all) (λ g f o ends real. taken g f ends real) j.ends)
    (known_filter (λ m. not (has m names.items)) st.kernel.queue j.known)
    (Busy none parts.0 fine.1 (λ _. record { each = λ n h. j.known.each n (all_has (λ m. has m st.kernel.queue) n names.items fine.0 h) })
    (λ (never : false ≡ true). cc) (λ n h. h))
    (λ n h. has_polled n names.items st.kernel.queue (at_rest n d.early (j.on_way n h))))
  where
    all : Polling
    all = record { names = names; reading = reading; left = names.items }

    at_rest : (n : Name) (early : Bool) → (has n st.kernel.queue || in_poll early None n) ≡ true → has n st.kernel.queue ≡ true
    at_rest n early h = grind (arith, not_in early n)

    taken : (g : ℕ) (f : Side → EndState) → st.ends ≡ Some two → st.kernel.ends ≡ open_as g f → (k : Side) → is_readable (f k) ≡ true → coming st.kernel.queue None (End (token g k)) ≡ true
        → coming (without_names names.items st.kernel.queue) (Some all) (End (token g k)) ≡ true
    taken g f ends real k some more =
        let n = End (token g k) in
        let here : end_here st k ≡ Some (record { token = token g k; socket = f k }) = rw (ends, real) (end_as g f k) in
        let named = rw (here, some) at (all_has (may_name st reading) n names.items may) in
        let polled = has_polled n names.items st.kernel.queue in
        grind arith

none_on : (side : Side) (late : Side → List Change) → ((k : Side) → late k ≡ []) → (k : Side) → on side [] late k ≡ []
none_on side late none k = grind (arith, none)

same_token : (g : ℕ) (k side : Side) → (k ≡ side → ⊥) → (m : EndName) → m.side ≡ side → same (End (token g k)) (End m) ≡ false
same_token g k side other m is = grind arith

-- A wire of the slot hears of a report, or of nothing
module _ (st : System) (wires : Side → Wire) (p : Polling) (d : Delay) (e : List (Option Registered)) (q : List Name) (j : Joined (rim st) wires (Some p) d e q) where
  abbrev sees : System
  sees = seen_as st e q (batch_there (Some p) d.early st.batch)

  -- where the poll has this first name left
  module _ (n : Name) (rest : List Name) (left : p.left ≡ n ∷ rest) where
    abbrev after : Polling
    after = record p { left = rest }

    within_rest : {early : Bool} {o : Option ℕ} → Polls st.batch early o (Some p) → Polls st.batch early o (Some after)
    within_rest (Busy none few once named gone within) = Busy none few once named gone (λ m h. within m (rw left (or_right _ _ h)))

    same_poll : (early : Bool) (m : Name) → in_poll early (Some after) m ≡ in_poll early (Some p) m
    same_poll early m = grind arith

    -- another name is coming as before
    other_coming : (m : Name) → (same m n ≡ true → p.reading m ≡ false) → coming st.kernel.queue (Some p) m ≡ true → coming st.kernel.queue (Some after) m ≡ true
    other_coming m never h =
        let was = rw left at h in
        grind (arith, never)

    hears_nothing : ((m : EndName) → same (End m) n ≡ true → p.reading (End m) ≡ false)
        → Led sees [] (record { system = st; wires = wires; poll = Some after }) d
    hears_nothing never = led e q refl
        (requeued st.kernel.queue st.batch (Some after) (λ g f o ends real k some. other_coming (End (token g k)) (never (token g k))) j.ends)
        j.known (within_rest j.polls) (λ m h. rw (same_poll d.early m) (j.on_way m h))

    -- all that is late at the side comes
    hears : (m : EndName) → n ≡ End m → {o : Option ℕ} → Both (rim st) wires (Some p) d.late e o → AllNamed o st.kernel.queue → Polls st.batch d.early o (Some p)
        → Led sees (comes d.late (m.side ∷ []))
        (record { system = st; wires = on m.side (record (wires m.side) { told = true }) wires; poll = Some after }) (record d { late = on m.side [] d.late })
    hears m is (Away ends real there late) known polls = rw (late m.side) (led e q refl (Away ends real there (none_on m.side d.late late))
        known (within_rest polls) (λ k h. rw (same_poll d.early k) (j.on_way k h)))
    hears m is (Opened {g} f s ends real there oks) known polls =
        let side = m.side in
        let c = comes_at st g s q (batch_there (Some p) d.early st.batch) side (f side) (d.late side) ends (oks side).due in
        let wire : Wire = record (wires side) { told = true } in
        let all = changed_end g st.kernel.queue (Some p) st.kernel.queue (Some after) side (awake (f side) _ wire (inr refl))
        (λ k other some. other_coming (End (token g k)) (λ own. (let never = rw is at own in cc (same_token g k side other m refl)))) oks in
        led (open_as g (on side (f side) s)) c.queue (rw (there, append-nil (map (Network side) (d.late side))) c.leads)
        (Opened f (on side (f side) s) ends real refl (λ k. rw (on_same side f k) at (all k))) known (within_rest polls)
        (λ k h. rw (same_poll d.early k) (came_way st.kernel.queue polls (oks side) j.on_way c k h))

  -- the first report that is left is passed on
  pub tells_on : (left : List Name) → p.left ≡ left → (v : WiredSystem) → poller_tells (record { system = st; wires = wires; poll = Some p }) p left ≡ Some v
      → Led sees (comes d.late (sides_told p left)) v (record d { late = cleared (sides_told p left) d.late })
  tells_on [] is v h = cc
  tells_on (Listener ∷ rest) is v h = rw (some_is h) (hears_nothing Listener rest is (λ m own. cc))
  tells_on (Waker ∷ rest) is v h = rw (some_is h) (hears_nothing Waker rest is (λ m own. cc))
  tells_on (End m ∷ rest) is v h = rw (some_is h) (by (p.reading (End m)) refl)
    where
      by : (b : Bool) → p.reading (End m) ≡ b → let sides : List Side = if b then m.side ∷ [] else [] in
          Led sees (comes d.late sides)
          (record { system = st; wires = if b then on m.side (record (wires m.side) { told = true }) wires else wires; poll = Some (record p { left = rest }) })
          (record d { late = cleared sides d.late })
      by true reads = hears (End m) rest is m refl j.ends j.known j.polls
      by false reads = hears_nothing (End m) rest is (λ k own. rw (same_is (End k) (End m) own) reads)

  -- all is handed over
  pub handed_on : poller_rests st ≡ true → p.left ≡ [] → Led sees (polls d.early (Some p)) (record { system = record st { batch = p.names.items }; wires = wires; poll = None }) d
  handed_on rested none =
      let x = shape_there j.ends in
      let now = polled_now st e q x.0 x.1 d.early (Some p) rested (rw x.2 j.polls) in
      led e now.queue now.leads (requeued st.kernel.queue p.names.items None (λ g f o ends real k some more. (let was = rw none at more in was)) j.ends)
      j.known Idle (λ n h. (let it = now.less n h in let was = j.on_way n in grind (arith, was, not_in d.early n)))
