-- The threads at one slot over wires that rest are the threads without such wires, where what is late comes later.
pub mod Turns
use Rattle.interleaving.{proofs.{Rest.known_in, Runs.{count_free, Programs.none_by}}, specs.{Likeness.{EveryInterleavingIsARun, IsHalfOpen, IsSettled, Like, Settled, machine_of, opened_slot}, Late.{EndHolds, WiresComeLate, delay, happened, none_late, start, way}}}
use Rattle.world.{proofs.Headline.Ends.Pairs.Holders.{Turns as HasTurns, first_free, turns_after}, specs.{CoreLaws.{CoreLaws}, Slots.{SlotState, WorkerState}, States.{State}, declared.limits.Limits.{Limits}}}
pub use Turns.*

-- while a slot is free, it has no connection

free_settled : (st : System) (p : SlotState) (workers : List WorkerState) → Settled st p workers → HasTurns (machine_of st p st.entry st.tickets workers) → (n : ℕ) → st.free ≡ suc n → st.ends ≡ None
free_settled st p workers set turns n some =
    let unused = first_free (machine_of st p st.entry st.tickets workers) 0 p refl (rw some refl) turns in
    set.ends ∙ ap (option_map (λ (c : Connection). c.ends)) (none_by p.holder p.connection unused.holder (turns.each 0 p refl).shape)

free_none : (st : System) (w : State) → Like st w → HasTurns w → (n : ℕ) → st.free ≡ n → 1 ≤ n → st.ends ≡ None
free_none st w like turns zero is some = absurd (omega arith)
free_none st w (IsSettled p workers is set) turns (suc n) free some = free_settled st p workers set (rw is at turns) n free
free_none st w (IsHalfOpen t c workers is half) turns (suc n) free some =
    let now : HasTurns (machine_of st (opened_slot t.generation c) t.generation (t.generation ∷ []) workers) = rw is at turns in
    absurd (omega (arith, (now.each 0 (opened_slot t.generation c) refl).gone, count_free st.free, free))

-- A list of steps

abbrev Went : WiredSystem → Delay → List (Option Registered) → List Name → List wired.Step → WiredSystem → Type 0
Went w d e q steps to = Led (seen_as w.system e q (batch_there w.poll d.early w.system.batch)) (happened w d steps) to (delay w d steps)

-- a step, and then the rest
one_more : (x : wired.Step) (steps : List wired.Step) (w v to : WiredSystem) (d : Delay) (e : List (Option Registered)) (q : List Name)
    → Joined (rim w.system) w.wires w.poll d e q → wired.step w x ≡ Some v
    → (led : Led (seen_as w.system e q (batch_there w.poll d.early w.system.batch)) (comes d.late (catching w x) ++ happens w d x) v (delay_after w d x))
    → Went v (delay_after w d x) led.there led.queue steps to → Went w d e q (x ∷ steps) to
one_more x steps w v to d e q j is led more =
    let b = batch_there w.poll d.early w.system.batch in
    let own = comes d.late (catching w x) ++ happens w d x in
    let rest = happened v (delay_after w d x) steps in
    let shown : happened w d (x ∷ steps) ≡ own ++ rest = rw is (sym (append_assoc (comes d.late (catching w x)) (happens w d x) rest)) in
    let last : delay w d (x ∷ steps) ≡ delay v (delay_after w d x) steps = rw is refl in
    let leads = run_on own rest (seen_as w.system e q b) _ led.leads ∙ more.leads in
    record { there = more.there; queue = more.queue; leads = rw (shown, last) leads; joined = rw last more.joined }

module _ (core : CoreLaws) (law : EveryInterleavingIsARun) (l : Limits) (one : l.slots ≡ 1) where
  went : (steps : List wired.Step) (w to : WiredSystem) (d : Delay) (e : List (Option Registered)) (q : List Name) → Joined (rim w.system) w.wires w.poll d e q
      → (is_none w.poll || poller_rests w.system) ≡ true → (made : List alone.Step) → run (alone.start l) made ≡ Some (seen_as w.system e q (batch_there w.poll d.early w.system.batch))
      → wired.run w steps ≡ Some to → Went w d e q steps to
  went [] w to d e q j rested made ran h = rw (some_is h) (record { there = e; queue = q; leads = refl; joined = j })
  went (x ∷ steps) w to d e q j rested made ran h = option_and_then_some _ _ _ h (λ v is rest.
      let before = seen_as w.system e q (batch_there w.poll d.early w.system.batch) in
      let r = law l made before one ran in
      let free = free_none before r.world r.like (turns_after core l r.made r.world r.allowed) before.free refl in
      let next = step_next w d e q j rested (known_in core law l one made before r) free x v is in
      let own = comes d.late (catching w x) ++ happens w d x in
      one_more x steps w v to d e q j is next.0
      (went steps v to (delay_after w d x) next.0.there next.0.queue next.0.joined next.1 (made ++ own) (run_on made own (alone.start l) before ran ∙ next.0.leads) rest))

-- What is so after any list of steps

-- a report that is coming will be passed on
coming_told_way : (w : WiredSystem) (side : Side) (r : Registered) → coming w.system.kernel.queue w.poll (End r.token) ≡ true → WillBeTold (way w side r)
coming_told_way w side r h = elim (or_cases (has (End r.token) w.system.kernel.queue) (soon w.poll (End r.token)) h) [ inl queued ↦ inl queued | inr later ↦ inr (by w.poll later) ]
  where
    by : (poll : Option Polling) → soon poll (End r.token) ≡ true
        → Contains (unwrap_or (option_map (λ (p : Polling). if has (End r.token) p.left then p.reading (End r.token) ∷ [] else []) poll) []) true
    by None later = cc
    by (Some p) later = let parts = and_parts (has (End r.token) p.left) (p.reading (End r.token)) later in rw parts.0 (0, omega arith, parts.1)

-- of an end, with its wire
end_holds : (w : WiredSystem) (g : ℕ) (e x : EndState) (side : Side) (late : List Change)
    → EndOk e (coming w.system.kernel.queue w.poll (End (token g side))) (w.wires side) late x
    → EndHolds w side late (record { token = token g side; socket = e })
end_holds w g e x side late ok =
    let r : Registered = record { token = token g side; socket = e } in
    record {
      coming = λ some. coming_told_way w side r (told_soon ok some);
      nothing_missed = λ reads word_told. (let it = missed ok reads word_told in record { armed = it.0; coming = λ some. coming_told_way w side r (it.1 some) });
    }

module _ (w : WiredSystem) (d : Delay) (e : List (Option Registered)) (q b : List Name) where
  -- once all that is late has come
  caught_up : {o : Option ℕ} → Both (rim w.system) w.wires w.poll d.late e o → (queue : List Name)
      × (run (seen_as w.system e q b) (comes d.late (Client ∷ Target ∷ [])) ≡ Some (seen_as w.system w.system.kernel.ends queue b))
  caught_up (Away ends real empty late) = (q, rw (late Client, late Target, real) refl)
  caught_up (Opened {g} f s ends real as_seen oks) =
      let c = all_come g w.system q b f s ends oks in
      (c.queue, rw as_seen c.leads ∙ ap (λ (sockets : List (Option Registered)). Some (seen_as w.system sockets c.queue b)) (sym real))

  ends_hold : {o : Option ℕ} → Both (rim w.system) w.wires w.poll d.late e o
      → (side : Side) (r : Registered) → end_here w.system side ≡ Some r → EndHolds w side (d.late side) r
  ends_hold (Away ends real empty late) side r is = let never = rw ends at is in cc
  ends_hold (Opened {g} f s ends real as_seen oks) side r is =
      let here : end_here w.system side ≡ Some (record { token = token g side; socket = f side }) = rw (ends, real) (end_as g f side) in
      let same : r ≡ record { token = token g side; socket = f side } = some_is (sym here ∙ is) in
      rw same (end_holds w g (f side) (s side) side (d.late side) (oks side))

pub wires_come_late : CoreLaws → EveryInterleavingIsARun → WiresComeLate
wires_come_late core law l steps w one ran =
    let first : Joined (rim (alone.start l)) (start l).wires None none_late [] [] =
    record { generation = None; ends = Away refl refl (inl refl) (λ side. refl); known = record { each = λ n h. cc }; polls = Idle; on_way = λ n h. cc } in
    let it = went core law l one steps (start l) w none_late [] [] first refl [] refl ran in
    let d = delay (start l) none_late steps in
    let b = batch_there w.poll d.early w.system.batch in
    let up = caught_up w d it.there it.queue b it.joined.ends in
    record {
      seen = seen_as w.system it.there it.queue b;
      leads = it.leads;
      run = law l (happened (start l) none_late steps) (seen_as w.system it.there it.queue b) one it.leads;
      same = refl;
      settled = seen_as w.system w.system.kernel.ends up.0 b;
      comes = up.1;
      sockets = refl;
      queue = it.joined.on_way;
      ends = ends_hold w d it.there it.queue b it.joined.ends;
    }
