-- What a step of `System` leaves as it is, when the accept flag is up and no client is accepted, as in a slot of a server.
pub use Rattle.interleaving.specs.{Slots.opening_at_slot, Threads.{Accept, Acts, Begin, Calls, Connect, Deliver, Drop, Open, Poll, Step, System, Thread, then_acts, open_slot, run, step}}
pub use Rattle.kernel_model.specs.declared.accepting.Accepting.TheVariants.{Accepted}
pub use Rattle.std.proofs.{Common.{Bool, List, None, Option, Some, [], ap, append-nil, arith, drop, eq-eqb, false, if◌then◌else◌, length, not, refl, slice_get, slice_set, suc, sym, take, true, zero, ℕ, ◌&&◌, ◌++◌, ◌+◌, ◌==◌, ◌∙◌, ◌∷◌, ◌≡◌, ◌≢◌}, Math.Seq.{take-append_seam, take-length}, lemmas.{Bool.Decides.nat_tests, Option.option_and_then_some}}
pub use Rattle.world.{proofs.Headline.Ends.Pairs.Holders.Events.Lists.{Kept, get-set_other, get-set_same, kept_guard, kept_map, kept_none, kept_some, kept_when}, specs.declared.limits.Limits.Limits}

abbrev pub common : System → Limits × (Bool × Bool)
common st = (st.limits, (st.flag, st.accepted))

-- As many names leave the batch, and tickets come at the end. All else but the slot's own fields and such threads stays
pub record Leaves (moves : ℕ → Bool) (names : ℕ) (st q : System) : Type 0 where
  pub common : common q ≡ common st
  pub batch : q.batch ≡ drop names st.batch
  pub tickets : take (length st.tickets) q.tickets ≡ st.tickets
  pub others : (j : ℕ) → moves j ≡ false → slice_get q.threads j ≡ slice_get st.threads j

-- the step may move this thread
abbrev pub moves : Step → ℕ → Bool
moves Open j = j == 0
moves (Begin i most) j = j == i
moves (Acts i) j = j == i
moves (Calls i r) j = j == i
moves s j = false

abbrev pub delivers : Step → ℕ
delivers Deliver = 1
delivers s = 0

-- the steps that take no client or ticket, and are no poll
abbrev pub is_plain : Step → Bool
is_plain (Accept reply) = false
is_plain Drop = false
is_plain (Poll names) = false
is_plain (Begin i most) = false
is_plain s = true

module _ (st q : System) where
  one_ran : (s : Step) → run st (s ∷ []) ≡ Some q → step st s ≡ Some q
  one_ran s ran = grind arith

  others_stay : (s : Step) (j : ℕ) → step st s ≡ Some q → moves s j ≡ false → slice_get q.threads j ≡ slice_get st.threads j
  others_stay (Acts i) j is other = grind (arith, nat_tests, get-set_other {X = Thread})
  others_stay s j is other = grind (arith, nat_tests, get-set_other {X = Thread})

  rest_stays : (s : Step) → st.flag ≡ true → st.accepted ≡ false → is_plain s ≡ true → step st s ≡ Some q
      → (common q ≡ common st) × (q.batch ≡ drop (delivers s) st.batch) × (take (length st.tickets) q.tickets ≡ st.tickets)
  rest_stays s up none plain is = grind (arith, take-length {A = ℕ}, take-append_seam {A = ℕ})

  pub leaves : (s : Step) → st.flag ≡ true → st.accepted ≡ false → is_plain s ≡ true → run st (s ∷ []) ≡ Some q
      → Leaves (moves s) (delivers s) st q
  leaves s up none plain ran =
      let is = one_ran s ran in
      let rest = rest_stays s up none plain is in
      record { common = rest.0; batch = rest.1; tickets = rest.2; others = λ j. others_stay s j is }

  -- a turn that begins takes the first ticket
  pub leaves_begin : (i most : ℕ) → run st (Begin i most ∷ []) ≡ Some q
      → (common q ≡ common st) × (q.batch ≡ st.batch) × (q.tickets ≡ drop 1 st.tickets)
      × ((j : ℕ) → (j == i) ≡ false → slice_get q.threads j ≡ slice_get st.threads j)
  leaves_begin i most ran =
      let is = one_ran (Begin i most) ran in
      let rest : (common q ≡ common st) × (q.batch ≡ st.batch) × (q.tickets ≡ drop 1 st.tickets) = grind arith in
      (rest.0, rest.1, rest.2, λ j. others_stay (Begin i most) j is)

-- An opening, from the client that connects on

-- the opening begins
opens : (st x y q : System) → step st Connect ≡ Some x → step x (Accept Accepted) ≡ Some y → step y Open ≡ Some q
    → (t : Thread) × (slice_get st.threads 0 ≡ Some t) × (q.threads ≡ slice_set st.threads 0 (then_acts t open_slot)) × (q.limits ≡ st.limits) × (q.flag ≡ st.flag) × (q.batch ≡ st.batch)
    × (q.tickets ≡ st.tickets)
opens st x y q first second third = grind arith

registers : (st q : System) (t : Thread) → slice_get st.threads 0 ≡ Some (then_acts t open_slot) → step st (Acts 0) ≡ Some q
    → (q.limits ≡ st.limits) × (q.flag ≡ st.flag) × (q.accepted ≡ false) × (q.batch ≡ st.batch) × (q.tickets ≡ st.tickets)
registers st q t there is = grind arith

pub leaves_opening : (st q : System) → st.accepted ≡ false → run st opening_at_slot ≡ Some q → Leaves (λ j. j == 0) 0 st q
leaves_opening st q none ran = option_and_then_some (λ (x : System). run x (drop 1 opening_at_slot)) (step st Connect) q ran (λ x first rest.
    option_and_then_some (λ (y : System). run y (drop 2 opening_at_slot)) (step x (Accept Accepted)) q rest (λ y second rest.
    option_and_then_some (λ (b : System). run b (drop 3 opening_at_slot)) (step y Open) q rest (λ b third last.
    let o = opens st x y b first second third in
    let there : slice_get b.threads 0 ≡ Some (then_acts o.0 open_slot) =
    ap (λ (ts : List Thread). slice_get ts 0) o.2 ∙ get-set_same st.threads 0 o.0 (then_acts o.0 open_slot) o.1 in
    let is = one_ran b q (Acts 0) last in
    let r = registers b q o.0 there is in
    record {
      common = rw (r.0, o.3, r.1, o.4, r.2, none) refl;
      batch = r.3 ∙ o.5;
      tickets = rw (r.4, o.6) (take-length st.tickets);
      others = λ j other. others_stay b q (Acts 0) j is other ∙ (ap (λ (ts : List Thread). slice_get ts j) o.2
          ∙ get-set_other st.threads 0 j (then_acts o.0 open_slot) (λ same. (let first = eq-eqb j 0 (sym same) in cc)));
    })))
