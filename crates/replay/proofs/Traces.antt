-- A run with one event more, and the connections of records with one more.
use Rattle.std.{proofs.{Common.{◌≡◌, ◌<◌, ◌+◌, ℕ, List, [], ◌∷◌, ◌++◌, drop, drop-cons, get_or, length, suc, take, Option, Some, None, refl, sym, ◌∙◌, ap, arith, option_and_then}, lemmas.List.{append-nil, append_assoc, take-append-drop, Elements.{All-append, All-cons}}}, specs.Prelude.All}
use Rattle.world.{proofs.Headline.run_and, specs.{declared.{event.Event.Event, limits.Limits.Limits}, States.{State, opening}, Steps.step, Runs.run}}
use Rattle.record_lines.specs.declared.act.Act.{Act}
use Rattle.record_reader.specs.declared.recording.Numbered.{Numbered}
use Rattle.replay.specs.{declared.action.Action.Action, Traces.{IsHistory, action_in, action_of, and_actions, joined_acts, trace_after, trace_next, trace_of_records, trace_of_run}}

nothing_more : (o : Option State) → trace_next o (λ (q : State). []) ≡ []
nothing_more None = refl
nothing_more (Some p) = refl

and_then_append : (o : Option Action) (xs ys : List Action) → and_actions o (xs ++ ys) ≡ and_actions o xs ++ ys
and_then_append None xs ys = refl
and_then_append (Some action) xs ys = refl

trace_by : (q : State) (events : List Event) (e : Event) (last : List Action)
    → ((p : State) → run p events ≡ Some q → trace_of_run p (events ++ e ∷ []) ≡ trace_of_run p events ++ last)
    → (o : Option State) → option_and_then (λ (p : State). run p events) o ≡ Some q
    → trace_next o (λ (p : State). trace_of_run p (events ++ e ∷ [])) ≡ trace_next o (λ (p : State). trace_of_run p events) ++ last
trace_by q events e last more None ran = absurd (cc)
trace_by q events e last more (Some p) ran = more p ran

-- what one event more is, is added
trace_and : (st q : State) (events : List Event) (e : Event)
    → run st events ≡ Some q → trace_of_run st (events ++ e ∷ []) ≡ trace_of_run st events ++ and_actions (action_in q e) []
trace_and st q [] e ran =
    let same : st ≡ q = cc in
    rw same (ap (λ xs. and_actions (action_in q e) xs) (nothing_more (step q e)))
trace_and st q (f ∷ events) e ran =
    ap (λ xs. and_actions (action_in st f) xs)
    (trace_by q events e (and_actions (action_in q e) []) (λ p ran'. trace_and p q events e ran') (step st f) ran)
    ∙ and_then_append (action_in st f) (trace_next (step st f) (λ (p : State). trace_of_run p events)) (and_actions (action_in q e) [])

-- what was found so far, with the record at a place
pub one_record : (records : List Numbered) (place : ℕ) (d : Numbered) (last : Act) (o : Option Action) (trace more : List Action)
    → place < length records → trace_of_records records ≡ trace ++ trace_after last (drop place records)
    → o ≡ action_of last (get_or records place d).record.act → more ≡ trace ++ and_actions o []
    → trace_of_records records ≡ more ++ trace_after (get_or records place d).record.act (drop (place + 1) records)
one_record records place d last o trace more within before found more_is =
    let later : List Action = trace_after (get_or records place d).record.act (drop (place + 1) records) in
    let one : suc place ≡ place + 1 = omega arith in
    let next : drop place records ≡ get_or records place d ∷ drop (place + 1) records =
    drop-cons records place d within ∙ ap (λ n. get_or records place d ∷ drop n records) one in
    before ∙ ap (λ rs. trace ++ trace_after last rs) next ∙ ap (λ p. trace ++ and_actions p later) (sym found)
    ∙ ap (λ xs. trace ++ xs) (and_then_append o [] later) ∙ sym (append_assoc trace (and_actions o []) later) ∙ ap (λ xs. xs ++ later) (sym more_is)

-- a history with one event more
pub one_event : (l : Limits) (events next : List Event) (q r : State) (trace more : List Action) (e : Event) (o : Option Action)
    → IsHistory (record { limits = l; events = events; world = q; trace = trace }) → step q e ≡ Some r → action_in q e ≡ o
    → next ≡ events ++ e ∷ [] → more ≡ trace ++ and_actions o []
    → IsHistory (record { limits = l; events = next; world = r; trace = more })
one_event l events next q r trace more e o before stepped is next_is more_is = record {
  runs = ap (λ es. run (opening l) es) next_is ∙ run_and (opening l) q r events e before.runs stepped;
  trace = ap (λ es. trace_of_run (opening l) es) next_is ∙ trace_and (opening l) q events e before.runs
      ∙ ap (λ xs. xs ++ and_actions (action_in q e) []) before.trace ∙ ap (λ p. trace ++ and_actions p []) is ∙ sym more_is;
}

joined_append : (xs : List (List Numbered)) (x : List Numbered) → joined_acts (xs ++ x ∷ []) ≡ joined_acts xs ++ x
joined_append [] x = append-nil x
joined_append (y ∷ ys) x = ap (λ zs. y ++ zs) (joined_append ys x) ∙ sym (append_assoc y (joined_acts ys) x)

-- the first n records of the rest are those of one connection more
pub one_more : (P : List Numbered → Type 0) (records rest : List Numbered) (n : ℕ)
    → ((done : List (List Numbered)) × (joined_acts done ++ rest ≡ records) × All P done) → P (take n rest)
    → (done : List (List Numbered)) × (joined_acts done ++ drop n rest ≡ records) × All P done
one_more P records rest n before is =
    let done : List (List Numbered) = before.0 in
    let connection : List Numbered = take n rest in (
      done ++ connection ∷ [],
      ap (λ xs. xs ++ drop n rest) (joined_append done connection) ∙ append_assoc (joined_acts done) connection (drop n rest)
          ∙ ap (λ xs. joined_acts done ++ xs) (take-append-drop n rest) ∙ before.1,
      All-append P done (connection ∷ []) before.2 (All-cons P connection [] is (λ k d below. absurd (omega arith))),
    )
