-- From what was computed of the text that was read, and what was written of it, to the whole input.
use Rattle.std.{proofs.{Common.{◌≡◌, ℕ, List, [], ◌∷◌, Option, Some, None, Ok, option_and_then, ◌≢◌, ◌⊎◌, ◌+◌, ◌<◌, ◌≤◌, ap, length, length-append, take, Result, Err, inl, inr, refl, sym, ◌∙◌, subst, arith}, lemmas.{Option.IfSome_then, List.{take_all, length-take-le}, Bool.{cases_lt, lt-ltb}}}, specs.{Prelude.IfSome, Io.KnownBytes.Appends}}
use Rattle.world.specs.{States.{State, opening}, Steps.step, Runs.run}
use Rattle.script_text.specs.declared.steps.NumberedEvent.{NumberedEvent}
use Rattle.world_text.specs.Words.{event_word}
use Rattle.script.{specs.{Faults.{and_then, or_not_allowed, played, GivesDefined}, Plans.events_in, Runs.{line_happened, EveryRunIsSound, EveryRun, reached_by, error_line, LeadsTo, WritesReport, AnswersFault, WritesFault, EveryByte, EveryEnd}, declared.{fault.Fault.{Fault, TheVariants.{TooLong, NoMemory}}, script.{Script.Script, Reached.Reached}}, Scripts.{Plan, TakesMemory, parsed, said_by, most_of_script}}, proofs.Keeping.{keeps_bytes, keeps_end}}
use Rattle.tools.specs.declared.simulate.{Outcome.{Outcome, TheVariants.{Report, Refused}}, ScriptFault.ScriptFault}
use Rattle.input.specs.Texts.{TakesSome}

-- The headline of every run, for the events of a script.

-- events that happened line by line are a run
goes_on : (e : NumberedEvent) (es : List NumberedEvent) (w : State) → ((q : State) → played line_happened q es ≡ Ok w → run q (events_in es) ≡ Some w)
    → (o : Option State) → and_then (λ q. played line_happened q es) (or_not_allowed e.line (event_word e.event) o) ≡ Ok w → option_and_then (λ (q : State). run q (events_in es)) o
    ≡ Some w
goes_on e es w rest None h = absurd (cc)
goes_on e es w rest (Some q) h = rest q h

is_run : (es : List NumberedEvent) (st w : State) → played line_happened st es ≡ Ok w → run st (events_in es) ≡ Some w
is_run [] st w h = cc
is_run (e ∷ es) st w h = goes_on e es w (λ q. is_run es q w) (step st e.event) h

pub every_run : EveryRunIsSound → (a : Option (List ℕ)) → IfSome a EveryRun
every_run law None = tt
every_run law (Some text) = λ plan st is ran. law plan.limits (events_in plan.events) st (is_run plan.events (opening plan.limits) st ran)

-- a text that is too long is no script
long_is_none : (text : List ℕ) (p : Plan) → most_of_script < length text → parsed text ≡ Ok p → ⊥
long_is_none text p long is =
    let clash : Err TooLong ≡ Ok p = rw (lt-ltb most_of_script (length text) long) at is in
    absurd (cc)

-- a text that is a script, and what that leads to
pub by_script : (text : List ℕ) (script : Script) (r : Result Reached Fault) → parsed text ≡ Ok (said_by script) → GivesDefined (reached_by script) r → LeadsTo text r
by_script text script (Ok reached) is to = (script, (is, to))
by_script text script (Err NoMemory) is to = inl (script, is)
by_script text script _ is to = inr (script, (is, to))

-- a front that is one byte longer than a script may be is as long as the input, or too long as the input is
long_parsed : (input : List ℕ) → most_of_script < length input → parsed (take (most_of_script + 1) input) ≡ parsed input
long_parsed input long =
    let longer : most_of_script < length (take (most_of_script + 1) input) = omega (arith, length-take-le (most_of_script + 1) input (omega (arith, long))) in
    rw (lt-ltb most_of_script (length (take (most_of_script + 1) input)) longer, lt-ltb most_of_script (length input) long) refl

long_may : (input : List ℕ) → most_of_script < length input → TakesMemory (take (most_of_script + 1) input) → ⊥
long_may input long (inl (script, is)) = long_is_none input (said_by script) long (sym (long_parsed input long) ∙ is)
long_may input long (inr (short, well)) = omega (arith, short, length-take-le (most_of_script + 1) input (omega (arith, long)))

-- texts that are one script lead to the same
leads_too : (text input : List ℕ) (r : Result Reached Fault) → parsed text ≡ parsed input → (TakesMemory text → TakesMemory input) → LeadsTo text r → LeadsTo input r
leads_too text input (Ok reached) same may (script, (is, to)) = (script, (sym same ∙ is, to))
leads_too text input (Err NoMemory) same may to = may to
leads_too text input _ same may to = elim to [
  | inl is ↦ inl (sym same ∙ is)
  | inr found ↦ inr (found.0, (sym same ∙ found.1.0, found.1.1))
]

-- what was computed of the front holds of the whole input
of_front : (input : List ℕ) (r : Result Reached Fault) → LeadsTo (take (most_of_script + 1) input) r → LeadsTo input r
of_front input r to = by_length (cases_lt most_of_script (length input))
  where
    by_length : (most_of_script < length input) ⊎ (length input ≤ most_of_script) → LeadsTo input r
    by_length (inl long) =
        leads_too (take (most_of_script + 1) input) input r (long_parsed input long) (λ may. absurd (long_may input long may)) to
    by_length (inr short) = subst (λ (t : List ℕ). LeadsTo t r) (take_all (most_of_script + 1) input (omega (arith, short))) to

of_input : (text input : List ℕ) (r : Result Reached Fault) → text ≡ take (most_of_script + 1) input → LeadsTo text r → LeadsTo input r
of_input text input r front to = of_front input r (subst (λ (t : List ℕ). LeadsTo t r) front to)

-- what was written for the text that was read is what the whole input leads to
module _ (a : Option (List ℕ)) (text front : List ℕ) (r : Result Outcome ScriptFault) (old new : Option (List ℕ)) (same : text ≡ front)
    (cut : IfSome a (λ input. front ≡ take (most_of_script + 1) input)) where
  pub reports : (r ≡ Ok Report → WritesReport text old new) → r ≡ Ok Report → IfSome a (λ input. WritesReport input old new)
  reports told is = IfSome_then a cut (λ input front_is.
      let (reached, found) = told is in
      (reached, (of_input text input (Ok reached) (same ∙ front_is) found.0, found.1)))

  pub refuses : (r ≡ Ok Refused → AnswersFault text old new) → r ≡ Ok Refused → IfSome a (λ input. WritesFault input old new)
  refuses told is = IfSome_then a cut (λ input front_is.
      let (fault, found) = told is in
      inl (fault, (of_input text input (Err fault) (same ∙ front_is) found.0, found.1)))

-- memory ran out before the script was read
some_taken : (a b : Option (List ℕ)) → TakesSome a b → IfSome a (λ input. input ≢ [])
some_taken None b taken = tt
some_taken (Some input) None (bytes, (consumed, some)) = absurd consumed
some_taken (Some input) (Some rest) (bytes, (consumed, some)) =
    λ none. omega (arith, some, ap (λ (t : List ℕ). length t) (sym none ∙ consumed), length-append bytes rest)

pub ran_out : (a b old new : Option (List ℕ)) → TakesSome a b → Appends old new (error_line NoMemory) → IfSome a (λ input. WritesFault input old new)
ran_out None b old new some wrote = tt
ran_out (Some input) b old new some wrote = inr (some_taken (Some input) b some, wrote)

-- a text that leads to a state may take memory
pub leads_may : (text : List ℕ) (reached : Reached) → LeadsTo text (Ok reached) → TakesMemory text
leads_may text reached (script, (is, to)) = inl (script, is)

-- the two laws hold of every text
pub every_byte : (a : Option (List ℕ)) → IfSome a EveryByte
every_byte None = tt
every_byte (Some text) = λ plan is. keeps_bytes plan

pub every_end : (a : Option (List ℕ)) → IfSome a EveryEnd
every_end None = tt
every_end (Some text) = λ plan is. keeps_end plan
