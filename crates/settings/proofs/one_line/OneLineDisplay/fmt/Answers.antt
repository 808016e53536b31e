use Rattle.std.{proofs.{Common.{rules, ◌≡◌, ℕ, ◌+◌, ◌<◌, ◌≤◌, length, take, get_or, chars, IsUtf8, arith, ◌++◌, ◌∷◌, [], List, codes, refl, sym, true, ap, ◌∙◌, append-nil, take_all}, Output.{has_written_append, has_written_of_eq}, lemmas.{Bool.{le-ltb, lt-ltb}, Iterator.{YieldsList-from_chars, Consumers.{YieldsList-turn, YieldsList-end}}, List.{take_more, flat_map_more, length_push}}}, specs.List.flat_map}
use Rattle.settings.specs.Faults.{dots, shown_character}
use Rattle.settings.proofs.one_line.OneLineDisplay.fmt.Goals as goal

-- the shown text of a character more
one_more : (cs : List ℕ) (n c : ℕ) → (n < length cs) × (c ≡ get_or cs n c) → flat_map shown_character (take n cs) ++ shown_character c ≡ flat_map shown_character (take (n + 1) cs)
one_more cs n c h =
    flat_map_more shown_character [] (take n cs) c
    ∙ ap (λ x. flat_map shown_character (take n cs ++ x ∷ [])) h.1
    ∙ ap (flat_map shown_character) (sym (take_more cs n c h.0))

-- more than 64 characters end in `..`, and fewer in nothing
cut_short : (cs : List ℕ) (n : ℕ) → n ≡ 64 → 64 < length cs → flat_map shown_character (take n cs) ++ codes ".." ≡ flat_map shown_character (take 64 cs) ++ dots (length cs)
cut_short cs n full more = rw (lt-ltb 64 (length cs) more, full) refl

all_shown : (cs : List ℕ) (n : ℕ) → n ≡ length cs → n ≤ 64 → flat_map shown_character (take n cs) ≡ flat_map shown_character (take 64 cs) ++ dots (length cs)
all_shown cs n all few =
    rw (le-ltb 64 (length cs) (omega (arith, all, few)))
    (ap (flat_map shown_character) (take_all n cs (omega (arith, all)) ∙ sym (take_all 64 cs (omega (arith, all, few)))) ∙ sym (append-nil _))

pub returns-then-shown-eq-MAX_SHOWN-clause-writes : goal.returns-then-shown-eq-MAX_SHOWN-clause-writes
returns-then-shown-eq-MAX_SHOWN-clause-writes g c = λ plain is_ok.
    let text = c.args.self.now.0.now in
    let utf8 : IsUtf8 text = search rules in
    let t = YieldsList-turn (YieldsList-from_chars text utf8 cc) c.loop-character.yielded _ c.loop-character.yielded_by _ _ c.in-Some.character c.in-Some.is c.next.ensures.steps in
    let full : c.loop-character.shown ≡ 64 = c.if-shown-eq-MAX_SHOWN.true in
    let before = c.loop-character.invariant.2 plain in
    has_written_of_eq _ _ _ _ _
    (cut_short (chars text) c.loop-character.shown full (omega (arith, full, c.loop-character.invariant.0, t.0)))
    (has_written_append _ _ _ _ _ _ before (c.write_str.ensures.writes before.plain is_ok))

pub loop-character-preserved : goal.loop-character-preserved
loop-character-preserved g c =
    let text = c.args.self.now.0.now in
    let utf8 : IsUtf8 text = search rules in
    let t = YieldsList-turn (YieldsList-from_chars text utf8 cc) c.loop-character.yielded _ c.loop-character.yielded_by _ _ c.in-Some.character c.in-Some.is c.next.ensures.steps in
    let counted = c.loop-character.invariant.0 in
    let more = c.if-shown-eq-MAX_SHOWN.false in
    let within = c.loop-character.invariant.1 in (
      ap (λ n. n + 1) counted ∙ sym (length_push c.loop-character.yielded c.in-Some.character),
      omega (arith, more, within),
      λ plain.
          let before = c.loop-character.invariant.2 plain in
          has_written_of_eq _ _ _ _ _ (one_more (chars text) c.loop-character.shown c.in-Some.character (rw counted t))
          (has_written_append _ _ _ _ _ _ before (c.in_ok-fmt.ensures.writes before.plain (refl {a = true}))),
    )

pub returns-clause-writes : goal.returns-clause-writes
returns-clause-writes g c = λ plain is_ok.
    let text = c.args.self.now.0.now in
    let utf8 : IsUtf8 text = search rules in
    let t = YieldsList-end (YieldsList-from_chars text utf8 cc) c.loop-character.yielded _ c.loop-character.yielded_by _ _ c.in-None.is c.next.ensures.steps in
    has_written_of_eq _ _ _ _ _ (all_shown (chars text) _ (c.loop-character.invariant.0 ∙ t.1) c.loop-character.invariant.1) (c.loop-character.invariant.2 plain)
