use Rattle.std.{proofs.{Common.{◌≡◌, ℕ, drop, chars, IsUtf8, Option, Some, None, ap, ◌∙◌, refl}, lemmas.{List.{drop-drop, nil_from_length}, Str.{IsUtf8-past_char, chars_past_char, chars-nil}}}, specs.{Str.Iter.{chars_rest, chars_steps}, declared.str.Chars.Chars}}
use Rattle.settings.proofs.one_line.without_first.Goals as goal

-- a call of `next` leaves out the first character, if there is one
one_less : (s t : Chars) (r : Option ℕ) → IsUtf8 (chars_rest s) → chars_steps s r t → IsUtf8 (chars_rest t) × (chars (chars_rest t) ≡ drop 1 (chars (chars_rest s)))
one_less s t (Some c) utf8 steps = (IsUtf8-past_char _ _ c utf8 steps.0, rw (chars_past_char _ _ c utf8 steps.0) refl)
one_less s t None utf8 steps = (rw steps.0.1 utf8, rw (steps.0.1, nil_from_length _ steps.0.0, chars-nil) refl)

pub loop-preserved : goal.loop-preserved
loop-preserved c =
    let (utf8, less) = one_less _ _ _ c.loop.invariant.0 c.next.ensures.steps in
    (utf8, less ∙ ap (drop 1) c.loop.invariant.1 ∙ drop-drop 1 c.loop.counter (chars c.args.text.now))
