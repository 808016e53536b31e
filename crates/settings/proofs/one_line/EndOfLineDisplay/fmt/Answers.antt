use Rattle.std.{proofs.{Common.{◌≡◌, ℕ, ◌≤◌, ◌-◌, List, ◌++◌, length, take, drop, chars, arith, ap, ◌∙◌, append-nil, take_all, IsUtf8, rules, sym}, Output.has_written_of_eq, lemmas.{Bool.le-ltb, List.length-drop, Str.{Chars-Drains, encodes-chars}}}, specs.List.flat_map}
use Rattle.settings.specs.Faults.{dots, shown_character, one_line, end_of_line}
use Rattle.settings.proofs.one_line.EndOfLineDisplay.fmt.Goals as goal

-- of 64 characters or fewer nothing is left out
all_shown : (cs : List ℕ) → length cs ≤ 64 → flat_map shown_character (take 64 cs) ++ dots (length cs) ≡ flat_map shown_character cs
all_shown cs few = rw (le-ltb 64 (length cs) few) (append-nil _ ∙ ap (flat_map shown_character) (take_all 64 cs few))

-- the parts are the whole
joined : (text end before : List ℕ) (count left_out : ℕ) → count ≡ length (chars text) → left_out ≡ count - 64 → before ≡ dots count → chars end ≡ drop left_out (chars text)
    → before ++ one_line end ≡ end_of_line text
joined text end before count left_out counted less dotted after =
    let same : chars end ≡ drop (length (chars text) - 64) (chars text) = after ∙ ap (λ (n : ℕ). drop n (chars text)) (less ∙ ap (λ (m : ℕ). m - 64) counted) in
    let few : length (chars end) ≤ 64 = omega (arith, ap length same, length-drop (length (chars text) - 64) (chars text)) in
    rw (dotted, counted) (ap (λ (x : List ℕ). dots (length (chars text)) ++ x) (all_shown (chars end) few ∙ ap (flat_map shown_character) same))

pub returns-clause-writes : goal.returns-clause-writes
returns-clause-writes g c = λ plain is_ok.
    let utf8 : IsUtf8 c.args.self.now.0.now = search rules in
    let (cs, drains, counted) = c.count-count.ensures.ran in
    let all = Chars-Drains _ cs c.chars.result (encodes-chars _ utf8 ∙ sym c.chars.ensures.rest) drains in
    has_written_of_eq _ _ _ _ _ (joined _ _ _ _ _ (counted ∙ ap length all) c.saturating_sub.ensures c.dots_before-dots.ensures c.without_first.ensures)
    (c.write.ensures.writes plain is_ok)
