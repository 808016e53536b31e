use Rattle.std.{proofs.Common.{◌≡◌, drop, chars, IsUtf8}, specs.Str.Iter.chars_rest}
use Rattle.settings.proofs.one_line.without_first.Given as goal

abbrev pub invariant-loop : goal.invariant-loop
invariant-loop l = IsUtf8 (chars_rest l.rest) × (chars (chars_rest l.rest) ≡ drop l.counter (chars l.text))
