use Rattle.std.{proofs.Common.{◌≡◌, ◌<◌, ◌^◌, drop}, specs.{Prelude.fold, List.list_all}}
use Rattle.input.specs.Texts.{is_digit, value_of, with_digit}
use Rattle.input.proofs.numbers.number.Given as goal

-- the value so far, with the digits that are left, is the value of all
abbrev pub invariant-loop-byte : goal.invariant-loop-byte
invariant-loop-byte l =
    (list_all is_digit l.text ≡ list_all is_digit (drop l.byte-index l.text))
    × (value_of l.text ≡ fold with_digit l.value (drop l.byte-index l.text))
    × (l.value < 2 ^ 64)
