use Rattle.std.proofs.Common.{sym, ◌∙◌, arith}
use Rattle.input.proofs.Loops.{too_large_at, whole_number}
use Rattle.input.proofs.numbers.number.Goals as goal

pub returns-in_err-checked_mul : goal.returns-in_err-checked_mul
returns-in_err-checked_mul c =
    c.from_residual.ensures ∙ sym (too_large_at _ _ _ c.loop-byte.invariant.1 c.loop-byte-test.true (omega (arith, c.in_err-checked_mul.ensures)))

pub returns-in_err-value : goal.returns-in_err-value
returns-in_err-value c =
    c.from_residual-in_err-value.ensures
    ∙ sym (too_large_at _ _ _ c.loop-byte.invariant.1 c.loop-byte-test.true (omega (arith, c.in_err-value.ensures, c.in_ok-checked_mul.ensures, c.from.ensures)))

pub returns : goal.returns
returns c = whole_number _ _ _ c.loop-byte.invariant.1 c.loop-byte-test.false (sym c.if-not-is_plain.ensures) c.loop-byte.invariant.0 c.loop-byte.invariant.2
