use Rattle.std.proofs.{Common.{arith, ap, length, ◌==◌}, lemmas.List.{Splits.length-slice_split, Sums.count_by-le-length}}
use Rattle.script_text.proofs.lines.Lines.new.Goals as goal

pub invariant_of-result : goal.invariant_of-result
invariant_of-result c =
    omega (arith, ap length c.new.ensures, length-slice_split (λ byte. byte == 10) c.args.text.now, count_by-le-length (λ byte. byte == 10) c.args.text.now, c.requires)
