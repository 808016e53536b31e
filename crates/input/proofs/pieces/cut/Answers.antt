use Rattle.std.proofs.{Common.{sym, ◌∙◌, ◌+◌}, lemmas.List.take_rest}
use Rattle.input.proofs.Loops.{split_at_first, split_nowhere}
use Rattle.input.proofs.pieces.cut.Goals as goal

pub returns-in-Some : goal.returns-in-Some
returns-in-Some c =
    rw (take_rest c.args.text.now (c.in-Some.at + 1)) (split_at_first _ _ _ (sym c.first.ensures ∙ c.in-Some.is))

pub returns-in-None : goal.returns-in-None
returns-in-None c = split_nowhere _ _ (sym c.first.ensures ∙ c.in-None.is)
