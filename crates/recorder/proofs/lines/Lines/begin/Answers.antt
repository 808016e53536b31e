use Rattle.std.proofs.Common.{rules}
use Rattle.recorder.proofs.Filling.{holds_first}
use Rattle.recorder.proofs.lines.Lines.begin.Goals as goal

pub returns-clause-held : goal.returns-clause-held
returns-clause-held g c =
    λ empty. holds_first c.args.header c.args.header c.add.new.self.most c.as_bytes.result.now _ _ _ _ _ empty c.in_ok-add.ensures.added
    (search rules) (search rules) (search rules) (search rules) (search rules) (search rules)
