use Rattle.std.proofs.Common.{rules}
use Rattle.recorder.proofs.Filling.{holds_line}
use Rattle.recorder.proofs.lines.Lines.put.Goals as goal

pub returns-clause-held : goal.returns-clause-held
returns-clause-held g c =
    λ records held. holds_line _ _ _ _ c.args.record.now records c.as_bytes.result.now _ _ _ _ _ c.add.new.self.greatest _ _ _ (c.in_ok-make_room.ensures.held records held)
    c.in_ok-add.ensures.added (search rules) (search rules) (search rules) (search rules) (search rules) (search rules) (search rules)
    (search rules) (search rules)
