use Rattle.std.proofs.Common.{rules}
use Rattle.recorder.proofs.Filling.{holds_file}
use Rattle.recorder.proofs.lines.Lines.make_room.Goals as goal

pub returns-clause-held : goal.returns-clause-held
returns-clause-held g c =
    λ records held. holds_file _ _ _ _ records c.as_bytes.result.now _ _ _ _ _ _ _ _ _ held c.in_ok-begin_next.ensures c.in_ok-add.ensures.added
    (search rules) (search rules) (search rules) (search rules) (search rules) (search rules) (search rules)
