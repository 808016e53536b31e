use Rattle.recorder.proofs.Filling.{written_text}
use Rattle.recorder.proofs.lines.line_of.Goals as goal

pub returns-in-Ok : goal.returns-in-Ok
returns-in-Ok c = written_text 120 c.new-line.result c.writeln.new.self _ c.new-line.ensures c.in-Ok.ensures.writes
