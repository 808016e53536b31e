use Rattle.recorder.proofs.Filling.{written_text}
use Rattle.recorder.proofs.lines.header_line.Goals as goal

pub returns-in-Ok : goal.returns-in-Ok
returns-in-Ok c = written_text 256 c.new-text.result c.writeln.new.self _ c.new-text.ensures c.in-Ok.ensures.writes
