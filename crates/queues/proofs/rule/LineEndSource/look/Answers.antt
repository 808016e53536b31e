use Rattle.queues.proofs.Moves.{pops, learns}
use Rattle.queues.proofs.rule.LineEndSource.look.Goals as goal

pub pop-requires-clause-rule : goal.pop-requires-clause-rule
pop-requires-clause-rule g c = (pops _ _, learns _ _)
