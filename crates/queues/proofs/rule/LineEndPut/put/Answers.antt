use Rattle.queues.proofs.Moves.{pushes, learns}
use Rattle.queues.proofs.rule.LineEndPut.put.Goals as goal

pub push-requires-clause-rule : goal.push-requires-clause-rule
push-requires-clause-rule g c = (pushes _ _ _ _, learns _ _)
