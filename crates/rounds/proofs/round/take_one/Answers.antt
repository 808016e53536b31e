use Rattle.std.proofs.{Common.arith, lemmas.Grind.common_steps}
use Rattle.rounds.proofs.round.take_one.Goals as goal

pub returns-clause-took : goal.returns-clause-took
returns-clause-took g c = grind (arith, common_steps)

pub returns-clause-more : goal.returns-clause-more
returns-clause-more g c = grind (arith, common_steps)
