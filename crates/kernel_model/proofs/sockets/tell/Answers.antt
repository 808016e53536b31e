use Rattle.std.proofs.{Common.arith, lemmas.Grind.common_steps}
use Rattle.kernel_model.proofs.sockets.tell.Goals as goal

pub returns-clause-outcome : goal.returns-clause-outcome
returns-clause-outcome c = grind (arith, common_steps)

pub returns-in_err-change-clause-outcome : goal.returns-in_err-change-clause-outcome
returns-in_err-change-clause-outcome c = grind (arith, common_steps)
