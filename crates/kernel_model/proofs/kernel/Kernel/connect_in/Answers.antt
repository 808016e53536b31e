use Rattle.std.proofs.{Common.arith, lemmas.{Grind.common_steps, Option.gets}}
use Rattle.kernel_model.proofs.kernel.Kernel.connect_in.Goals as goal

pub returns-clause-outcome : goal.returns-clause-outcome
returns-clause-outcome c = grind (arith, gets, common_steps)
