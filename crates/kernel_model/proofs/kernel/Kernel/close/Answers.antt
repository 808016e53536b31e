use Rattle.std.proofs.{Common.arith, lemmas.{Grind.common_steps, Option.gets}}
use Rattle.kernel_model.proofs.kernel.Kernel.close.Goals as goal

pub returns-in-Some : goal.returns-in-Some
returns-in-Some c = grind (arith, gets, common_steps)
