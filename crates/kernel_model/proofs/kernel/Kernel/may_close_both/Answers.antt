use Rattle.std.proofs.{Common.arith, lemmas.{Grind.common_steps, Option.gets}}
use Rattle.kernel_model.proofs.kernel.Kernel.may_close_both.Goals as goal

pub returns-then-is_some : goal.returns-then-is_some
returns-then-is_some c = grind (arith, gets, common_steps)

pub returns-else-is_some : goal.returns-else-is_some
returns-else-is_some c = grind (arith, gets, common_steps)
