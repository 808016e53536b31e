use Rattle.std.proofs.{Common.arith, lemmas.{Grind.common_steps, Option.gets}}
use Rattle.world.proofs.world.World.close.Goals as goal

pub returns : goal.returns
returns c = grind (arith, gets, common_steps)

pub returns-in_err-ends : goal.returns-in_err-ends
returns-in_err-ends c = grind (arith, gets, common_steps)

pub returns-in_err-reserve : goal.returns-in_err-reserve
returns-in_err-reserve c = grind (arith, gets, common_steps)

pub returns-then-is_live : goal.returns-then-is_live
returns-then-is_live c = grind (arith, gets, common_steps)
