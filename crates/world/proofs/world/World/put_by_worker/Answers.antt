use Rattle.std.proofs.{Common.arith, lemmas.{Grind.common_steps, Option.gets}}
use Rattle.world.proofs.world.World.put_by_worker.Goals as goal

pub returns : goal.returns
returns c = grind (arith, gets, common_steps)

pub returns-in_err-reserve : goal.returns-in_err-reserve
returns-in_err-reserve c = grind (arith, gets, common_steps)
