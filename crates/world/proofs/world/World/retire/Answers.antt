use Rattle.std.proofs.{Common.arith, lemmas.{Grind.common_steps, Option.gets}}
use Rattle.world.proofs.world.World.retire.Goals as goal

pub returns : goal.returns
returns c = grind (arith, gets, common_steps)
