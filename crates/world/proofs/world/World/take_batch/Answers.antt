use Rattle.std.proofs.{Common.arith, lemmas.{Grind.common_steps, Option.gets}}
use Rattle.world.proofs.world.World.take_batch.Goals as goal

pub returns-clause-event : goal.returns-clause-event
returns-clause-event c = grind (arith, gets, common_steps)
