use Rattle.std.proofs.{Common.arith, lemmas.{Grind.common_steps, Option.gets}}
use Rattle.world.proofs.world.World.claim.Goals as goal

pub returns-then-is_held : goal.returns-then-is_held
returns-then-is_held c = grind (arith, gets, common_steps)

pub returns-else-is_held : goal.returns-else-is_held
returns-else-is_held c = grind (arith, gets, common_steps)
