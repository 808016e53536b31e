use Rattle.std.proofs.{Common.arith, lemmas.{Grind.common_steps, Option.gets}}
use Rattle.world.proofs.world.World.release.Goals as goal

pub returns : goal.returns
returns c = grind (arith, gets, common_steps)

pub returns-then-not-may_release : goal.returns-then-not-may_release
returns-then-not-may_release c = grind (arith, gets, common_steps)
