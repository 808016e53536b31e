use Rattle.std.proofs.{Common.arith, lemmas.{Grind.common_steps, Option.gets}}
use Rattle.world.proofs.world.World.post_at.Goals as goal

pub returns-else-branch-clause-event : goal.returns-else-branch-clause-event
returns-else-branch-clause-event c = grind (arith, gets, common_steps)

pub returns-then-branch-clause-event : goal.returns-then-branch-clause-event
returns-then-branch-clause-event c = grind (arith, gets, common_steps)

pub returns-in_err-post-clause-event : goal.returns-in_err-post-clause-event
returns-in_err-post-clause-event c = grind (arith, gets, common_steps)
