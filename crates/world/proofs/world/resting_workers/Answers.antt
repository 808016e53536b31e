use Rattle.std.proofs.{Common.refl, lemmas.Grind.replicate_next}
use Rattle.world.proofs.world.resting_workers.Goals as goal

pub loop-worker-preserved : goal.loop-worker-preserved
loop-worker-preserved c = rw (c.in_ok-push.ensures.items, c.loop-worker.invariant, c.new.ensures, replicate_next) refl
