use Rattle.std.proofs.Common.{◌≡◌, replicate}
use Rattle.world.specs.States.{resting_worker}
use Rattle.world.proofs.world.resting_workers.Given as goal

abbrev pub invariant-loop-worker : goal.invariant-loop-worker
invariant-loop-worker l = l.workers.items ≡ replicate l._worker resting_worker
