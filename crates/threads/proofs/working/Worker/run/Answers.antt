use Rattle.threads.proofs.WorkerLoops.{worker_both, worker_same, worker_then_ends}
use Rattle.threads.proofs.working.Worker.run.Goals as goal

pub loop-turn-init : goal.loop-turn-init
loop-turn-init g c = worker_same

pub loop-turn-preserved : goal.loop-turn-preserved
loop-turn-preserved g c = worker_both c.loop-turn.invariant c.in_default.ensures.ran

pub returns-in-Err-clause-ran : goal.returns-in-Err-clause-ran
returns-in-Err-clause-ran g c = rw (c.end.ensures.of.1, c.end.ensures.ready) (worker_then_ends c.loop-turn.invariant c.in-Err.ensures.cut)
