use Rattle.std.specs.Prelude.{[]}
use Rattle.threads.specs.WorkerLoops.{WorkerRan}
use Rattle.threads.proofs.working.Worker.run.Given as goal

abbrev pub invariant-loop-turn : goal.invariant-loop-turn
invariant-loop-turn g l = WorkerRan [] [] l.fn.self.owned l.self.owned
