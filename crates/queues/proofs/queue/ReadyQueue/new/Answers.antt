use Rattle.std.proofs.{Common.arith, lemmas.Grind.common_steps}
use Rattle.queues.proofs.queue.ReadyQueue.new.Goals as goal

pub loop-end-preserved : goal.loop-end-preserved
loop-end-preserved c = grind (arith, common_steps)
