use Rattle.std.proofs.Common.{arith}
use Rattle.queues.proofs.Moves.{one_end_more}
use Rattle.queues.proofs.free.FreeQueue.new.Goals as goal

pub loop-end-preserved : goal.loop-end-preserved
loop-end-preserved g c = grind (arith, one_end_more)
