use Rattle.std.{proofs.Common.take, specs.Prelude.All}
use Rattle.writer_queue.proofs.parked.are_empty.Given as goal

-- the queues so far were empty
abbrev pub invariant-loop-queue : goal.invariant-loop-queue
invariant-loop-queue g l = All g.Q.Line.was_empty (take l.queue-index l.queues)
