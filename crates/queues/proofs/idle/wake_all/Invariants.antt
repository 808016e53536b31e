use Rattle.std.{proofs.Common.take, specs.Prelude.All}
use Rattle.queues.proofs.idle.wake_all.Given as goal

-- the ends so far were unparked
abbrev pub invariant-loop-parker : goal.invariant-loop-parker
invariant-loop-parker g l = All g.U.Unpark.unparked (take l.parker-index l.parkers)
