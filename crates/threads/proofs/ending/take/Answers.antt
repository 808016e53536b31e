use Rattle.std.proofs.Common.{refl}
use Rattle.threads.proofs.ending.take.Goals as goal

pub returns-clause-closed : goal.returns-clause-closed
returns-clause-closed g c = (c.in-Err.drained, refl, rw c.in-Err.ensures.unchanged c.in-Err.ensures.closed)
