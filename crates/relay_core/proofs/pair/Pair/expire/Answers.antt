use Rattle.relay_core.proofs.Pairs.{exactly}
use Rattle.relay_core.proofs.pair.Pair.expire.Goals as goal

pub returns-then-is_overdue-clause-overdue : goal.returns-then-is_overdue-clause-overdue
returns-then-is_overdue-clause-overdue c = exactly _ _ _ _ c.is_overdue-is_overdue.ensures

pub returns-else-is_overdue-clause-overdue : goal.returns-else-is_overdue-clause-overdue
returns-else-is_overdue-clause-overdue c = exactly _ _ _ _ c.is_overdue-is_overdue.ensures
