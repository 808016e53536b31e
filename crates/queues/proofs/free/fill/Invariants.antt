use Rattle.std.proofs.Common.{◌≡◌}
use Rattle.queues.specs.Steps.{opener, in_order}
use Rattle.queues.proofs.free.fill.Given as goal

-- the slots so far were put
abbrev pub invariant-loop-index : goal.invariant-loop-index
invariant-loop-index g l = (l.end.capacity ≡ l.slots) × (l.end.history ≡ record opener { put = in_order l.first l.index })
