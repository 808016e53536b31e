use Rattle.std.proofs.Common.{◌≡◌, ◌≤◌, ◌∷◌, ◌-◌, replicate, vec_len, vec_capacity}
use Rattle.queues.specs.Steps.{unused, opened}
use Rattle.queues.proofs.free.FreeQueue.new.Given as goal

-- each end after the first has done nothing
abbrev pub invariant-loop-end : goal.invariant-loop-end
invariant-loop-end g l =
    (l.next.capacity ≡ l.slots) × (l.all.items ≡ opened l.first l.slots ∷ replicate (l._end - 1) (unused l.slots)) × (vec_len l.all ≡ l._end) × (l.ends ≤ vec_capacity l.all)
