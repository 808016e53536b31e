use Rattle.std.proofs.Common.{◌≡◌, ◌≤◌, replicate, vec_len, vec_capacity}
use Rattle.queues.specs.Steps.{new_end}
use Rattle.queues.proofs.queue.ReadyQueue.new.Given as goal

-- each end so far has done nothing
abbrev pub invariant-loop-end : goal.invariant-loop-end
invariant-loop-end l =
    (l.first.capacity ≡ l.capacity) × (l.numbers ≡ l._end) × (l.all.items ≡ replicate l._end (new_end l.first.queue l.capacity)) × (vec_len l.all ≡ l._end) × (l.ends ≤ vec_capacity l.all)
