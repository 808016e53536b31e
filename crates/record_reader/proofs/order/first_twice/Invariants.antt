use Rattle.std.proofs.Common.{◌≡◌, ◌-◌, ◌<◌, ◌≤◌, ℕ, get_or}
use Rattle.record_reader.proofs.order.first_twice.Given as goal

abbrev pub invariant-loop-place : goal.invariant-loop-place
invariant-loop-place l = (k : ℕ) → k < l.place → 1 ≤ k → get_or l.counts (k - 1) 0 ≡ get_or l.counts k 0 → ⊥
