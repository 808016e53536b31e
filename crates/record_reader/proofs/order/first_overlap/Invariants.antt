-- Each act before the place follows the one before it.
use Rattle.std.proofs.Common.{◌<◌, ◌≤◌, ℕ}
use Rattle.record_reader.specs.Sequences.{FollowsAt}
use Rattle.record_reader.proofs.order.first_overlap.Given as goal

abbrev pub invariant-loop-place : goal.invariant-loop-place
invariant-loop-place l = (k : ℕ) → k < l.place → 1 ≤ k → FollowsAt l.list k
