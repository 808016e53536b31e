use Rattle.std.proofs.Common.{◌≡◌, ℕ, ◌<◌, length, slice_index}
use Rattle.statistics.specs.Counts.{sum}
use Rattle.statistics.proofs.counts.Counts.plus.Given as goal

-- the numbers before this place are sums, and the others are as they were
abbrev pub invariant-loop-place : goal.invariant-loop-place
invariant-loop-place l = record {
  long : length l.sums.numbers ≡ length l.self.numbers;
  summed : (k : ℕ) → k < l.place → slice_index l.sums.numbers k ≡ sum (slice_index l.self.numbers k) (slice_index l.more.numbers k);
}
