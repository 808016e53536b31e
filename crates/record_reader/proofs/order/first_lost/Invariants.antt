use Rattle.std.proofs.Common.{◌<◌, ℕ}
use Rattle.record_reader.specs.Sequences.{IsBegun, IsMissing}
use Rattle.record_reader.proofs.order.first_lost.Given as goal

abbrev pub invariant-loop-place : goal.invariant-loop-place
invariant-loop-place l = (place : ℕ) → place < l.place → (count : ℕ) → IsMissing l.counts place count → IsBegun l.begun place count
