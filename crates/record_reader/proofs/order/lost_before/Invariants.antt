use Rattle.std.proofs.Common.{◌<◌, ◌≤◌, ℕ}
use Rattle.record_reader.specs.Sequences.{IsBegun}
use Rattle.record_reader.proofs.order.lost_before.Given as goal

abbrev pub invariant-loop-missing : goal.invariant-loop-missing
invariant-loop-missing l = (count : ℕ) → count < l.missing → l.first ≤ count → IsBegun l.begun l.place count
