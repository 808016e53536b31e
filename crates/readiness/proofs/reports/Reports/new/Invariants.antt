use Rattle.std.proofs.Common.{◌≡◌, ◌≤◌, vec_len, vec_capacity}
use Rattle.readiness.specs.Words.{words_of}
use Rattle.readiness.proofs.reports.Reports.new.Given as goal

-- the words of each slot so far
abbrev pub invariant-loop-slot : goal.invariant-loop-slot
invariant-loop-slot l = record {
  words : l.ends.items ≡ words_of l.slot;
  len : vec_len l.ends ≡ l.slot;
  room : l.slots ≤ vec_capacity l.ends;
}
