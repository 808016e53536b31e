use Rattle.std.proofs.Common.{◌≡◌, vec_len}
use Rattle.statistics.proofs.statistics.Statistics.new.Given as goal

-- one place for each slot so far
abbrev pub invariant-loop-slot : goal.invariant-loop-slot
invariant-loop-slot l = vec_len l.places ≡ l._slot
