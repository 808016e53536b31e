use Rattle.std.proofs.Common.{◌≡◌, ◌≤◌, length, take}
use Rattle.statistics.specs.Counts.{AreSums}
use Rattle.statistics.proofs.statistics.Statistics.sums.Given as goal

-- the sums of the places so far, and at most one connection is open at each
abbrev pub invariant-loop-place : goal.invariant-loop-place
invariant-loop-place g l = record {
  sums : AreSums g.M.Memory.did (take l.place-index l.self.places) l.initial.totals l.totals;
  slots : l.totals.slots ≡ length l.self.places;
  live : l.totals.live ≤ l.place-index;
}
