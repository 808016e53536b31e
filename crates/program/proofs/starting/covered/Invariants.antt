use Rattle.std.proofs.Common.{◌+◌, ◌<◌, ◌≤◌}
use Rattle.program.specs.Starting.{HasFor}
use Rattle.program.proofs.starting.covered.Given as goal

-- this many slots are left to try, and one more has no descriptors
abbrev pub invariant-loop-covered : goal.invariant-loop-covered
invariant-loop-covered l =
    (l.covered ≤ l.fn.slots)
    × (l.covered < l.fn.slots → ¬ (HasFor l.fn.descriptors.most l.fn.descriptors.in_use (l.covered + 1) l.fn.workers))

abbrev pub decreases-loop-covered : goal.decreases-loop-covered
decreases-loop-covered l = l.covered
