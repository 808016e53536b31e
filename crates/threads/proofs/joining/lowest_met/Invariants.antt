use Rattle.std.proofs.Common.{◌≡◌, drop, fold}
use Rattle.threads.specs.Served.{met}
use Rattle.threads.proofs.joining.lowest_met.Given as goal

-- what the others make of what is kept so far
abbrev pub invariant-loop-end : goal.invariant-loop-end
invariant-loop-end l = fold met l.kept (drop l.end-index l.ends) ≡ fold met l.fn.kept l.ends
