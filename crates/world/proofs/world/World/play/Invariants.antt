use Rattle.std.proofs.Common.{◌≡◌, Some, take}
use Rattle.world.specs.Runs.{run}
use Rattle.world.proofs.world.World.play.Given as goal

-- so far the world is that of the events up to here
abbrev pub invariant-loop-index : goal.invariant-loop-index
invariant-loop-index l = run l.fn.self (take l.index l.events) ≡ Some l.self
