use Rattle.std.proofs.Common.{◌≡◌, take, Ok}
use Rattle.script.specs.{Faults.played, Runs.line_happened}
use Rattle.script.proofs.world_script.WorldScript.play.Given as goal

-- so far the world is that of the events up to here
abbrev pub invariant-loop-numbered : goal.invariant-loop-numbered
invariant-loop-numbered l = played line_happened l.fn.world (take l.numbered-index l.numbered-items) ≡ Ok l.world
