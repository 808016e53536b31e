use Rattle.std.proofs.Common.{◌≡◌, take, Ok}
use Rattle.script.specs.{Faults.played, Transfers.line_stepped}
use Rattle.script.proofs.flow_script.FlowScript.play.Given as goal

-- so far the state is that of the steps up to here
abbrev pub invariant-loop-numbered : goal.invariant-loop-numbered
invariant-loop-numbered l = played line_stepped l.fn.transfer (take l.numbered-index l.numbered-items) ≡ Ok l.transfer
