use Rattle.std.proofs.Common.{◌≡◌, ◌++◌, true, length, Ok}
use Rattle.script.specs.{Faults.and_then, Scripts.{steps_of, starts_with}}
use Rattle.script_text.specs.Events.{step_of}
use Rattle.script.proofs.parsing.steps.Given as goal

-- the steps so far, and those of the lines that are left, are the steps of all lines; and if there is a step, the
-- first line is one
abbrev pub invariant-loop-line : goal.invariant-loop-line
invariant-loop-line l =
    (steps_of l.fn.lines ≡ and_then (λ rest. Ok (l.steps.items ++ rest)) (steps_of l.lines))
    × (starts_with step_of l.lines ≡ true → starts_with step_of l.fn.lines ≡ true)

abbrev pub decreases-loop-line : goal.decreases-loop-line
decreases-loop-line l = length l.lines
