use Rattle.std.proofs.Common.{◌≡◌, ◌++◌, true, length, Ok}
use Rattle.script.specs.{Faults.and_then, Scripts.{events_of, said_lines, starts_with}}
use Rattle.script_text.specs.Events.{event_of}
use Rattle.script.proofs.parsing.events.Given as goal

-- the events so far, and those of the lines that are left, are the events of all lines; and if there is an event,
-- the first line is one
abbrev pub invariant-loop-line : goal.invariant-loop-line
invariant-loop-line l =
    (events_of l.fn.lines ≡ and_then (λ rest. Ok (said_lines l.events.items ++ rest)) (events_of l.lines))
    × (starts_with event_of l.lines ≡ true → starts_with event_of l.fn.lines ≡ true)

abbrev pub decreases-loop-line : goal.decreases-loop-line
decreases-loop-line l = length l.lines
