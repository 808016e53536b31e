use Rattle.std.proofs.Common.{◌≡◌, ◌+◌, ◌<◌, ◌^◌, length}
use Rattle.script_text.specs.Texts.{telling_lines}
use Rattle.script_text.proofs.lines.Lines.next.Given as goal

-- what is left determines all that was left
abbrev pub invariant-loop-text : goal.invariant-loop-text
invariant-loop-text l =
    (l.self-inside.number + length l.self-inside.texts < 2 ^ 63)
    × (l.fn.self ≡ telling_lines (l.self-inside.number + 1) l.self-inside.texts)

abbrev pub decreases-loop-text : goal.decreases-loop-text
decreases-loop-text l = length l.self-inside.texts
