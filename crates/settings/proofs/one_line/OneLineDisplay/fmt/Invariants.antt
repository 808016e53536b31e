use Rattle.std.{proofs.Common.{◌≡◌, ◌≤◌, length, take, chars}, specs.{Fmt.{HasWritten, IsPlainFormatter}, List.flat_map}}
use Rattle.settings.specs.Faults.{shown_character}
use Rattle.settings.proofs.one_line.OneLineDisplay.fmt.Given as goal

abbrev pub invariant-loop-character : goal.invariant-loop-character
invariant-loop-character g l =
    (l.shown ≡ length l.yielded) × (l.shown ≤ 64)
    × (IsPlainFormatter l.initial.f → HasWritten g.W.Write.write_str_gives l.initial.f (flat_map shown_character (take l.shown (chars l.self.0.now))) l.f)
