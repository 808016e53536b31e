use Rattle.std.proofs.{Common.{ap, ◌∙◌}, lemmas.List.map-append}
use Rattle.script.{specs.Scripts.{said_line, said_lines}, proofs.FirstLine.{first_read, more_read}}
use Rattle.script.proofs.parsing.events.Goals as goal

pub loop-line-preserved : goal.loop-line-preserved
loop-line-preserved c = (
  more_read _ _ _ _ _ c.in-Some.ensures c.in-Ok.ensures _ _ (said_lines c.loop-line.events.items) _ c.loop-line.invariant.0
      (ap said_lines c.in_ok-push.ensures.items ∙ map-append said_line c.loop-line.events.items _),
  λ _. c.loop-line.invariant.1 (first_read _ _ _ _ _ c.in-Some.ensures c.in-Ok.ensures),
)
