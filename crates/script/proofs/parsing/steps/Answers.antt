use Rattle.script.proofs.FirstLine.{first_read, more_read}
use Rattle.script.proofs.parsing.steps.Goals as goal

pub loop-line-preserved : goal.loop-line-preserved
loop-line-preserved c = (
  more_read _ _ _ _ _ c.in-Some.ensures c.in-Ok.ensures _ _ c.loop-line.steps.items _ c.loop-line.invariant.0 c.in_ok-push.ensures.items,
  λ _. c.loop-line.invariant.1 (first_read _ _ _ _ _ c.in-Some.ensures c.in-Ok.ensures),
)
