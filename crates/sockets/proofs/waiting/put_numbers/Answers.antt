use Rattle.std.proofs.{Common.{arith}, lemmas.Grind.common_steps}
use Rattle.sockets.proofs.Steps.{one_more}
use Rattle.sockets.proofs.waiting.put_numbers.Goals as goal

pub loop-event-preserved : goal.loop-event-preserved
loop-event-preserved g c =
    let told = one_more g.P.Reporter.did _ _ _ _ _ _ c.loop-event-test.true c.loop-event.invariant.0 c.pass_on.ensures.did in
    (told, grind (arith, common_steps), grind (arith, common_steps), grind (arith, common_steps))
