use Rattle.std.proofs.Common.{sym}
use Rattle.threads.proofs.PollerLoops.{round_made, round_over}
use Rattle.threads.proofs.polling.PollerThread.poll.Goals as goal

pub returns-clause-cut : goal.returns-clause-cut
returns-clause-cut g c =
    let asked = c.stop_if_asked.ensures in
    let polled = c.in-Err.ensures in
    rw (← asked.own) (record {
      fault = c.in-Err.fault;
      reason = c.met.ensures;
      made = round_made _ _ asked.asked polled.made.round polled.keeps (sym polled.between.sized) polled.waits;
      refused = polled.refused;
    })

pub returns-in-Ok-clause-made : goal.returns-in-Ok-clause-made
returns-in-Ok-clause-made g c =
    let asked = c.stop_if_asked.ensures in
    let polled = c.in-Ok.ensures in
    let same = sym polled.between.sized in
    rw (← asked.own) (round_over _ _ (round_made _ _ asked.asked polled.made.round polled.keeps same polled.waits) same polled.early polled.ended)
