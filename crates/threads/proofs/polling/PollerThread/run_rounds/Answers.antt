use Rattle.std.proofs.Common.{suc}
use Rattle.threads.proofs.polling.PollerThread.run_rounds.Goals as goal

pub loop-round-preserved : goal.loop-round-preserved
loop-round-preserved g c =
    (suc c.loop-round.invariant.0, (c.loop-round.self.poller, c.loop-round.self.own, c.loop-round.invariant.1, c.in_default.ensures.made))
