use Rattle.std.specs.Prelude.{ℕ}
use Rattle.threads.specs.PollerLoops.{Repeated, StepMade}
use Rattle.threads.proofs.polling.PollerThread.run_rounds.Given as goal

abbrev pub invariant-loop-round : goal.invariant-loop-round
invariant-loop-round g l = (steps : ℕ) × Repeated (StepMade (g.S.StopFlag.said l.context.is_stopped.now) (g.C.Clock.tells l.context.timing.clock.now)
    g.F.Front.gave_none l.context.timing.limit) steps l.fn.self.poller l.self.poller l.fn.self.own l.self.own
