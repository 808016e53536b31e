use Rattle.threads.specs.PollerLoops.{SharedAndRan}
use Rattle.threads.proofs.polling.PollerThread.run_turns.Given as goal

-- a turn for each time round so far
abbrev pub invariant-loop-turn : goal.invariant-loop-turn
invariant-loop-turn g l = SharedAndRan l._turn l.fn.self.poller l.self.poller l.fn.self.own l.self.own
