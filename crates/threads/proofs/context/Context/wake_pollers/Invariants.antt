use Rattle.std.proofs.Common.{ℕ, ◌<◌}
use Rattle.sizes.specs.Splits.{part_of}
use Rattle.threads.proofs.context.Context.wake_pollers.Given as goal

-- the pollers so far were woken
abbrev pub invariant-loop-poller : goal.invariant-loop-poller
invariant-loop-poller g l = (poller : ℕ) → poller < l.poller → g.F.Front.woke l.shared.waker (part_of l.self.split.slots l.self.split.size poller).first
