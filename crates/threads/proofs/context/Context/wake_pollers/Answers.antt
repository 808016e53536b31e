use Rattle.std.proofs.Common.{ℕ, below_none, below_more, arith}
use Rattle.sizes.specs.Splits.{part_of}
use Rattle.threads.proofs.context.Context.wake_pollers.Goals as goal

pub loop-poller-init : goal.loop-poller-init
loop-poller-init g c = below_none _

pub loop-poller-preserved : goal.loop-poller-preserved
loop-poller-preserved g c =
    below_more (λ (q : ℕ). g.F.Front.woke c.args.shared.now.waker (part_of c.args.self.now.split.slots c.args.self.now.split.size q).first)
    c.loop-poller.poller c.loop-poller.invariant (rw c.part.ensures.part at c.wake.ensures)

pub returns : goal.returns
returns g c = λ q below. c.loop-poller.invariant q (omega (arith, below, c.loop-poller-test.false, c.pollers-poller-end.ensures.parts))
