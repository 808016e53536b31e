use Rattle.std.proofs.Common.{add-one, refl}
use Rattle.world.proofs.world.numbers_below.Goals as goal

pub loop-number-preserved : goal.loop-number-preserved
loop-number-preserved c = rw (c.in_ok-push.ensures.items, c.loop-number.invariant, add-one) refl
