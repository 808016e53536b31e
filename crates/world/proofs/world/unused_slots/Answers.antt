use Rattle.std.proofs.{Common.refl, lemmas.Grind.replicate_next}
use Rattle.world.proofs.world.unused_slots.Goals as goal

pub loop-slot-preserved : goal.loop-slot-preserved
loop-slot-preserved c = rw (c.in_ok-push.ensures.items, c.loop-slot.invariant, c.new.ensures, replicate_next) refl
