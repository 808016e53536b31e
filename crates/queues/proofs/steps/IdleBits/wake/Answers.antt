use Rattle.std.proofs.{Common.refl, lemmas.Option.slice_get_read}
use Rattle.queues.proofs.steps.IdleBits.wake.Goals as goal

pub returns-clause-unparked : goal.returns-clause-unparked
returns-clause-unparked g c = (refl, rw (slice_get_read c.args.parkers.now _ c.args.end _ refl c.requires.1 c.index-parkers-end.is) c.give.ensures)
