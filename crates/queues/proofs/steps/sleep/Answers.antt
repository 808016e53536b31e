use Rattle.std.proofs.{Common.refl, lemmas.Option.slice_get_read}
use Rattle.queues.proofs.steps.sleep.Goals as goal

pub returns-clause-parked : goal.returns-clause-parked
returns-clause-parked g c = rw (slice_get_read c.args.parkers.now _ c.args.vain.0.end _ refl c.requires c.index-parkers-end.is) c.sleep.ensures
