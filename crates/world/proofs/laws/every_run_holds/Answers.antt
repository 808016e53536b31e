use Rattle.world.proofs.Headline.{headline}
use Rattle.world.proofs.laws.every_run_holds.Goals as goal

pub returns : goal.returns
returns c = headline c.rests_on_core.ensures
