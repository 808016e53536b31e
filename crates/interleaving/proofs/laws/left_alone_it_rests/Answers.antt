use Rattle.interleaving.proofs.Rest.{at_rest}
use Rattle.interleaving.proofs.laws.left_alone_it_rests.Goals as goal

pub returns : goal.returns
returns c = at_rest c.rests_on_core.ensures c.every_interleaving_is_a_run.ensures
