use Rattle.claims.proofs.Steps.Rule.{histories_count}
use Rattle.claims.proofs.laws.histories_count.Goals as goal

pub returns : goal.returns
returns c = histories_count
