use Rattle.relay_core.proofs.Pairs.{only_overdue_pairs_expire}
use Rattle.relay_core.proofs.laws.only_overdue_pairs_expire.Goals as goal

pub returns : goal.returns
returns c = only_overdue_pairs_expire
