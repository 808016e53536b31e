-- The texts of defaults are the decimals of the numbers.
use Rattle.std.{proofs.Common.rules, specs.Fmt.digits}
use Rattle.settings.proofs.table.Key.row.Goals as goal

pub returns-clause-default : goal.returns-clause-default
unfolding digits
returns-clause-default c = search rules
