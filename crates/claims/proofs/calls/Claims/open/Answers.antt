use Rattle.std.proofs.Common.{arith}
use Rattle.claims.proofs.Steps.Rule.{opens_lawful}
use Rattle.claims.proofs.calls.Claims.open.Goals as goal

pub returns-in-Ok-clause-lawful : goal.returns-in-Ok-clause-lawful
returns-in-Ok-clause-lawful c = opens_lawful _ _ _ _ c.in-Ok.ensures.0 c.in-Ok.ensures.1 (omega arith)
