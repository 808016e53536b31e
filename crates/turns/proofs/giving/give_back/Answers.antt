use Rattle.std.proofs.Common.{arith}
use Rattle.shared.proofs.Outgoing.{put_inserts, refused_slot}
use Rattle.turns.proofs.giving.give_back.Goals as goal

pub returns-in-Err-clause-given : goal.returns-in-Err-clause-given
returns-in-Err-clause-given g c = grind (arith, put_inserts, refused_slot)

pub returns-in_default-clause-given : goal.returns-in_default-clause-given
returns-in_default-clause-given g c = grind (arith, put_inserts, refused_slot)
