use Rattle.std.proofs.{Common.{arith, take, take-append-drop}, lemmas.Grind.common_steps}
use Rattle.kernel_model.proofs.end.End.unread.Goals as goal

-- the bytes that were read stand in front
pub returns-clause-last : goal.returns-clause-last
returns-clause-last c = (take c.self.inside.read c.deref.result.now, grind (arith, common_steps, take-append-drop))
