use Rattle.script.{proofs.Telling.leads_may, specs.declared.fault.Fault.TheVariants.NoMemory}
use Rattle.script.proofs.running.answer.Goals as goal

pub returns-in-Ok-clause-refused : goal.returns-in-Ok-clause-refused
returns-in-Ok-clause-refused g c is = (NoMemory, (leads_may _ c.in-Ok.reached c.in-Ok.ensures, c.tell_report.ensures.refused is))
