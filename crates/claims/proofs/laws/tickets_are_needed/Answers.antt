use Rattle.claims.proofs.Steps.Rule.{histories_count, Histories.sym}
use Rattle.claims.proofs.laws.tickets_are_needed.Goals as goal

pub returns : goal.returns
returns c = λ slots words views rule slot within state is. sym (histories_count slots words views rule slot within state is).tickets
