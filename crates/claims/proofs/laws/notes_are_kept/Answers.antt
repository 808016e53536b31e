use Rattle.claims.proofs.Steps.Rule.{histories_count}
use Rattle.claims.proofs.laws.notes_are_kept.Goals as goal

pub returns : goal.returns
returns c = λ slots words views rule slot within state is. (histories_count slots words views rule slot within state is).notes
