use Rattle.std.proofs.Common.{◌∙◌, refl, rules}
use Rattle.shared.proofs.Holding.{holds_still}
use Rattle.turns.proofs.visit.Visit.play.Goals as goal

pub returns-clause-held : goal.returns-clause-held
returns-clause-held g c =
    let change = c.take-notes.ensures.change in
    (change.only.table ∙ c.requires.same, c.requires.inside, holds_still _ _ _ _ change c.requires.holder refl)

pub returns-clause-played : goal.returns-clause-played
returns-clause-played g c =
    let played = c.play.ensures in
    (c.take-notes.result, _, c.take-notes.ensures.made, played.made, search rules, c.take-notes.ensures.change, search rules)
