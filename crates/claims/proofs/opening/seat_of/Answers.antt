use Rattle.claims.proofs.Steps.Rule.{unused_ok}
use Rattle.claims.proofs.opening.seat_of.Goals as goal

pub invariant_of-result : goal.invariant_of-result
invariant_of-result c = unused_ok _ _ _ _ (c.in_ok-held.ensures.items_if_clones_equal (λ y e. e)) c.requires.words c.requires.unused
