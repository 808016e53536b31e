use Rattle.std.proofs.Common.{rules}
use Rattle.claims.proofs.Steps.{marked_right}
use Rattle.claims.proofs.seat.ClaimSeat.holds.Goals as goal

pub returns : goal.returns
returns c = marked_right _ _ c.self.inside.seat.me.0 _ _ _ _ c.self.view_is c.self.invariant c.requires (search rules)
