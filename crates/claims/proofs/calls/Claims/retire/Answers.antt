use Rattle.std.proofs.Common.{rules, arith, refl}
use Rattle.claims.proofs.Steps.{retire_sets, may_step, kept_beside, adds, stepped, within, holds_now}
use Rattle.claims.proofs.calls.Claims.retire.Goals as goal

pub fetch_or-requires : goal.fetch_or-requires
fetch_or-requires c = (
  search rules,
  search rules,
  may_step retire_sets _ _ _ _ _ (within c.self.invariant c.self.view_is c.requires.inside)
      (holds_now _ c.seat.inside.seat.me.0 c.seat.view_is c.requires.holder) (omega arith),
)

pub invariant_of-seat : goal.invariant_of-seat
invariant_of-seat c = kept_beside c.fetch_or.ensures c.seat.invariant refl refl c.seat.invariant.unworn refl

pub returns : goal.returns
returns c =
    let e = c.fetch_or.ensures in
    record { change = adds e c.seat.invariant c.seat.view_is refl; lawful = stepped e c.seat.invariant c.seat.view_is }
