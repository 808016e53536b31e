use Rattle.std.proofs.Common.{rules, arith, refl, ap}
use Rattle.claims.proofs.Steps.{one, claim_sets, makes_busy, makes_held, may_step, state, reads, adds, stepped, held_by_none, mark_kept, kept_beside, within}
use Rattle.claims.proofs.calls.Claims.claim.Goals as goal

pub fetch_or-found-requires : goal.fetch_or-found-requires
fetch_or-found-requires c = (search rules, search rules, may_step claim_sets _ _ _ _ _ (within c.self.invariant c.self.view_is c.requires.inside) tt (omega arith))

pub invariant_of-seat : goal.invariant_of-seat
invariant_of-seat c =
    let e = c.fetch_or-found.ensures in
    kept_beside e c.seat.invariant (makes_busy (state e) (c.is_held.ensures (state e) (reads e)) c.if-is_held.true) refl c.seat.invariant.unworn (mark_kept e c.seat.invariant)

pub returns-then-is_held : goal.returns-then-is_held
returns-then-is_held c =
    let e = c.fetch_or-found.ensures in
    record {
      change = adds e c.seat.invariant c.seat.view_is (makes_busy (state e) (c.is_held.ensures (state e) (reads e)) c.if-is_held.true);
      lawful = stepped e c.seat.invariant c.seat.view_is;
    }

pub invariant_of-seat-2 : goal.invariant_of-seat-2
invariant_of-seat-2 c =
    let e = c.fetch_or-found.ensures in
    kept_beside e c.seat.invariant (makes_held (state e) (c.is_held.ensures (state e) (reads e)) c.if-is_held.false) refl c.seat.invariant.unworn refl

pub returns : goal.returns
returns c =
    let e = c.fetch_or-found.ensures in
    let held = c.is_held.ensures (state e) (reads e) in
    record {
      change = (
        (state e).pending,
        adds e c.seat.invariant c.seat.view_is (makes_held (state e) held c.if-is_held.false),
        held_by_none e c.seat.invariant c.seat.view_is (omega (arith, ap one held, ap one c.if-is_held.false)),
      );
      lawful = stepped e c.seat.invariant c.seat.view_is;
    }
