use Rattle.std.proofs.Common.{rules, arith, refl, ap}
use Rattle.claims.proofs.Steps.{one, adopt_clears, one_le, makes_adopted, makes_not_free, may_step, state, reads, adds, stepped, held_by_none, mark_kept, kept_beside, within}
use Rattle.claims.proofs.calls.Claims.adopt.Goals as goal

pub fetch_and-found-requires : goal.fetch_and-found-requires
fetch_and-found-requires c = (search rules, search rules, may_step adopt_clears _ _ _ _ _ (within c.self.invariant c.self.view_is c.requires.inside) tt (omega arith))

pub invariant_of-seat : goal.invariant_of-seat
invariant_of-seat c =
    let e = c.fetch_and-found.ensures in
    kept_beside e c.seat.invariant (makes_adopted (state e) (c.is_free.ensures (state e) (reads e)) c.if-is_free.true) refl c.seat.invariant.unworn refl

pub invariant_of-seat-else-is_free : goal.invariant_of-seat-else-is_free
invariant_of-seat-else-is_free c =
    let e = c.fetch_and-found.ensures in
    kept_beside e c.seat.invariant (makes_not_free (state e) (c.is_free.ensures (state e) (reads e)) c.if-is_free.false) refl c.seat.invariant.unworn (mark_kept e c.seat.invariant)

pub returns-then-is_free : goal.returns-then-is_free
returns-then-is_free c =
    let e = c.fetch_and-found.ensures in
    let free = c.is_free.ensures (state e) (reads e) in
    record {
      change = (
        (state e).pending,
        adds e c.seat.invariant c.seat.view_is (makes_adopted (state e) free c.if-is_free.true),
        held_by_none e c.seat.invariant c.seat.view_is (omega (arith, ap one free, ap one c.if-is_free.true, one_le (state e).held)),
      );
      lawful = stepped e c.seat.invariant c.seat.view_is;
    }

pub returns-else-is_free : goal.returns-else-is_free
returns-else-is_free c =
    let e = c.fetch_and-found.ensures in
    record {
      change = adds e c.seat.invariant c.seat.view_is (makes_not_free (state e) (c.is_free.ensures (state e) (reads e)) c.if-is_free.false);
      lawful = stepped e c.seat.invariant c.seat.view_is;
    }
