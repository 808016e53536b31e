use Rattle.std.proofs.Common.{rules, arith, refl, ap}
use Rattle.claims.proofs.Steps.{one, wakes, post_adds, post_change, wakes_no_holder, may_step, state, reads, adds, stepped, held_by_none, mark_kept, kept_beside, within}
use Rattle.claims.proofs.calls.Claims.post.Goals as goal

pub fetch_add-found-requires : goal.fetch_add-found-requires
fetch_add-found-requires c =
    (search rules, search rules, may_step post_adds _ _ _ _ _ (within c.self.invariant c.self.view_is c.requires.inside) tt (omega arith))

pub invariant_of-seat : goal.invariant_of-seat
invariant_of-seat c =
    let e = c.fetch_add-found.ensures in
    kept_beside e c.seat.invariant refl (omega arith) (omega arith) (mark_kept e c.seat.invariant)

pub returns-clause-change : goal.returns-clause-change
returns-clause-change c =
    let e = c.fetch_add-found.ensures in
    post_change c.args.slot c.args.seat.now _ _ (wakes (state e)) (c.posted.ensures (state e) (reads e))
    (adds e c.seat.invariant c.seat.view_is refl)
    (λ woke. held_by_none e c.seat.invariant c.seat.view_is (let none = ap one (wakes_no_holder (state e) woke) in omega arith))

pub returns-clause-lawful : goal.returns-clause-lawful
returns-clause-lawful c = λ wears. stepped c.fetch_add-found.ensures c.seat.invariant c.seat.view_is
