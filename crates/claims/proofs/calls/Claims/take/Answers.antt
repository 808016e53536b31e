use Rattle.std.proofs.Common.{rules, arith, refl, sym, ap}
use Rattle.claims.proofs.Steps.{take_keeps, may_step, state, reads, took_few, mark_kept, kept_beside, adds, stepped, known_few, within, holds_now}
use Rattle.claims.specs.declared.view.Exchange.TheVariants as exchange
use Rattle.claims.proofs.calls.Claims.take.Goals as goal

pub fetch_and-found-requires : goal.fetch_and-found-requires
fetch_and-found-requires c = (
  search rules,
  search rules,
  may_step take_keeps _ _ _ _ _ (within c.self.invariant c.self.view_is c.requires.inside)
      (holds_now _ c.seat.inside.seat.me.0 c.seat.view_is c.requires.holder) (omega arith),
)

pub invariant_of-seat : goal.invariant_of-seat
invariant_of-seat c =
    let e = c.fetch_and-found.ensures in
    kept_beside e c.seat.invariant refl refl c.seat.invariant.unworn (mark_kept e c.seat.invariant)

pub returns : goal.returns
returns c =
    let e = c.fetch_and-found.ensures in
    let read = c.notes.ensures (state e) (reads e) in
    record {
      change = adds e c.seat.invariant c.seat.view_is (ap exchange.Take (sym read));
      known = known_few e c.seat.invariant c.seat.view_is read;
      few = took_few e;
      lawful = stepped e c.seat.invariant c.seat.view_is;
    }
