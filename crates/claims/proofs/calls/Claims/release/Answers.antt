use Rattle.std.proofs.Common.{rules, arith, refl}
use Rattle.claims.proofs.Steps.{some_wait, release_clears, release_change, none_wait, may_step, state, reads, adds, stepped, knew_none, kept_beside, within, holds_now}
use Rattle.claims.proofs.calls.Claims.release.Goals as goal

pub fetch_and-found-requires : goal.fetch_and-found-requires
fetch_and-found-requires c = (
  search rules,
  search rules,
  may_step release_clears _ _ _ _ _ (within c.self.invariant c.self.view_is c.requires.inside)
      (holds_now _ c.seat.inside.seat.me.0 c.seat.view_is c.requires.holder) (omega arith),
)

pub invariant_of-seat : goal.invariant_of-seat
invariant_of-seat c = kept_beside c.fetch_and-found.ensures c.seat.invariant refl refl c.seat.invariant.unworn refl

pub returns : goal.returns
returns c =
    let e = c.fetch_and-found.ensures in
    record {
      change = release_change c.args.slot c.args.seat.now _ _ (some_wait (state e).pending) (c.released.ensures (state e) (reads e))
          (adds e c.seat.invariant c.seat.view_is refl) (λ none. knew_none e c.seat.invariant c.seat.view_is (none_wait _ none));
      lawful = stepped e c.seat.invariant c.seat.view_is;
    }
