use Rattle.std.proofs.Common.{arith, ap, ◌∙◌}
use Rattle.claims.proofs.Steps.Rule.{spare_of, may_split, spare_used, one_seat_more}
use Rattle.claims.proofs.opening.all_seats.Goals as goal

pub split_seat-next-requires : goal.split_seat-next-requires
split_seat-next-requires c =
    let left = ap spare_of c.loop-made.invariant.1 in
    (c.loop-made.invariant.0, (let words = c.requires.slots.1 in let some = c.requires.slots.0.0 in omega arith), may_split _ _ _ (let more = c.loop-made-test.true in omega arith))

pub loop-made-preserved : goal.loop-made-preserved
loop-made-preserved c =
    let same = c.loop-made.invariant.0 in (
      c.split_seat-next.ensures.0 ∙ same,
      spare_used c.args.slots c.args.seats c.loop-made._made _ _ (ap (λ me. me.0) c.split_seat-next.ensures.2) c.loop-made.invariant.1,
      one_seat_more _ _ c.loop-made._made _ _ _ (omega arith) c.loop-made.invariant.2 c.in_ok-seat_of.ensures (c.split_seat-next.ensures.3 ∙ same) c.push_reserved.ensures.items,
      omega arith,
      omega arith,
    )
