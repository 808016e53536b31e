use Rattle.std.proofs.{Common.{arith, below_more}, lemmas.Bool.iff_false}
use Rattle.record_reader.proofs.Sequences.{follows_at, follows_there}
use Rattle.record_reader.proofs.order.first_overlap.Goals as goal

pub returns-then-not-follows-clause-found : goal.returns-then-not-follows-clause-found
returns-then-not-follows-clause-found c =
    λ below. (
      omega arith,
      λ at. iff_false c.follows.ensures c.if-not-follows.true (follows_there c.args.list.now c.loop-place.place c.index-list-place.result c.index-list-place-in-loop-place.result
          below c.index-list-place.is c.index-list-place-in-loop-place.is at),
    )

pub loop-place-preserved : goal.loop-place-preserved
loop-place-preserved c =
    below_more _ _ c.loop-place.invariant (λ one. follows_at c.args.list.now c.loop-place.place c.index-list-place.result c.index-list-place-in-loop-place.result
    c.index-list-place.is c.index-list-place-in-loop-place.is (c.follows.ensures.0 c.if-not-follows.false))
