use Rattle.std.proofs.Common.{◌∙◌, arith}
use Rattle.queues.proofs.Moves.{next_slot, has_room}
use Rattle.queues.proofs.free.fill.Goals as goal

pub unreachable-requires : goal.unreachable-requires
unreachable-requires g c =
    let few = c.loop-index-test.true in
    let full = rw c.loop-index.invariant.0 at c.in-Err.ensures.refused.0 in has_room _ _ c.loop-index.index _ c.loop-index.invariant.1 (omega arith) full

pub loop-index-preserved : goal.loop-index-preserved
loop-index-preserved g c =
    let put = c.in-Ok.ensures.put in (put.1.1 ∙ c.loop-index.invariant.0, next_slot _ c.loop-index.index _ _ c.loop-index.invariant.1 put.0)
