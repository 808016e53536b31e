use Rattle.std.proofs.{Common.{arith}, lemmas.List.Elements.{All-push}}
use Rattle.sockets.specs.Fronts.{IsFreshFront}
use Rattle.sockets.proofs.poll.fronts_of.Goals as goal

pub loop-poller-preserved : goal.loop-poller-preserved
loop-poller-preserved g c =
    let was = c.loop-poller.invariant in
    record {
      made = rw c.push_reserved.ensures.items (All-push (IsFreshFront c.args.forwarding c.pollers-pollers.result) _ _ was.made c.in_ok-front.ensures.front);
      fronts = omega (arith, c.push_reserved.ensures.len, was.fronts);
      wakers = omega (arith, c.push_reserved-in-loop-poller.ensures.len, was.wakers);
      fronts_room = rw c.push_reserved.ensures.capacity was.fronts_room;
      wakers_room = rw c.push_reserved-in-loop-poller.ensures.capacity was.wakers_room;
    }
