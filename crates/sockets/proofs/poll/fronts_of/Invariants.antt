use Rattle.std.proofs.Common.{◌≡◌, ◌≤◌, All, vec_len, vec_capacity}
use Rattle.sockets.specs.Fronts.{IsFreshFront}
use Rattle.sockets.proofs.poll.fronts_of.Given as goal

abbrev pub invariant-loop-poller : goal.invariant-loop-poller
invariant-loop-poller g l = record {
  made : All (IsFreshFront l.forwarding l.pollers) l.fronts.items;
  fronts : vec_len l.fronts ≡ l.poller;
  wakers : vec_len l.wakers ≡ l.poller;
  fronts_room : l.pollers ≤ vec_capacity l.fronts;
  wakers_room : l.pollers ≤ vec_capacity l.wakers;
}
