use Rattle.std.{proofs.Common.{◌≡◌, drop}, specs.Prelude.Contains}
use Rattle.threads.specs.Divided.{AreLeft, PairsOff}
use Rattle.threads.proofs.dividing.Rest.other_ends.Given as goal

-- the seats and the ends of the queue of tickets stay
abbrev pub invariant-loop-poller : goal.invariant-loop-poller
invariant-loop-poller l = record {
  parts : l.self.parts ≡ l.fn.self.parts;
  ends : PairsOff Contains (drop 1 l.fn.self.free) l.ends.items (drop l.poller l.fn.self.free);
  left : AreLeft l.fn.self.free l.self.free;
}
