use Rattle.std.proofs.Common.{◌+◌, ◌≤◌, length}
use Rattle.rounds.specs.Openings.{OnlyTook}
use Rattle.rounds.proofs.round.take_all.Given as goal

-- each try so far took a slot
abbrev pub invariant-loop-slot : goal.invariant-loop-slot
invariant-loop-slot g l = record {
  took : OnlyTook l.fn.own l.own;
  more : length l.fn.own.hand.slots + l._slot ≤ length l.own.hand.slots;
}
