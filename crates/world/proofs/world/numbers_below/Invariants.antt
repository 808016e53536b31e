use Rattle.std.proofs.Common.{◌≡◌}
use Rattle.world.specs.States.{numbers_below}
use Rattle.world.proofs.world.numbers_below.Given as goal

abbrev pub invariant-loop-number : goal.invariant-loop-number
invariant-loop-number l = l.numbers.items ≡ numbers_below l.number
