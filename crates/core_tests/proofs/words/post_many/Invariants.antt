use Rattle.std.proofs.Common.{◌≡◌}
use Rattle.core_tests.proofs.words.post_many.Given as goal

abbrev pub invariant-loop : goal.invariant-loop
invariant-loop l = l.seat.table ≡ l.claims
