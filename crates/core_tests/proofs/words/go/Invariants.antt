use Rattle.std.proofs.Common.{◌≡◌}
use Rattle.core_tests.proofs.words.go.Given as goal

abbrev pub invariant-loop-by_another : goal.invariant-loop-by_another
invariant-loop-by_another l = (l.first.table ≡ l.claims) × (l.second.table ≡ l.claims)
