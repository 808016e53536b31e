use Rattle.std.proofs.Common.{◌≡◌}
use Rattle.claims.specs.Seats.{Holds}
use Rattle.core_tests.proofs.words.take_many.Given as goal

abbrev pub invariant-loop : goal.invariant-loop
invariant-loop l = (l.seat.table ≡ l.claims) × Holds l.seat 0
