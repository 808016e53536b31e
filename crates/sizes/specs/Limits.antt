-- Numbers of the server that clauses name.
use Rattle.std.specs.Prelude.{ℕ}

-- the most own turns of a poller after a round
abbrev pub own_turns : ℕ
own_turns = 32

-- the most calls of an own turn
abbrev pub own_budget : ℕ
own_budget = 8

-- how many of a slot's next tickets go to the workers once its turn has spent the own budget
abbrev pub heavy_marks : ℕ
heavy_marks = 16

-- how many light tickets stay with a poller before it looks for a worker that sleeps
abbrev pub first_light : ℕ
first_light = 16
