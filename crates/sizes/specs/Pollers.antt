-- How many threads poll.
use Rattle.std.specs.Prelude.{ℕ, ◌/◌, min, max}

-- as many pollers as workers, but at most one for each 64 slots, and at least one
abbrev pub pollers_for : ℕ → ℕ → ℕ
pollers_for slots workers = max (min (slots / 64) workers) 1
