-- How many calls a turn may make.
use Rattle.std.specs.Prelude.{ℕ, max}

-- The fewest: one for each of a connection's four flags. A turn begins with all four up and may spend a call on each only
-- to hear "would block". With fewer calls such a turn would end with a flag up, be due again, and move nothing for ever
abbrev pub least_calls : ℕ
least_calls = 4

-- as many as the setting `budget` says, but at least those
abbrev pub calls_for : ℕ → ℕ
calls_for budget = max least_calls budget
