-- The limits of a server.
use Rattle.std.specs.Prelude.{◌⊎◌, ℕ, ◌<◌, zero, suc, ◌+◌, ◌/◌, ◌%◌, nat_lt, if◌then◌else◌}

-- How many connections the poller with this number may open, of all that the setting `stop_after` allows: with 0 as
-- many as can be counted. The shares differ by one at most, and the first pollers have the greater ones
abbrev pub share_of : ℕ → ℕ → ℕ → ℕ
share_of zero pollers number = 18446744073709551615
share_of (suc n) pollers number = if nat_lt number (suc n % pollers) then suc n / pollers + 1 else suc n / pollers

-- workers run light tickets, too: one thread polls alone, or fewer poll than work
abbrev pub SharesLight : ℕ → ℕ → Type 0
SharesLight pollers workers = (pollers < 2) ⊎ (pollers < workers)
