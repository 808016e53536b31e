-- The idle limit: when a pair that moves nothing fails. Seconds are of one clock. A limit of 0 never passes.
use Rattle.std.specs.{Prelude.{ℕ, ◌-◌, Bool, ◌&&◌, nat_lt, nat_le, if◌then◌else◌, Some}, Option.is_none}
use Rattle.relay_core.specs.{declared.verdict.Fault.TheVariants.Idle, Pairs.{PairState, verdict, is_live}, Order.next_call}

-- the limit is not 0, and by `now` has passed since `moved`; if the clock went back, nothing has passed
abbrev pub is_past : ℕ → ℕ → ℕ → Bool
is_past now limit moved = nat_lt 0 limit && nat_le moved now && nat_le limit (now - moved)

-- the pair is live and has no next call, and the limit has passed
abbrev pub is_overdue : ℕ → ℕ → PairState → Bool
is_overdue now limit p = is_past now limit p.moved && is_live (verdict p) && is_none (next_call p)

abbrev pub timed_out : PairState → PairState
timed_out p = record p { failure = Some Idle }

abbrev pub expired : ℕ → ℕ → PairState → PairState
expired now limit p = if is_overdue now limit p then timed_out p else p
