-- What is said of a thread's seat: it is fresh, worn or at rest, or holds one slot.
use Rattle.std.specs.Prelude.{◌≡◌, ◌≢◌, ℕ, ◌^◌, List, length, replicate}
use Rattle.claims.specs.Seats.{SeatState, TableId, fresh_seat, posts_of, Holds, HoldsNot, HoldsNothing}
use Rattle.sizes.specs.declared.faults.ServerFault.{ServerFault}
use Rattle.shared.specs.declared.shared.Own.{Own}
use Rattle.sizes.specs.declared.faults.ServerFault.TheVariants as server_fault

-- seats of these claim words that have done nothing yet
pub record AreFresh (table : TableId) (seats : List SeatState) : Type 0 where
  pub each : seats ≡ replicate (length seats) (fresh_seat table)

-- the seat has posted 2^56 times, and posts no more
abbrev pub IsWorn : SeatState → Type 0
IsWorn seat = posts_of seat ≡ 2 ^ 56

-- the fault is `Worn`, and the seat is worn: a turn or a round is refused for nothing else
abbrev pub OnlyWorn : ServerFault → SeatState → Type 0
OnlyWorn fault seat = (fault ≡ server_fault.Worn) × IsWorn seat

-- between two turns or rounds a thread's seat belongs to these claim words and holds no slot
pub record AtRest (claims : TableId) (own : Own) : Type 0 where
  pub same : own.seat.table ≡ claims
  pub idle : HoldsNothing own.seat

-- the seat holds this slot, and no other
pub record HoldsOnly (slot : ℕ) (s : SeatState) : Type 0 where
  pub here : Holds s slot
  pub nowhere_else : (other : ℕ) → other ≢ slot → HoldsNot s other
