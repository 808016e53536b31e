-- What callers see of a seat, and how a call changes it.
use Rattle.std.specs.Prelude.{◌≡◌, ◌≢◌, ℕ, ◌^◌, ◌≤◌, Bool, true, false, List, [], ◌++◌, map, length, sum_by, slice_index_or}
pub use Rattle.atomic_table.specs.Seated.{TableId}
use Rattle.claims.specs.{declared.view.{Account.Account, Exchange.Exchange, View.View}, Words.StepKind, Views.{account_of, accounts_of, unused_view}, Rule.KeepsRule}

-- the claim words that the seat belongs to, and its trace of each slot: its exchanges there, in order
pub record SeatState : Type 0 where
  pub table : TableId
  pub traces : List (List Exchange)

abbrev pub seat_state : TableId → View → SeatState
seat_state table v = record { table = table; traces = v.traces }

-- the view of this seat, which makes no other seats
abbrev pub view_of : SeatState → View
view_of s = record { traces = s.traces; spare = 0 }

-- the seat's trace of this slot
abbrev pub trace_at : SeatState → ℕ → List Exchange
trace_at s slot = slice_index_or s.traces slot []

-- the seat's account of this slot
abbrev pub account_at : SeatState → ℕ → Account
account_at s slot = account_of (trace_at s slot)

-- how often it has posted, at all slots
abbrev pub posts_of : SeatState → ℕ
posts_of s = sum_by (λ a. a.posted) (accounts_of (view_of s))

-- the seat holds this slot
abbrev pub Holds : SeatState → ℕ → Type 0
Holds s slot = (account_at s slot).holds ≡ true

-- the seat does not hold this slot
abbrev pub HoldsNot : SeatState → ℕ → Type 0
HoldsNot s slot = (account_at s slot).holds ≡ false

-- a seat of these claim words that has done nothing yet
abbrev pub fresh_seat : TableId → SeatState
fresh_seat table = seat_state table (unused_view table.words 0)

-- the seat holds no slot
pub record HoldsNothing (s : SeatState) : Type 0 where
  pub nowhere : (slot : ℕ) → HoldsNot s slot

-- at every other slot the seat's trace is what it was
pub record OnlyAt (slot : ℕ) (old new : SeatState) : Type 0 where
  pub table : new.table ≡ old.table
  pub others : (other : ℕ) → other ≢ slot → trace_at new other ≡ trace_at old other

-- the seat made these exchanges at this slot, in order, and no others
pub record Adds (slot : ℕ) (exchanges : List Exchange) (old new : SeatState) : Type 0 where
  pub here : trace_at new slot ≡ trace_at old slot ++ exchanges
  pub only : OnlyAt slot old new

-- The seat made one step of this kind, and the rule was kept. This definition is closed: proofs open it only if asked
unfoldable pub Stepped : StepKind → ℕ → SeatState → SeatState → Type 0
Stepped kind slot old new = (found : ℕ) × KeepsRule kind old.table.words slot found (view_of old) (view_of new)

-- what a seat keeps beside its view: how often it has posted, and which slots it holds
pub record SeatOk (posts : ℕ) (held : List Bool) (table : TableId) (v : View) : Type 0 where
  pub counted : posts ≡ sum_by (λ a. a.posted) (accounts_of v)
  pub unworn : posts ≤ 2 ^ 56
  pub marked : held ≡ map (λ a. a.holds) (accounts_of v)
  pub splits_no_more : v.spare ≡ 0
  pub sized : length v.traces ≡ table.words
