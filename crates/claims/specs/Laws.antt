-- What `open` refuses, and what it leaves; and what follows from the claim rule for all seats together, in plain terms.
use Rattle.std.specs.Prelude.{◌≡◌, ◌↔◌, ℕ, ◌+◌, ◌<◌, ◌≤◌, ◌⊎◌, true, false, List, map, replicate, All, sum_by, if◌then◌else◌, slice_index, slice_index_or}
use Rattle.claims.specs.{declared.view.{Account.Account, View.View}, Words.{one, some_wait, word_of, WordState}, Views.{blank, column}, Rule.ClaimRule, Seats.{SeatState, view_of}}

-- from the first number to the second, both included
abbrev pub IsWithin : ℕ → ℕ → ℕ → Type 0
IsWithin low high n = (low ≤ n) × (n ≤ high)

-- below the first number, or above the second
abbrev pub IsOutside : ℕ → ℕ → ℕ → Type 0
IsOutside low high n = (n < low) ⊎ (high < n)

-- if these are all the seats, the rule holds exactly of words that are all 3: free, held and without notes
abbrev pub OpensLawful : ℕ → List SeatState → Type 0
OpensLawful slots seats = (words : List ℕ) → ClaimRule slots words (map view_of seats) ↔ (words ≡ replicate slots 3)

-- how many tickets a slot needs: one while notes wait and it is not marked as held
abbrev pub tickets_due : WordState → ℕ
tickets_due w = if w.held then 0 else one (some_wait w.pending)

-- the slot's holder knows of no more notes than wait, and any other seat knows of none
abbrev pub Knows : ℕ → Account → Type 0
Knows pending a = (a.known ≤ pending) × (a.holds ≡ false → a.known ≡ 0)

-- the seat of this number holds the slot
abbrev pub IsHolder : List Account → ℕ → Type 0
IsHolder accounts seat = (slice_index_or accounts seat blank).holds ≡ true

-- the word of a slot agrees with what all seats' accounts of it count
pub record Counts (state : WordState) (accounts : List Account) : Type 0 where
  -- the notes that wait are those that were posted and not taken
  pub notes : state.pending + sum_by (λ a. a.taken) accounts ≡ sum_by (λ a. a.posted) accounts
  -- A free slot is held and nobody holds it. A slot that is held and not free has one holder, any other slot none
  pub holders : sum_by (λ a. one a.holds) accounts + one state.free ≡ one state.held
  -- the tickets that were made and not redeemed are those that the slot needs
  pub tickets : sum_by (λ a. a.minted) accounts ≡ sum_by (λ a. a.redeemed) accounts + tickets_due state
  pub known : All (Knows state.pending) accounts
  -- a slot is free at the start, each retire frees it, and each adopt of the free slot ends that
  pub freed : one state.free + sum_by (λ a. a.adopts) accounts ≡ 1 + sum_by (λ a. a.retires) accounts

-- in every state that meets the rule this law holds of the word of each slot, and of the accounts of all seats there
abbrev pub OfEachSlot : (ℕ → List Account → Type 0) → Type 0
OfEachSlot Law =
    (slots : ℕ) (words : List ℕ) (views : List View) → ClaimRule slots words views →
    (slot : ℕ) → slot < slots → Law (slice_index words slot) (column slot views)

-- the seats' accounts count what the word says
abbrev pub HistoriesCount : Type 0
HistoriesCount = OfEachSlot (λ word accounts. (state : WordState) → word ≡ word_of state → Counts state accounts)

-- two seats that hold one slot are one seat
abbrev pub OneHolderEach : Type 0
OneHolderEach = OfEachSlot (λ word accounts. (seat other : ℕ) → IsHolder accounts seat → IsHolder accounts other → seat ≡ other)

-- the notes that wait at a slot, by its word, are those that were posted there and not taken
abbrev pub NotesAreKept : Type 0
NotesAreKept = OfEachSlot (λ word accounts. (state : WordState) → word ≡ word_of state →
    state.pending + sum_by (λ a. a.taken) accounts ≡ sum_by (λ a. a.posted) accounts)

-- a slot's tickets that are out, made and not redeemed, are as many as the slot needs by its word
abbrev pub TicketsAreNeeded : Type 0
TicketsAreNeeded = OfEachSlot (λ word accounts. (state : WordState) → word ≡ word_of state →
    sum_by (λ a. a.redeemed) accounts + tickets_due state ≡ sum_by (λ a. a.minted) accounts)
