-- Which exchange the caller made, by what the call answers.
use Rattle.std.specs.Prelude.{◌≡◌, ℕ, ◌^◌, true, false, [], ◌∷◌}
use Rattle.claims.specs.{declared.answers.{Posted.{Posted, TheVariants.{Wake, Quiet, Worn}}, Claimed.{Claimed, TheVariants.{Held, Busy}}, Released.{Released, TheVariants.{Wake as ReleaseWakes, Quiet as ReleaseQuiet}}, Adopted.{Adopted as AdoptAnswer, TheVariants.{Adopted, NotFree}}}, Seats.{SeatState, account_at, posts_of, HoldsNot, Adds}}
use Rattle.claims.specs.declared.view.Exchange.TheVariants as exchange

-- The answer is Wake only if the caller does not hold the slot, and Worn only after 2 ^ 56 posts, without an exchange
abbrev pub PostChange : ℕ → SeatState → Posted → SeatState → Type 0
PostChange slot old Wake new = Adds slot (exchange.Post true ∷ []) old new × HoldsNot old slot
PostChange slot old Quiet new = Adds slot (exchange.Post false ∷ []) old new
PostChange slot old Worn new = (new ≡ old) × (posts_of old ≡ 2 ^ 56)

-- Held: `pending` notes waited
abbrev pub ClaimChange : ℕ → SeatState → Claimed → SeatState → Type 0
ClaimChange slot old Held new = (pending : ℕ) × Adds slot (exchange.Held pending ∷ []) old new × HoldsNot old slot
ClaimChange slot old Busy new = Adds slot (exchange.Busy ∷ []) old new

-- the answer is Quiet only if the caller knew of no note
abbrev pub ReleaseChange : ℕ → SeatState → Released → SeatState → Type 0
ReleaseChange slot old ReleaseWakes new = Adds slot (exchange.Release true ∷ []) old new
ReleaseChange slot old ReleaseQuiet new = Adds slot (exchange.Release false ∷ []) old new × ((account_at old slot).known ≡ 0)

-- the answer is Adopted only if the caller does not hold the slot
abbrev pub AdoptChange : ℕ → SeatState → AdoptAnswer → SeatState → Type 0
AdoptChange slot old Adopted new = (pending : ℕ) × Adds slot (exchange.Adopted pending ∷ []) old new × HoldsNot old slot
AdoptChange slot old NotFree new = Adds slot (exchange.NotFree ∷ []) old new
