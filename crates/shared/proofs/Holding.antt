-- A seat that holds one slot, after exchanges there; and one that is worn stays so while it posts nothing more.
use Rattle.std.{proofs.{Common.{◌≡◌, ℕ, ◌+◌, Bool, true, false, List, [], ◌∷◌, refl, ap, ◌∙◌, arith, suc, map}, lemmas.List.Sums.sum_by-cons}, specs.Prelude.{sum_by, slice_index_or}}
use Rattle.claims.{specs.{declared.{answers.{Posted.Posted, Released.{Released, TheVariants.{Wake, Quiet}}}, view.{Account.Account, Exchange.{Exchange, TheVariants.{Post, Release}}}}, Words.one, Views.{account_of, after_all}, Seats.{SeatState, account_at, posts_of, Holds, HoldsNot, HoldsNothing, Adds, OnlyAt}, Calls.{PostChange, ReleaseChange}}, proofs.Seats.{account_after, posted_of}}
use Rattle.shared.specs.Posts.{HoldsOnly, IsWorn}
use Rattle.claims.specs.declared.answers.Posted.TheVariants as posted
use mathlib.Core.Logic.{dite}
use native.Mathlib.Decide.{ℕ_discrete}

module _ (slot : ℕ) (es : List Exchange) (a b : SeatState) (adds : Adds slot es a b) where
  -- they leave it held
  pub holds_still : HoldsOnly slot a → (after_all es (account_at a slot)).holds ≡ (account_at a slot).holds → HoldsOnly slot b
  holds_still only same = record {
    here = rw (account_after slot es a b adds) (same ∙ only.here);
    nowhere_else = λ other ne. rw (adds.only.others other ne) (only.nowhere_else other ne);
  }

  -- they let it go
  pub let_go : (after_all es (account_at a slot)).holds ≡ false → HoldsNot b slot
  let_go none = rw (account_after slot es a b adds) none

  pub holds_nothing_then : HoldsOnly slot a → (after_all es (account_at a slot)).holds ≡ false → HoldsNothing b
  holds_nothing_then only none = record {
    nowhere = λ other. dite (ℕ_discrete other slot) (λ same. rw same (let_go none)) (λ ne. rw (adds.only.others other ne) (only.nowhere_else other ne));
  }

  -- they took hold of it
  pub holds_from : HoldsNothing a → (after_all es (account_at a slot)).holds ≡ true → HoldsOnly slot b
  holds_from nothing holds = record {
    here = rw (account_after slot es a b adds) holds;
    nowhere_else = λ other ne. rw (adds.only.others other ne) (nothing.nowhere other);
  }

-- a release lets the slot go, whatever it answers
pub released_all : (slot : ℕ) (a b : SeatState) (r : Released) → HoldsOnly slot a → ReleaseChange slot a r b → HoldsNothing b
released_all slot a b Wake only change = holds_nothing_then slot (Release true ∷ []) a b change only refl
released_all slot a b Quiet only change = holds_nothing_then slot (Release false ∷ []) a b change.0 only refl

-- a post by the slot's holder leaves it held
pub holds_behind_post : (slot : ℕ) (r : Posted) (a b : SeatState) → HoldsOnly slot a → PostChange slot a r b → HoldsOnly slot b
holds_behind_post slot posted.Wake a b only change = holds_still slot (Post true ∷ []) a b change.0 only refl
holds_behind_post slot posted.Quiet a b only change = holds_still slot (Post false ∷ []) a b change only refl
holds_behind_post slot posted.Worn a b only change = rw change.0 only

-- the release of who has just posted answers Wake
pub woke_behind_post : (slot : ℕ) (a b : SeatState) (woke : Bool) → Adds slot (Post false ∷ []) a b → Holds a slot → (woke ≡ false → (account_at b slot).known ≡ 0) → woke ≡ true
woke_behind_post slot a b true adds holds quiet = refl
woke_behind_post slot a b false adds holds quiet =
    absurd (
    let is = ap (λ (x : Account). x.known) (account_after slot (Post false ∷ []) a b adds) in
    let one_more = ap one holds in
    let none = quiet refl in
    omega arith)

-- A seat that is worn

abbrev posts_in : List (List Exchange) → ℕ
posts_in traces = sum_by posted_of (map account_of traces)

more_posts : (x : List Exchange) (xs : List (List Exchange)) → posts_in (x ∷ xs) ≡ (account_of x).posted + posts_in xs
more_posts x xs = sum_by-cons posted_of (account_of x) (map account_of xs)

-- two lists of traces with as many posts at each place have as many in all
posts_alike : (xs ys : List (List Exchange)) → ((i : ℕ) → (account_of (slice_index_or xs i [])).posted ≡ (account_of (slice_index_or ys i [])).posted) → posts_in xs ≡ posts_in ys
posts_alike [] [] each = refl
posts_alike [] (y ∷ ys) each = omega (arith, more_posts y ys, each 0, posts_alike [] ys (λ i. each (suc i)))
posts_alike (x ∷ xs) [] each = omega (arith, more_posts x xs, each 0, posts_alike xs [] (λ i. each (suc i)))
posts_alike (x ∷ xs) (y ∷ ys) each = omega (arith, more_posts x xs, more_posts y ys, each 0, posts_alike xs ys (λ i. each (suc i)))

-- nothing was posted at this slot, and at no other slot anything changed
pub posts_still : {slot : ℕ} {old new : SeatState} → OnlyAt slot old new → (account_at new slot).posted ≡ (account_at old slot).posted → posts_of new ≡ posts_of old
posts_still {slot} {old} {new} only here =
    posts_alike new.traces old.traces (λ i. dite (ℕ_discrete i slot) (λ same. rw same here) (λ other. rw (only.others i other)))

pub worn_still : (slot : ℕ) (old new : SeatState) → OnlyAt slot old new → (account_at new slot).posted ≡ (account_at old slot).posted → IsWorn old → IsWorn new
worn_still slot old new only here worn = posts_still only here ∙ worn
