-- For callers: where a seat has changed, and that it holds nothing.
use Rattle.claims.proofs.Steps.Rule.Histories.{same_at, ◌≡◌, ℕ, ◌+◌, List, [], ◌∷◌, ◌++◌, refl, ap, ◌∙◌, arith, append_assoc, append-nil, dite, ℕ_discrete, Account, Exchange, Posted, Wake, Quiet, Worn, one, blank, account_with, after_all, account_of, minted_by, TableId, SeatState, account_at, HoldsNot, HoldsNothing, OnlyAt, Adds, fresh_seat, PostChange}
pub use Rattle.claims.proofs.Steps.Rule.Histories.{after_both, posted_of}
use Rattle.claims.specs.declared.view.Exchange.TheVariants as exchange

-- a seat that has done nothing
pub fresh_holds_nothing : (table : TableId) (s : SeatState) → s ≡ fresh_seat table → HoldsNothing s
fresh_holds_nothing table s is = rw is (record { nowhere = λ slot. rw same_at })

module _ {slot : ℕ} where
  pub only_at_none : {old new : SeatState} → new ≡ old → OnlyAt slot old new
  only_at_none is = rw is (record { table = refl; others = λ other ne. refl })

  -- who held nothing, and holds nothing at the one slot where it changed
  pub holds_nothing_again : {old new : SeatState} → HoldsNothing old → OnlyAt slot old new → HoldsNot new slot → HoldsNothing new
  holds_nothing_again nothing only here = record {
    nowhere = λ other. dite (ℕ_discrete other slot) (λ same. rw same here) (λ ne. rw (only.others other ne) (nothing.nowhere other));
  }

-- no exchange, and some after others
pub adds_none : (slot : ℕ) (s : SeatState) → Adds slot [] s s
adds_none slot s = record { here = rw append-nil; only = record { table = refl; others = λ other ne. refl } }

pub adds_both : (slot : ℕ) (es fs : List Exchange) (a b c : SeatState) → Adds slot es a b → Adds slot fs b c → Adds slot (es ++ fs) a c
adds_both slot es fs a b c one two = record {
  here = rw (two.here, one.here, append_assoc);
  only = record { table = two.only.table ∙ one.only.table; others = λ other ne. two.only.others other ne ∙ one.only.others other ne };
}

-- the account after such exchanges

pub account_after : (slot : ℕ) (es : List Exchange) (old new : SeatState) → Adds slot es old new → account_at new slot ≡ after_all es (account_at old slot)
account_after slot es old new adds = rw (adds.here, after_both)

-- a post, whatever it answers
module _ (slot : ℕ) (old new : SeatState) where
  pub only_at_post : (r : Posted) → PostChange slot old r new → OnlyAt slot old new
  only_at_post Wake change = change.0.only
  only_at_post Quiet change = change.only
  only_at_post Worn change = only_at_none change.0

-- the tickets of exchanges after others
minted_on : (e : Exchange) (a : Account) → (account_with e a).minted ≡ a.minted + (account_with e blank).minted
minted_on exchange.Busy a = omega arith
minted_on e a = omega arith

minted_all : (es : List Exchange) (a b : Account) → (after_all es a).minted + b.minted ≡ a.minted + (after_all es b).minted
minted_all [] a b = omega arith
minted_all (e ∷ es) a b =
    let rest = minted_all es (account_with e a) (account_with e b) in
    let one = minted_on e a in
    let two = minted_on e b in
    omega arith

pub minted_both : (es fs : List Exchange) → (account_of (es ++ fs)).minted ≡ (account_of es).minted + minted_by fs
minted_both es fs =
    let both = ap (λ (a : Account). a.minted) (after_both es fs blank) in
    let rest = minted_all fs (account_of es) blank in
    omega arith
