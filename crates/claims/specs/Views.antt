-- What a seat has done. Its trace of a slot is the list of its exchanges there, and its account what they say.
use Rattle.std.specs.Prelude.{ℕ, ◌+◌, true, false, List, [], ◌∷◌, map, replicate, slice_index_or}
use Rattle.claims.specs.{declared.view.{Account.Account, Exchange.{Exchange, TheVariants.{Post, Busy, Held, Take, Release, Retire, Adopted, NotFree}}, View.View}, Words.{one, some_wait}}

-- the account of a seat that has done nothing at the slot
abbrev pub blank : Account
blank = record { posted = 0; taken = 0; minted = 0; redeemed = 0; holds = false; known = 0; adopts = 0; retires = 0 }

-- What each exchange makes of the account. A claim that finds notes redeems their ticket, and a holder knows of each
-- note that it posts
abbrev pub account_with : Exchange → Account → Account
account_with (Post woke) a = record a { posted = a.posted + 1; minted = a.minted + one woke; known = a.known + one a.holds }
account_with Busy a = a
account_with (Held pending) a = record a { holds = true; known = pending; redeemed = a.redeemed + one (some_wait pending) }
account_with (Take count) a = record a { taken = a.taken + count; known = 0 }
account_with (Release woke) a = record a { holds = false; known = 0; minted = a.minted + one woke }
account_with Retire a = record a { holds = false; known = 0; retires = a.retires + 1 }
account_with (Adopted pending) a = record a { holds = true; known = pending; adopts = a.adopts + 1 }
account_with NotFree a = a

abbrev pub after_all : List Exchange → Account → Account
after_all [] a = a
after_all (e ∷ es) a = after_all es (account_with e a)

-- the account that these exchanges of one seat at one slot lead to
abbrev pub account_of : List Exchange → Account
account_of trace = after_all trace blank

-- how many tickets these exchanges oblige the seat to put: one for each answer Wake
abbrev pub minted_by : List Exchange → ℕ
minted_by exchanges = (account_of exchanges).minted

-- a seat that has done nothing at this many slots, and may make this many seats
abbrev pub unused_view : ℕ → ℕ → View
unused_view slots spare = record { traces = replicate slots []; spare = spare }

-- the seat's account of each slot
abbrev pub accounts_of : View → List Account
accounts_of v = map account_of v.traces

-- the seat's trace of this slot
abbrev pub trace_in : ℕ → View → List Exchange
trace_in slot v = slice_index_or v.traces slot []

-- the traces of this slot, one for each view
abbrev pub traces_at : ℕ → List View → List (List Exchange)
traces_at slot views = map (trace_in slot) views

-- the accounts of this slot, one for each view
abbrev pub column : ℕ → List View → List Account
column slot views = map account_of (traces_at slot views)
