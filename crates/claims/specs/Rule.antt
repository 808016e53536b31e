-- The claim rule, and what one step does. The rule is true of all words and of the views of all seats between any two
-- steps, in every schedule.
use Rattle.std.specs.Prelude.{◌≡◌, ℕ, ◌+◌, ◌^◌, ◌<◌, ◌≤◌, ◌==◌, true, List, [], ◌∷◌, ◌++◌, length, All, sum_by, if◌then◌else◌, slice_index, slice_index_or, slice_set}
use Rattle.claims.specs.{declared.view.{Account.Account, Exchange.Exchange, View.View}, Words.{WordState, StepKind, post, claim, adopt, word_of, word_after, made, step_kind}, Views.{blank, account_with, accounts_of, trace_in, traces_at}}
use mathlib.Core.Option.{some}
use lib.ListN.{get_elem?}

-- the exchanges of all seats at one slot, in the order in which its word changed, each with its seat
abbrev pub History : Type 0
History = List (ℕ × Exchange)

-- these exchanges lead a word from one state to another, and each answers what the word that it found says
abbrev pub Leads : WordState → History → WordState → Type 0
Leads w [] v = w ≡ v
Leads w (s ∷ rest) v = (s.1 ≡ made (step_kind s.1) w) × Leads (word_after (step_kind s.1) w) rest v

-- the exchanges of this seat, in order
abbrev pub by_seat : ℕ → History → List Exchange
by_seat seat [] = []
by_seat seat (s ∷ rest) = if s.0 == seat then s.1 ∷ by_seat seat rest else by_seat seat rest

-- what each kind of step asks of its seat's account: take, release and retire are for the holder
abbrev pub NeedsHolder : StepKind → Account → Type 0
NeedsHolder post a = Unit {0}
NeedsHolder claim a = Unit {0}
NeedsHolder adopt a = Unit {0}
NeedsHolder kind a = a.holds ≡ true

-- from this account on the seat takes, releases and retires only what it holds
abbrev pub Keeps : Account → List Exchange → Type 0
Keeps a [] = Unit {0}
Keeps a (e ∷ es) = NeedsHolder (step_kind e) a × Keeps (account_with e a) es

-- the word of a slot at the start: free, held, and without notes
abbrev pub unused_word : WordState
unused_word = record { pending = 0; free = true; held = true }

-- One slot: its word, and the trace of each seat there. The traces make up one history. It leads from the word of an
-- unused slot to this word, and has each seat's exchanges in the order of the seat's trace
pub record SlotRule (word : ℕ) (traces : List (List Exchange)) : Type 0 where
  pub history : History
  pub state : WordState
  pub reads : word ≡ word_of state
  pub folds : Leads unused_word history state
  pub mine : (seat : ℕ) → by_seat seat history ≡ slice_index_or traces seat []
  pub fair : All (Keeps blank) traces

pub record ClaimRule (slots : ℕ) (words : List ℕ) (views : List View) : Type 0 where
  pub one_word_each : length words ≡ slots
  pub one_trace_each : All (λ v. length v.traces ≡ slots) views
  pub slot_rules : (slot : ℕ) → slot < slots → SlotRule (slice_index words slot) (traces_at slot views)
  -- few enough posts and seats that a word stays below 2 ^ 64
  pub unworn : All (λ v. sum_by (λ a. a.posted) (accounts_of v) ≤ 2 ^ 56) views
  pub few_seats : length views + sum_by (λ v. v.spare) views ≤ 32

-- In a state that met the rule the seat made one step of this kind at the slot's word, and found `found` there. Its
-- trace of the slot got the exchange that the kind makes of that word, and the rule was kept. The state is some state,
-- since no clause can name what other threads do. But the seat's own view stands in it, before and after
pub record KeepsRule (kind : StepKind) (slots slot found : ℕ) (old new : View) : Type 0 where
  pub words : List ℕ
  pub views : List View
  pub seat : ℕ
  pub state : WordState
  pub inside : slot < slots
  pub mine : get_elem? views seat ≡ some old
  pub before : ClaimRule slots words views
  pub read : (found ≡ slice_index words slot) × (found ≡ word_of state)
  pub becomes : new ≡ record old { traces = slice_set old.traces slot (trace_in slot old ++ made kind state ∷ []) }
  pub after : ClaimRule slots (slice_set words slot (word_of (word_after kind state))) (slice_set views seat new)
