-- The queue rule. It is what is true of a queue's items and of what each end has put and taken, between any two steps,
-- in every schedule.
use Rattle.std.specs.{Prelude.{◌≡◌, ℕ, ◌<◌, ◌==◌, nat_lt, if◌then◌else◌, true, false, List, [], ◌∷◌, ◌++◌, length, All, sum_by}, List.AllPairs}
use Rattle.queues.specs.declared.history.History.{History}
use mathlib.Core.Option.{some}
use lib.ListN.{get_elem?}

-- 1 for each place below this one, and 0 for the others
abbrev pub once_below : ℕ → ℕ → ℕ
once_below count place = if nat_lt place count then 1 else 0

module _ {T : Type 0} where
  -- how often the place stands among these entries, each a place and an item
  abbrev pub times : ℕ → List (ℕ × T) → ℕ
  times place entries = sum_by (λ e. if e.0 == place then 1 else 0) entries

  -- each entry has the item that stands at its place of the line, and the places rise
  pub record Fits (line : List T) (entries : List (ℕ × T)) : Type 0 where
    pub there : All (λ e. get_elem? line e.0 ≡ some e.1) entries
    pub rising : AllPairs (λ a b. a.0 < b.0) entries

  -- an end that is still the only one has put all that was put. Of several, none is `alone`
  abbrev pub FirstPutAll : ℕ → List (History T) → Type 0
  FirstPutAll count (v ∷ []) = v.alone ≡ true → length v.put ≡ count
  FirstPutAll count views = All (λ v. v.alone ≡ false) views

  -- the entries of all ends make up this line: each of its places stands in one entry, with its item
  pub record MakeUp (line : List T) (entries : History T → List (ℕ × T)) (views : List (History T)) : Type 0 where
    pub once : (place : ℕ) → sum_by (λ v. times place (entries v)) views ≡ once_below (length line) place
    pub fit : All (λ v. Fits line (entries v)) views

  -- A place counts the items that were put before. All that was ever put, in order, is what was taken (`gone`) and then
  -- what the queue holds. Over all ends, each place got an item once, and each place of `gone` was taken once
  pub record QueueRule (items : List T) (views : List (History T)) : Type 0 where
    pub gone : List T
    pub put : MakeUp (gone ++ items) (λ v. v.put) views
    pub taken : MakeUp gone (λ v. v.taken) views
    pub alone : FirstPutAll (length (gone ++ items)) views
