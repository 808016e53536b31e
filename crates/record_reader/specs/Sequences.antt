-- What one thread at a time does is one act after another.
use Rattle.std.specs.{Prelude.{◌≡◌, ◌⊎◌, ◌-◌, ◌<◌, ℕ, Bool, true, false, if◌then◌else◌, List, [], Option, Some, None, slice_get, ◌≤◌, length, nat_lt, slice_index, Vec}, Global.Global}
use Rattle.record_lines.specs.declared.act.{Record.Record, Act.{Act, TheVariants.Poller}}
use Rattle.record_reader.specs.declared.recording.{Numbered.Numbered, Recording.Recording}
use Rattle.record_lines.specs.declared.act.Polling.TheVariants as polling

-- the time of a wait, or a report of it: it has the counts of the wait
abbrev pub is_of_wait : Act → Bool
is_of_wait (Poller number (polling.Time micros)) = true
is_of_wait (Poller number (polling.Reported name)) = true
is_of_wait act = false

-- one act has ended when the next one begins, or the next is of the same wait
abbrev pub Follows : Record → Record → Type 0
Follows last next = (last.after < next.before) ⊎ ((is_of_wait next.act ≡ true) × (next.before ≡ last.before) × (next.after ≡ last.after))

-- the act at a place, counted from 0, follows the act before it
abbrev pub FollowsAt : List Numbered → ℕ → Type 0
FollowsAt list place = (last next : Numbered) → slice_get list (place - 1) ≡ Some last → slice_get list place ≡ Some next
    → Follows last.record next.record

-- Which counts are of no record. The counts are those of all records, and rise.

-- the count is below the one at this place, and above the one at the place before
pub record IsMissing (counts : List ℕ) (place count : ℕ) : Type 0 where
  pub inside : place < length counts
  pub after : 1 ≤ place → slice_index counts (place - 1) < count
  pub before : count < slice_index counts place

-- the missing counts go to the acts that were begun, in order; `begun` has the least count of each. `count - place`
-- counts are missing before this one, so it goes to the act at that place, which can have it
abbrev pub IsBegun : List ℕ → ℕ → ℕ → Type 0
IsBegun begun place count = (count - place < length begun) × (slice_index begun (count - place) ≤ count)

-- The records of a slot

abbrev pub items_of : Option (Vec Numbered Global) → List Numbered
items_of (Some list) = list.items
items_of None = []

-- the list with this number, empty if there is none
abbrev pub records_at : Recording → ℕ → List Numbered
records_at r at = items_of (slice_get r.lists.items at)

-- the lists of the slots come first
abbrev pub records_of : Recording → ℕ → List Numbered
records_of r slot = if nat_lt slot r.header.slots then records_at r slot else []
