-- What is counted at a slot, and the sums.
use Rattle.std.specs.{Prelude.{ℕ, ◌+◌, ◌*◌, ◌-◌, nat_lt, min, Bool, true, false, not, List, map, ◌≡◌, [], ◌∷◌, slice_index, slice_set, sum_by}, List.zip}
use Rattle.token.specs.{Kinds.all_kinds, Sides.side_number, declared.{kind.Kind.Kind, side.Side.{Side, TheVariants.{Client, Target}}}}
use Rattle.relay_core.specs.declared.verdict.{Fault.TheVariants.{Broken, Idle}, Verdict.{Verdict, TheVariants.{Live, Done, Failed}}}
use Rattle.statistics.specs.declared.{counts.{Count.Count, Counts.Counts}, event.Event.{Event, TheVariants.{Dropped, Opened, Moved, Ended}}, gauge.Levels.Levels, totals.{Figure.Figure, Totals.Totals}}
use Rattle.token.specs.declared.kind.Kind.TheVariants as kind
use Rattle.statistics.specs.declared.counts.Count.TheVariants as is
use Rattle.statistics.specs.declared.totals.Figure.TheVariants as figure

-- a count of 64 bits after this many more. It stays at its greatest value
abbrev pub sum : ℕ → ℕ → ℕ
sum count count_more = min (count + count_more) 18446744073709551615

abbrev pub kind_number : Kind → ℕ
kind_number kind.Reset = 0
kind_number kind.Pipe = 1
kind_number kind.Aborted = 2
kind_number kind.Refused = 3
kind_number kind.NotConnected = 4
kind_number kind.TimedOut = 5
kind_number kind.Zero = 6
kind_number kind.Other = 7

-- Where a count stands among a slot's numbers, which are read in this order.
abbrev pub place_of : Count → ℕ
-- bytes that were written to targets, and to clients
place_of is.Up = 0
place_of is.Down = 1
-- of these, bytes of connections that have ended
place_of is.UpEnded = 2
place_of is.DownEnded = 3
-- connections that are done, and that failed by the idle limit
place_of is.Done = 4
place_of is.Idle = 5
-- connections that failed by a call on this side's socket, in this way
place_of (is.Broken side kind) = 6 + (8 * side_number side + kind_number kind)
-- accepted connections that were closed unopened
place_of is.Dropped = 22
-- connections that were opened
place_of is.Opened = 23

-- the number of a count
abbrev pub at : Count → Counts → ℕ
at count c = slice_index c.numbers (place_of count)

abbrev pub set : Count → ℕ → Counts → Counts
set count number c = record { numbers = slice_set c.numbers (place_of count) number }

-- one more of a count
abbrev pub raised : Count → Counts → Counts
raised count c = set count (sum (at count c) 1) c

-- the bytes are those of the connections that have ended, plus these of the open connection
abbrev pub moved : ℕ → ℕ → Counts → Counts
moved up down c = set is.Down (sum (at is.DownEnded c) down) (set is.Up (sum (at is.UpEnded c) up) c)

-- the open connection has ended, with the bytes that were counted
abbrev pub counts_closed : Counts → Counts
counts_closed c = set is.DownEnded (at is.Down c) (set is.UpEnded (at is.Up c) c)

-- a failed call is counted by the side of its socket, and by how it failed
abbrev pub verdict_counted : Verdict → Counts → Counts
verdict_counted Live c = c
verdict_counted Done c = raised is.Done c
verdict_counted (Failed Idle) c = raised is.Idle c
verdict_counted (Failed (Broken side call kind)) c = raised (is.Broken side kind) c

-- the counts after this event
abbrev pub counts_after : Event → Counts → Counts
counts_after Dropped c = raised is.Dropped c
counts_after Opened c = raised is.Opened c
counts_after (Moved up down) c = moved up down c
counts_after (Ended verdict up down) c = verdict_counted verdict (counts_closed (moved up down c))

-- the sums of two slots' counts, each with its like
abbrev pub plus : Counts → Counts → Counts
plus c d = record { numbers = map (λ pair. sum pair.0 pair.1) (zip c.numbers d.numbers) }

-- connections that failed by a call on this side's socket, and in this way on either
abbrev pub failed_at : Side → Counts → ℕ
failed_at side c = sum_by (λ kind. at (is.Broken side kind) c) all_kinds

abbrev pub failed_as : Kind → Counts → ℕ
failed_as kind c = at (is.Broken Client kind) c + at (is.Broken Target kind) c

-- connections that failed: by a call on either side, or by the idle limit
abbrev pub failed_of : Counts → ℕ
failed_of c = failed_at Client c + (failed_at Target c + at is.Idle c)

-- how many of one slot's connections are open: those that were opened and have not ended, one at most
abbrev pub live_at : Counts → ℕ
live_at c = min (at is.Opened c - (at is.Done c + failed_of c)) 1

-- The sums, and the numbers that are made of them.

-- the sums of this many slots, before any was added, with these levels
abbrev pub no_sums : ℕ → Levels → Counts → Totals
no_sums slots levels counts = record { slots = slots; live = 0; levels = levels; sums = counts }

-- the sums with the counts of another slot
abbrev pub added : Counts → Totals → Totals
added c t = record t { live = sum t.live (live_at c); sums = plus t.sums c }

abbrev pub figure_number : Figure → Totals → ℕ
figure_number figure.Open t = t.live
figure_number figure.Slots t = t.slots
-- those that are open, are done or have failed
figure_number figure.Opened t = t.live + (at is.Done t.sums + failed_of t.sums)
figure_number figure.Failed t = failed_of t.sums
figure_number (figure.At side) t = failed_at side t.sums
figure_number (figure.As kind) t = failed_as kind t.sums
figure_number (figure.Of count) t = at count t.sums
figure_number figure.MostOpen t = t.levels.most
figure_number figure.FullSeconds t = t.levels.full_seconds
figure_number figure.WaitingSeconds t = t.levels.waiting_seconds
figure_number figure.LostRecords t = t.levels.lost

-- What is done to the places of the slots' counts, and to the gauge.

pub record Counted (M G : Type 0) : Type 0 where
  pub places : List M
  pub gauge : G

-- all counts of a place were read, or these were stored there
pub data Step : Type 0 where
  Loaded : Counts → Step
  Stored : Counts → Step

module _ {M : Type 0} (did : Step → M → Type 0) where
  -- an event was counted: counts were read, and what the event makes of them was stored
  abbrev pub IsCounted : Event → M → Type 0
  IsCounted event place = (counts : Counts) × did (Loaded counts) place × did (Stored (counts_after event counts)) place

  -- the sums before, with what was read of each of these places
  abbrev pub AreSums : List M → Totals → Totals → Type 0
  AreSums [] before sums = sums ≡ before
  AreSums (place ∷ places) before sums = (counts : Counts) × did (Loaded counts) place × AreSums places (added counts before) sums

-- one more connection is open, or one less; a second was added to those with all slots taken; this many are open; accept(2)
-- lacked descriptors or memory; whether it did since this was last asked; a second was added to those in which it did; one more
-- record is lost; these are the levels
pub data Turn : Type 0 where
  Entered : Turn
  Left : Turn
  Passed : Turn
  Shown : ℕ → Turn
  Starved : Turn
  Heard : Bool → Turn
  Waited : Turn
  Lost : Turn
  Told : Levels → Turn

module _ {G Acts : Type 0} (did : Turn → G → Acts → Acts → Type 0) where
  -- an opening and an end of a connection are kept by the gauge, and no other event is
  abbrev pub IsGauged : Event → G → Acts → Acts → Type 0
  IsGauged Opened gauge from to = did Entered gauge from to
  IsGauged (Ended verdict up down) gauge from to = did Left gauge from to
  IsGauged event gauge from to = to ≡ from

  -- this look was made, and then this step, if what was seen calls for it
  abbrev pub IsDoneIf : Bool → Turn → Turn → G → Acts → Acts → Type 0
  IsDoneIf true look turn gauge from to = (looked : Acts) × did look gauge from looked × did turn gauge looked to
  IsDoneIf false look turn gauge from to = did look gauge from to

  -- It was looked how many are open, and if these are all slots, a second was added to those with all slots taken. Then it was
  -- looked whether accept(2) has lacked descriptors or memory, and if so, a second was added to those in which clients waited.
  -- Nothing else was done
  abbrev pub IsLookedAt : ℕ → G → Acts → Acts → Type 0
  IsLookedAt slots gauge from to = (taken : ℕ) × (next : Acts) × IsDoneIf (not (nat_lt taken slots)) (Shown taken) Passed gauge from next
      × (starved : Bool) × IsDoneIf starved (Heard starved) Waited gauge next to

-- the sums of all places, with the levels that the gauge told by one step
module _ {M G Acts : Type 0} (did : Step → M → Type 0) (turned : Turn → G → Acts → Acts → Type 0) where
  abbrev pub AreTotals : Counted M G → Acts → Acts → Totals → Totals → Type 0
  AreTotals counted from to before totals = (sums : Totals) × (levels : Levels) × AreSums did counted.places before sums
      × turned (Told levels) counted.gauge from to × (totals ≡ record sums { levels = levels })
