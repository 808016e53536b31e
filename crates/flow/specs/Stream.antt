-- One direction of a connection, as the relay keeps it. `lead` is the rest of the bytes that go out first, `ring` the
-- bytes that were read at the source and not yet written at the destination, oldest first. `end_seen` says that the
-- source's end of input was seen, `shut` that a shutdown passed it on.
use Rattle.std.specs.Prelude.{ℕ, ◌-◌, Bool, true, false, List, [], ◌∷◌, ◌++◌, length, drop}

pub record Stream : Type 0 where
  pub lead : List ℕ
  pub ring : List ℕ
  pub capacity : ℕ
  pub end_seen : Bool
  pub shut : Bool

-- a new stream: only its lead waits
abbrev pub empty_stream : ℕ → List ℕ → Stream
empty_stream capacity lead = record { lead = lead; ring = []; capacity = capacity; end_seen = false; shut = false }

-- how many bytes the ring can take in
abbrev pub free_room : Stream → ℕ
free_room s = s.capacity - length s.ring

-- all bytes that wait, in the order in which they go out
abbrev pub waiting : Stream → List ℕ
waiting s = s.lead ++ s.ring

-- the lead, or the ring if the lead is empty
abbrev pub first_of : List ℕ → List ℕ → List ℕ
first_of [] ring = ring
first_of (byte ∷ lead) ring = byte ∷ lead

-- the bytes that the next write is offered
abbrev pub front : Stream → List ℕ
front s = first_of s.lead s.ring

-- the bytes were appended to the ring
abbrev pub taken_in : Stream → List ℕ → Stream
taken_in s bytes = record s { ring = s.ring ++ bytes }

-- the first n bytes have gone out
abbrev pub dropped : Stream → ℕ → Stream
dropped s n = record s { lead = drop n s.lead; ring = drop (n - length s.lead) s.ring }

-- the source's end of input was seen
abbrev pub ended : Stream → Stream
ended s = record s { end_seen = true }

-- the end of input was passed on
abbrev pub closed : Stream → Stream
closed s = record s { shut = true }
