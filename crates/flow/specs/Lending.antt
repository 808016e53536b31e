-- What a stream is once the borrow of its front has ended. Part of the promises, for `front` alone.
use Rattle.std.specs.{Prelude.{ℕ, List, [], ◌∷◌, length}, List.refill, Borrow.{MutBor, Fml, Lends, Array, u8}}
use Rattle.flow.specs.{Stream.Stream, contracts.flow.Flow.the_row}

-- the stream with these bytes as its lead, or if that is empty, its ring
abbrev pub with_first : List ℕ → Stream → List ℕ → Stream
with_first [] s bytes = record s { ring = refill (length s.ring) s.ring bytes }
with_first (byte ∷ lead) s bytes = record s { lead = refill (length s.lead) s.lead bytes }

-- the stream with these bytes as its front
abbrev pub with_front : Stream → List ℕ → Stream
with_front s bytes = with_first s.lead s bytes

-- the stream lends its front: nothing else changes, and the front only if it is written to
abbrev pub LendsFront : MutBor Stream → MutBor (List ℕ) → Fml
LendsFront s lent = Lends the_row (Array u8 0) s lent (with_front s.now)
