-- What a pair is once the borrow of an offer's bytes has ended. Part of the promises, for `offer` alone.
use Rattle.std.specs.{Prelude.{ℕ, List}, Borrow.{MutBor, Fml, Lends, Array, u8}}
use Rattle.token.specs.{declared.{direction.Direction.Direction, side.Side.Side}, Sides.inward}
use Rattle.flow.specs.{Stream.Stream, Lending.with_front}
use Rattle.relay_core.specs.{Pairs.{PairState, stream_of, with_stream}, contracts.pair.Pair.the_row}
use Rattle.flow.specs.contracts.flow.Flow as flow

-- the pair with these bytes in place of what it offers to a side
abbrev pub with_offer : PairState → Side → List ℕ → PairState
with_offer p side bytes = with_stream p (inward side) (with_front (stream_of p (inward side)) bytes)

-- the pair lends what it offers to a side: nothing else changes, and the offer only if it is written to
abbrev pub LendsOffer : MutBor PairState → Side → MutBor (List ℕ) → Fml
LendsOffer p side lent = Lends the_row (Array u8 0) p lent (with_offer p.now side)

-- the pair lends the stream of one direction, and nothing else changes
abbrev pub LendsStream : MutBor PairState → Direction → MutBor Stream → Fml
LendsStream p d lent = Lends the_row flow.the_row p lent (with_stream p.now d)
