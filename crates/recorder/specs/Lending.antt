-- What a wrapped part is once a borrow of it has ended.
use Rattle.std.specs.Borrow.{Lends, MutBor, Fml, RattleType}
use Rattle.recorder.specs.contracts.recorder.Inner.{the_row}

-- the part is what the borrow has left in its place
abbrev pub LendsInner : (T : RattleType) → MutBor T.Denot → MutBor T.Denot → Fml
LendsInner T inner lent = Lends (the_row T) T inner lent (λ part. part)
