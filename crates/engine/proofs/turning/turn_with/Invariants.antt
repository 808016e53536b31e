use Rattle.engine.{specs.Turns.IsServed, proofs.Runs.Runs}
use Rattle.engine.proofs.turning.turn_with.Given as goal

abbrev pub invariant-loop-calls : goal.invariant-loop-calls
invariant-loop-calls g l =
    Runs l._calls l.moment.second l.initial.pair l.pair
    (IsServed g.A.Wire.told g.A.Wire.does l.moment.second l.initial.client l.client)
    (IsServed g.B.Wire.told g.B.Wire.does l.moment.second l.initial.target l.target)
