use Rattle.std.proofs.Common.{◌≡◌}
use Rattle.queues.proofs.idle.IdleEnds.take.Given as goal

-- nothing was found so far
abbrev pub invariant-loop-look : goal.invariant-loop-look
invariant-loop-look g l = g.L.Source.state l.line ≡ g.L.Source.state l.initial.line
