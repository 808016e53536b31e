use Rattle.std.proofs.Common.{arith, inl, inr, sym}
use Rattle.engine.proofs.Runs.{ends, goes_on, moved_client, moved_target, starts}
use Rattle.engine.proofs.turning.turn_with.Goals.{in-Client, in-Target}
use Rattle.engine.proofs.turning.turn_with.Goals as goal

pub loop-calls-init : goal.loop-calls-init
loop-calls-init g c = starts

pub loop-calls-preserved : goal.loop-calls-preserved
loop-calls-preserved g c =
    let next = sym c.in-Some.ensures.value in
    goes_on c.loop-calls.invariant (elim c.match-side.branch [
      | in-Client w ↦ rw (w.pair-is, w.client-is, w.target-is) (moved_client next w.in-Client.ensures w.step.ensures)
      | in-Target w ↦ rw (w.pair-is, w.client-is, w.target-is) (moved_target next w.in-Target.ensures w.step-in-Target.ensures)
    ])

pub returns-in_default-clause-run : goal.returns-in_default-clause-run
returns-in_default-clause-run g c = ends (omega arith) (inl (cc)) c.rest.ensures.held c.loop-calls.invariant

pub returns-clause-run : goal.returns-clause-run
returns-clause-run g c = ends (omega arith) (inr (omega arith)) c.finish.ensures.held c.loop-calls.invariant
