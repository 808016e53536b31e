use Rattle.std.proofs.Common.{refl}
use Rattle.relay_core.specs.Replies.{Joined}
use Rattle.engine.{specs.Wires.Done, proofs.Runs.{erred, stays_at, unmoved}}
use Rattle.engine.proofs.step.join.Goals as goal

pub returns-in-Ok : goal.returns-in-Ok
returns-in-Ok g c =
    let e = c.in-Ok.ensures in
    unmoved Done Joined refl e.did refl c.answer.ensures.value refl refl e.left e.kept (stays_at e.counts.0) (stays_at e.counts.1)

pub returns-in-Err : goal.returns-in-Err
returns-in-Err g c =
    let e = c.in-Err.ensures in
    erred _ _ refl c.answer-in-Err.ensures.value e.left e.kept c.faults-faults.ensures c.blocks-blocks.ensures c.error_answer.ensures e.did
