use Rattle.std.proofs.Common.{refl, ◌∙◌, ap}
use Rattle.engine.{specs.{Classes.kind_of_error, Wires.{Done, Refused}}, proofs.Runs.{raised, stays_at, unmoved}}
use Rattle.relay_core.specs.Replies.{Failed, Shut, Interrupted}
use Rattle.engine.proofs.step.shut.Goals as goal

pub returns-in-Ok : goal.returns-in-Ok
returns-in-Ok g c =
    let e = c.in-Ok.ensures in
    unmoved Done Shut refl e.did refl c.answer.ensures.value refl refl e.left e.kept (stays_at e.counts) (stays_at e.blocks)

pub returns-in-Err : goal.returns-in-Err
returns-in-Err g c =
    let e = c.in-Err.ensures in
    unmoved (Refused _) (Failed _) (c.kind_of.ensures ∙ ap kind_of_error c.kind.ensures) e.did refl c.answer-in-Err.ensures.value refl refl e.left e.kept
    (raised _ _ (λ same. c.if-faults.true (cc)) e.counts) (stays_at e.blocks)

pub returns-in-Err-2 : goal.returns-in-Err-2
returns-in-Err-2 g c =
    let e = c.in-Err-2.ensures in
    unmoved (Refused _) Interrupted (_, refl) e.did refl c.answer-in-Err-2.ensures.value refl refl e.left e.kept (stays_at (cc)) (stays_at e.blocks)
