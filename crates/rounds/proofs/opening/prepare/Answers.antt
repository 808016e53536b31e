use Rattle.rounds.{specs.Openings.{Naming, Wires, of_end}, proofs.Rounds.{drops_by, registered_drop}}
use Rattle.rounds.proofs.opening.prepare.Goals as goal

pub returns-in-Ok-clause-acts : goal.returns-in-Ok-clause-acts
returns-in-Ok-clause-acts g c = rw c.in-Ok.ensures.berth.0 at c.reach-reached.ensures.acts

pub returns-in-Ok-clause-wires : goal.returns-in-Ok-clause-wires
returns-in-Ok-clause-wires g c = rw (c.in-Ok.ensures.berth.0, ← c.in-Ok.ensures.client) at c.reach-reached.ensures.wires

pub returns-in-Ok-clause-fresh : goal.returns-in-Ok-clause-fresh
returns-in-Ok-clause-fresh g c =
    let made = c.in-Ok.ensures.berth in
    rw (← c.poller.view_is) (record { pair = rw made.0 at c.reach-reached.ensures.pair; lead = rw made.0 at c.reach-reached.ensures.lead; since = made.1 })

pub returns-in-Err-clause-acts : goal.returns-in-Err-clause-acts
returns-in-Err-clause-acts g c =
    registered_drop (Naming g.A.Moves.named (Wires (g.A.Moves.registered c.args.client)) g.A.Acts.made) {t = of_end c.args.names.client} c.reach-reached.result c.reach-reached.ensures.acts

pub returns-in-Err-clause-cause : goal.returns-in-Err-clause-cause
returns-in-Err-clause-cause g c =
    let reached = c.reach-reached.ensures in
    rw (← c.poller.view_is, c.log_dropped.ensures.cause) (drops_by (g.F.Front.may_refuse c.args.client) (g.F.Front.may_tell c.args.client) _ _ _ reached.cause reached.lead c.in-Err.ensures.refused)
