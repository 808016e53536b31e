use Rattle.server.proofs.Serves.{if_some_map, targets}
use Rattle.server.proofs.serving.Lent.serve.Goals as goal

pub returns-in-None : goal.returns-in-None
returns-in-None g c =
    let at = targets _ _ _ _ c.of-forwarding.ensures.target c.in-Ok.ensures.opened in
    record { served = if_some_map c.run.result.served (λ served ran. (_, at, ran)) c.run.ensures.ran }

pub returns-in-Some : goal.returns-in-Some
returns-in-Some g c =
    let at = targets _ _ _ _ c.of-forwarding.ensures.target c.in-Ok.ensures.opened in
    record { served = if_some_map c.run_recorded.result.served (λ served ran. (_, at, ran)) c.run_recorded.ensures.ran }
