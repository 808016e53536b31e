use Rattle.std.proofs.{Common.{◌∙◌}, lemmas.List.{length-map}}
use Rattle.server.proofs.Serves.{if_some_map}
use Rattle.server.proofs.serving.Lent.run.Goals as goal

pub returns-in-Ok : goal.returns-in-Ok
returns-in-Ok g c =
    let made = c.in-Ok.ensures in
    record {
      ran = if_some_map c.run_threads.result.served (λ served ran. record {
        split = c.in-Ok.server.split;
        deals = made.split;
        fronts = length-map _ _ ∙ c.requires;
        claims = c.in-Ok.server.shared.claims;
        words = made.slots;
        mark = ran.0;
        pollers = ran.1;
        workers = ran.2;
        divided = rw (made.free, made.pollers, made.workers) at ran.3;
        ran = rw c.from-limit.ensures at ran.4;
      }) c.run_threads.ensures.ran;
    }
