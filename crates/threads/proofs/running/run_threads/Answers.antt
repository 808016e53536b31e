use Rattle.std.proofs.Common.{map}
use Rattle.threads.{specs.Served.{poller_part, worker_part}, proofs.Served.{all_of_map}}
use Rattle.threads.proofs.running.run_threads.Goals as goal

pub returns-clause-ran : goal.returns-clause-ran
returns-clause-ran g c =
    rw c.of.ensures.served (
      c.new-ending.result,
      map (λ p. poller_part p.number p.poller p.own) c.in-Ok.pollers.items,
      map (λ w. worker_part w.number w.owned) c.in-Ok.workers.items,
      c.in-Ok.ensures,
      all_of_map _ _ _ _ c.run_all-served.ensures,
    )
