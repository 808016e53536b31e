use Rattle.std.proofs.Common.{refl, rules}
use Rattle.threads.proofs.WorkerLoops.{exchanged, one_ran, others_kept}
use Rattle.threads.proofs.working.Worker.turn.Goals as goal

pub returns-clause-ran : goal.returns-clause-ran
returns-clause-ran g c =
    let gives = c.give_until_empty.ensures in
    one_ran (search rules) c.change_end.ensures c.worker_turn-worked.ensures.made refl refl gives.tickets gives.took gives.slots c.change_end-2.ensures

pub returns-clause-gives : goal.returns-clause-gives
returns-clause-gives g c = λ inside.
    (c.poller_of-poller.result, c.poller_of-poller.ensures inside, others_kept (exchanged c.poller_of-poller.result c.change_end.ensures c.change_end-2.ensures))
