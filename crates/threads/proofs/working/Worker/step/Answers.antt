use Rattle.std.proofs.{Common.{refl}, lemmas.Result.{err_from_is_err_and}}
use Rattle.threads.proofs.WorkerLoops.{worker_both, worker_ends, worker_kept, worker_one, worker_same, worker_then_ends}
use Rattle.threads.proofs.working.Worker.step.Goals as goal

pub returns-in_err-seen-clause-cut : goal.returns-in_err-seen-clause-cut
returns-in_err-seen-clause-cut g c =
    let p = err_from_is_err_and c.from_residual.result c.from_residual.ensures.1 in
    rw (p.1, p.2, c.in_err-seen.ensures) (worker_ends worker_same refl)

pub returns-in_err-ticket-clause-cut : goal.returns-in_err-ticket-clause-cut
returns-in_err-ticket-clause-cut g c =
    let p = err_from_is_err_and c.from_residual-in_err-ticket.result c.from_residual-in_err-ticket.ensures.1 in
    let took = c.in_err-ticket.ensures in
    rw (p.1, p.2, took.none, took.closed.1) (worker_ends c.put_hand-put.ensures.ran (rw took.none at took.closed.2))

pub returns-in-Ok-turn-clause-ran : goal.returns-in-Ok-turn-clause-ran
returns-in-Ok-turn-clause-ran g c = worker_both c.put_hand-put.ensures.ran
    (worker_one _ c.in_ok-ticket.ensures.taken (rw c.in-Ok.ensures.ticket at c.in-Ok-turn.ensures.ran) c.turn.ensures.took)

pub returns-in-Err-turn-clause-cut : goal.returns-in-Err-turn-clause-cut
returns-in-Err-turn-clause-cut g c =
    let cut = c.in-Err-turn.ensures in
    rw c.met.ensures (worker_ends (worker_both c.put_hand-put.ensures.ran
    (worker_one _ c.in_ok-ticket.ensures.taken (rw c.in-Ok.ensures.ticket at cut.ran) cut.took)) cut.worn)

pub returns-in-Err-clause-cut : goal.returns-in-Err-clause-cut
returns-in-Err-clause-cut g c =
    worker_then_ends c.put_hand-put.ensures.ran (worker_kept _ c.in_ok-ticket.ensures.taken c.in-Err.ensures.found c.keep_ticket.ensures)
