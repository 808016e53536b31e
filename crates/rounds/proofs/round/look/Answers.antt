use Rattle.rounds.proofs.Rounds.{waits_if}
use Rattle.rounds.proofs.round.look.Goals as goal

pub returns-clause-waits : goal.returns-clause-waits
returns-clause-waits g c = waits_if _ _ c.args.poller.now _ c.poll.new.poller _ _ c.listen_to_open.ensures.poller
    c.may_wait-wait.ensures.reason c.may_wait-wait.ensures.still c.may_wait-wait.ensures.took c.poll.ensures.waited

pub returns-clause-listens : goal.returns-clause-listens
returns-clause-listens g c = rw c.poll.ensures.waited c.listen_to_open.ensures.listens

pub returns-clause-longest : goal.returns-clause-longest
returns-clause-longest g c = rw (c.poll.ensures.waited, c.listen_to_open.ensures.poller)
