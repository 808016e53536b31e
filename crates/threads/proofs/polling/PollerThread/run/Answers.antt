use Rattle.threads.proofs.polling.PollerThread.run.Goals as goal

pub returns-clause-made : goal.returns-clause-made
returns-clause-made g c =
    let ended = c.run_rounds-ended in
    rw c.finish.ensures.of.1 (c.moment.result.second, ended.new.self.poller, c.moment.ensures.told, rw c.finish.ensures.own (rw c.begin_at.ensures at ended.ensures.made))
