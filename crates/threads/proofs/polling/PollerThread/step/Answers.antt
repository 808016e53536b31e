use Rattle.std.proofs.{Common.{inr}, lemmas.Result.{IfErr-weaker}}
use Rattle.threads.proofs.polling.PollerThread.step.Goals as goal

pub returns-in-Ok-poll-clause-cut : goal.returns-in-Ok-poll-clause-cut
returns-in-Ok-poll-clause-cut g c = IfErr-weaker c.run_turns.result _ _ (λ ended cut. inr (inr (record {
  polled = c.poll.new.self.poller;
  between = c.poll.new.self.own;
  round = c.in-Ok-poll.ensures.made;
  turns = cut;
}))) c.run_turns.ensures.cut
