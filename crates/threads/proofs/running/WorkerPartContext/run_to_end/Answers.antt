use Rattle.std.proofs.Common.{rules}
use Rattle.threads.proofs.running.WorkerPartContext.run_to_end.Goals as goal

pub returns : goal.returns
returns g c = record { number_is = search rules; owned = c.run.new.self.owned; ended = rw c.end.ensures.1 c.run.ensures.ran }
