use Rattle.std.proofs.{Common.rules, lemmas.Fn.filter_same}
use Rattle.kernel_model.proofs.queue.remove.Goals as goal

pub returns : goal.returns
returns c = filter_same _ _ _ (λ x b f' k. search rules) _ _ c.retain.ensures.filtered
