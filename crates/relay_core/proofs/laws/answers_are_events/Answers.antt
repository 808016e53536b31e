use Rattle.relay_core.proofs.Pairs.{answers_are_events}
use Rattle.relay_core.proofs.laws.answers_are_events.Goals as goal

pub returns : goal.returns
returns c = answers_are_events
