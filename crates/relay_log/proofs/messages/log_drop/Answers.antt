use Rattle.relay_log.proofs.messages.log_drop.Goals as goal

pub returns : goal.returns
returns g c = rw (← c.name-name.ensures) c.message.ensures
