-- What the map of the document finds at the key.
use Rattle.toml.proofs.Views.{table_get}
use Rattle.settings.proofs.read.value_at.Goals as goal

pub returns : goal.returns
returns c = rw (← c.name.ensures) (table_get c.get.result c.name.result.now c.args.document.now.entries c.get.ensures.value)
