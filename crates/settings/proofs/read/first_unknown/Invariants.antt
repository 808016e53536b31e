use Rattle.toml.specs.View.{table_view}
use Rattle.settings.proofs.Unknown.{IsLeft}
use Rattle.settings.proofs.read.first_unknown.Given as goal

abbrev pub invariant-loop-name : goal.invariant-loop-name
invariant-loop-name l = IsLeft (table_view l.document) l.name-iterator
