use Rattle.std.proofs.{Common.arith, lemmas.{Grind.common_steps, Option.gets}}
use Rattle.world.proofs.connection.Connection.read.Goals as goal

pub returns-in_default : goal.returns-in_default
returns-in_default c = grind (arith, gets, common_steps)

pub returns-in_default-bytes_read : goal.returns-in_default-bytes_read
returns-in_default-bytes_read c = grind (arith, gets, common_steps)

pub returns-then-not-fits : goal.returns-then-not-fits
returns-then-not-fits c = grind (arith, gets, common_steps)
