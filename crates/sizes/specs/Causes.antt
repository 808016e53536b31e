-- The word for the cause of a drop, and the level at which clients are named.
use Rattle.std.specs.Prelude.{ℕ, List, codes}
use Rattle.log.specs.declared.level.Level.{Level}
use Rattle.sizes.specs.declared.{cause.Cause.{Cause}, clients.ClientsAt.{ClientsAt}}
use Rattle.sizes.specs.declared.cause.Cause.TheVariants as cause
use Rattle.sizes.specs.declared.clients.ClientsAt.TheVariants as clients
use Rattle.log.specs.declared.level.Level.TheVariants as level

-- the word for a cause
abbrev pub cause_name : Cause → List ℕ
cause_name cause.Memory = codes "memory"
cause_name cause.Connect = codes "connect"
cause_name cause.Register = codes "register"
cause_name cause.Address = codes "address"

-- the level of the messages that name a client
abbrev pub client_level : ClientsAt → Level
client_level clients.Debug = level.Debug
client_level clients.Info = level.Info
