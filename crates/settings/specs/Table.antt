-- The table of the settings: each key with its name, the kind of its value, its range and its default.
use Rattle.std.specs.Prelude.{◌≡◌, ℕ, List, [], ◌∷◌, Bool, false, Option, Some, None, codes, if◌then◌else◌}
use Rattle.settings.specs.{Addresses.SocketAddress, declared.{table.{Key.{Key, TheVariants.{Listen, Target, Ring, Budget, Workers, Slots, StopAfter, Log, Idle, Proxy}}, Takes.Takes}, fields.Settings.Settings, levels.LogLevel.{LogLevel, TheVariants.{Info, Off, Error, Warn, Debug, Trace}}}}
use Rattle.settings.specs.declared.table.Takes.TheVariants as takes

-- a key as it is written
abbrev pub key_name : Key → List ℕ
key_name Listen = codes "listen"
key_name Target = codes "target"
key_name Ring = codes "ring"
key_name Budget = codes "budget"
key_name Workers = codes "workers"
key_name Slots = codes "slots"
key_name StopAfter = codes "stop_after"
key_name Log = codes "log"
key_name Idle = codes "idle"
key_name Proxy = codes "proxy"

-- what a key can be set to
pub data Setting : Type 0 where
  address : SocketAddress → Setting
  number : ℕ → Setting
  level : LogLevel → Setting
  truth : Bool → Setting

-- what a key takes: an address whose port is at least this, a whole number from the first to the second, the name of
-- a level, or a truth value
pub data ValueKind : Type 0 where
  an_address : ℕ → ValueKind
  a_number : ℕ → ℕ → ValueKind
  a_level : ValueKind
  a_truth : ValueKind

-- a line of the table; a key without a default is required
pub record Row : Type 0 where
  pub key : Key
  pub kind : ValueKind
  pub default : Option Setting

abbrev pub required : Key → ValueKind → Row
required k kind = record { key = k; kind = kind; default = None }

abbrev pub optional : Key → ValueKind → Setting → Row
optional k kind v = record { key = k; kind = kind; default = Some v }

abbrev pub row_of : Key → Row
row_of Listen = required Listen (an_address 0)
row_of Target = required Target (an_address 1)
row_of Ring = optional Ring (a_number 1 65536) (number 16384)
row_of Budget = optional Budget (a_number 1 1024) (number 64)
row_of Workers = optional Workers (a_number 1 16) (number 4)
row_of Slots = optional Slots (a_number 1 4096) (number 1024)
row_of StopAfter = optional StopAfter (a_number 0 4294967295) (number 0)
row_of Log = optional Log a_level (level Info)
row_of Idle = optional Idle (a_number 0 86400) (number 0)
row_of Proxy = optional Proxy a_truth (truth false)

-- `Takes`, from which a message says what a key takes, agrees with the kind and its range
abbrev pub TellsKind : ValueKind → Takes → Type 0
TellsKind (an_address lowest) (takes.Address row) = row.lowest_port ≡ lowest
TellsKind (a_number low high) (takes.Number row) = (row.low ≡ low) × (row.high ≡ high)
TellsKind a_level takes.Level = Unit {0}
TellsKind a_truth takes.Truth = Unit {0}
TellsKind _ _ = ⊥

-- the keys, in the order in which they are read and printed
abbrev pub keys : List Key
keys = Listen ∷ Target ∷ Ring ∷ Budget ∷ Workers ∷ Slots ∷ StopAfter ∷ Log ∷ Idle ∷ Proxy ∷ []

-- the setting of a key
abbrev pub setting : Settings → Key → Setting
setting s Listen = address s.listen
setting s Target = address s.target
setting s Ring = number s.ring
setting s Budget = number s.budget
setting s Workers = number s.workers
setting s Slots = number s.slots
setting s StopAfter = number s.stop_after
setting s Log = level s.log
setting s Idle = number s.idle
setting s Proxy = truth s.proxy

-- The words for the levels of `log` and for truth values.

-- a level as it is written
abbrev pub level_name : LogLevel → List ℕ
level_name Off = codes "off"
level_name Error = codes "error"
level_name Warn = codes "warn"
level_name Info = codes "info"
level_name Debug = codes "debug"
level_name Trace = codes "trace"

-- a truth value as it is written
abbrev pub truth_name : Bool → List ℕ
truth_name b = if b then codes "true" else codes "false"
