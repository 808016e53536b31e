-- What a settings file sets, or what is wrong with it, by its bytes.
use Rattle.std.specs.{Prelude.{ℕ, ◌<◌, ◌≤◌, List, length, ◌≡◌, ◌⊎◌}, declared.io.ErrorKind.{ErrorKind, TheVariants.OutOfMemory}}
use Rattle.settings.specs.{Document.{IsSettingsOf, IsFaultOf}, declared.{fields.Settings.Settings, faults.SettingsFault.SettingsFault}}
use Rattle.program.specs.declared.faults.{ConfigFault.ConfigFault, ProgramFault.{ProgramFault, TheVariants.{Config, Argument, Number, NoNumber, Connection, Timeline}}, ArgumentsFault.{ArgumentsFault, TheVariants.{NoMemory, NotText}}}
use Rattle.settings.specs.declared.faults.SettingsFault.TheVariants as settings
use Rattle.program.specs.declared.faults.ConfigFault.TheVariants as config

-- the most bytes that a settings file may have
abbrev pub most_bytes : ℕ
most_bytes = 65536

-- the file is not too long, and all of it sets this
abbrev pub FileSets : List ℕ → Settings → Type 0
FileSets bytes s = (length bytes ≤ most_bytes) × IsSettingsOf bytes s

-- the file has this fault; a read that failed and memory that ran out say nothing of the file
abbrev pub HasFault : List ℕ → ConfigFault → Type 0
HasFault bytes config.Read = Unit {0}
HasFault bytes config.Long = most_bytes < length bytes
HasFault bytes (config.Settings fault) = (length bytes ≤ most_bytes) × IsFaultOf bytes fault
HasFault bytes config.NoMemory = Unit {0}

-- the fault of a file whose text has this fault; running out of memory is one fault, wherever it happens
abbrev pub settings_fault : SettingsFault → ConfigFault
settings_fault settings.NoMemory = config.NoMemory
settings_fault fault = config.Settings fault

-- Which fault ends the program with which status.

-- the fault of settings that arguments gave: a value that its setting does not take is a fault of the command line
abbrev pub argument_fault : ConfigFault → ProgramFault
argument_fault (config.Settings fault) = Argument fault
argument_fault fault = Config fault

-- 2 if the command line is refused, else 1
abbrev pub status_of : ProgramFault → ℕ
status_of (Argument fault) = 2
status_of (Number option) = 2
status_of (NoNumber option) = 2
status_of Connection = 2
status_of Timeline = 2
status_of _ = 1

-- the command line was not refused: 0 if the command was carried out, 1 if not
abbrev pub IsCarriedOut : ℕ → Type 0
IsCarriedOut status = (status ≡ 0) ⊎ (status ≡ 1)

-- Why the arguments of the command line can't be read, by the kind of the error.

-- memory ran out, or else an argument is not UTF-8
abbrev pub arguments_fault : ErrorKind → ArgumentsFault
arguments_fault OutOfMemory = NoMemory
arguments_fault _ = NotText
