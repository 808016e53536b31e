-- A change of the network as one value, so that one private function makes any of the four. Not part of the promises.
use Rattle.std.specs.Prelude.{Bool, true, false, nat_lt, List, length, Option, Some, None, option_map}
use Rattle.token.specs.declared.name.Name.{Name, TheVariants.End}
use Rattle.kernel_model.specs.{declared.change.Change.{Change, TheVariants.{Arrive, Fin, Reset, Room}}, Outcome.Told, Ends.{EndState, arrival, finish, failure, new_room}, Kernel.{Registered, reported}}

-- what a change does to an end
abbrev pub change_of : Change → EndState → Option (Told EndState Bool)
change_of (Arrive bytes) e = arrival e bytes.now
change_of Fin e = finish e
change_of Reset e = failure e
change_of Room e = new_room e

-- the change brings bytes
abbrev pub brings_bytes : Change → Bool
brings_bytes (Arrive bytes) = true
brings_bytes change = false

-- an open end, and the names that are queued
pub record Watch : Type 0 where
  pub registered : Registered
  pub queue : List Name

abbrev pub watch : Registered → List Name → Watch
watch registered queue = record { registered = registered; queue = queue }

-- what a change does to an open end and to the queue
abbrev pub told : Change → Watch → Option Watch
told change w = option_map
    (λ (t : Told EndState Bool). record {
      registered = record w.registered { socket = t.value };
      queue = reported w.queue (End w.registered.token) t.told;
    })
    (change_of change w.registered.socket)

-- the change is allowed, and makes the queue longer
abbrev pub lengthens : Watch → Option Watch → Bool
lengthens w None = false
lengthens w (Some after) = nat_lt (length w.queue) (length after.queue)
