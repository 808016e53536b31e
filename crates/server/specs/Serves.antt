-- What a server did that served, from its settings to the ends of its threads.
use Rattle.std.specs.Prelude.{◌≡◌, ℕ, All, List, length}
use Rattle.claims.specs.Seats.{TableId, fresh_seat}
use Rattle.shared.specs.{declared.front.Unaccepted.Unaccepted, Told.Seen}
use Rattle.sizes.specs.{declared.split.Split.Split, Pollers.pollers_for, Splits.parts_of}
use Rattle.settings.specs.declared.fields.Settings.{Settings}
use Rattle.sockets.specs.Fronts.{IsAt}
use Rattle.threads.specs.{declared.joining.Served.Served, Served.{AllRan, IsDivided, PollerPart, PollerRuns, WorkerPart, WorkerRuns}}
use Rattle.server.specs.Begins.{all_begun, free_ends}

-- the settings' slots are dealt to as many pollers as are for them
abbrev pub Deals : Settings → Split → Type 0
Deals settings split = (split.slots ≡ settings.slots) × (parts_of split.slots split.size ≡ pollers_for settings.slots settings.workers)

-- The threads of a server that served. Each poller and each worker of the settings had its part, as new, and ran to its end:
-- a poller's rounds with the settings' idle limit, and by a clock that `tells` the seconds. The pollers' fronts began as
-- `shown`, and answered accept(2) with no client only as `gave_none` says. Of a turn's clock and limit this says nothing
pub record RanAs (settings : Settings) (tells : ℕ → Type 0) (gave_none : Unaccepted → Type 0) (shown : List Seen)
    (served : Served) : Type 0 where
  pub split : Split
  pub deals : Deals settings split
  pub fronts : length shown ≡ pollers_for settings.slots settings.workers
  pub claims : TableId
  pub words : claims.words ≡ settings.slots
  pub mark : ℕ
  pub pollers : List PollerPart
  pub workers : List WorkerPart
  pub divided : IsDivided (fresh_seat claims) (free_ends settings split) (all_begun settings split 0 shown) settings.workers pollers workers
  pub ran : AllRan (PollerRuns (λ said. Unit {0}) tells gave_none settings.idle mark) (WorkerRuns mark) pollers workers served

-- A server over the system's sockets, each of whose fronts connects clients to the settings' target
abbrev pub Serves : Settings → (ℕ → Type 0) → Served → Type 0
Serves settings tells served = (shown : List Seen) × All (λ (front : Seen). IsAt settings.target front.target) shown
    × RanAs settings tells (λ why. Unit {0}) shown served
