-- How the parts of a server are run to their ends, each in a thread of its own.
use Rattle.std.specs.{Prelude.{◌≡◌, ℕ, nat_lt, if◌then◌else◌, Bool, All, List, [], ◌++◌, fold, length, map, Option, None, Some, option_map, option_to_list}, List.{range_with_len}, Option.is_some}
use Rattle.claims.specs.Seats.{SeatState}
use Rattle.queues.specs.Steps.{EndState}
use Rattle.shared.specs.declared.{shared.Own.Own, front.Unaccepted.Unaccepted}
use Rattle.rounds.specs.Pollers.{PollerState}
use Rattle.threads.specs.{declared.{context.ThreadEnd.ThreadEnd, faults.Few.Few, joining.Served.Served, working.Owned.Owned}, Divided.{HasOneOfEach, IsEndOf, PairsOff, ends_of, numbered}, PollerLoops.RunMade, WorkerLoops.WorkerEnded, LoopEnds.fault_by}
use Rattle.sizes.specs.declared.faults.ServerFault.{ServerFault, TheVariants.{Threads}}

-- what a poller's thread begins with
pub record PollerPart : Type 0 where
  pub number : ℕ
  pub poller : PollerState
  pub own : Own

-- what a worker's thread begins with
pub record WorkerPart : Type 0 where
  pub number : ℕ
  pub owned : Owned

abbrev pub poller_part : ℕ → PollerState → Own → PollerPart
poller_part number poller own = record { number = number; poller = poller; own = own }

abbrev pub worker_part : ℕ → Owned → WorkerPart
worker_part number owned = record { number = number; owned = owned }

-- A server with these pollers, this many workers, and these ends of free queues is divided so: each part has a number and a
-- fresh seat, each poller an end like one of its own free queue, and each worker one for every queue (an end does not show which
-- queue it is of). The last poller's part is first
pub record IsDivided (fresh : SeatState) (free : List (List (EndState ℕ))) (pollers : List PollerState) (workers : ℕ)
    (of_pollers : List PollerPart) (of_workers : List WorkerPart) : Type 0 where
  pub pollers_are : map (λ (p : PollerPart). (p.number, p.poller)) of_pollers ≡ numbered pollers
  pub pollers_own : All (λ (p : PollerPart). (p.own.seat ≡ fresh) × IsEndOf free p.number p.own.free) of_pollers
  pub workers_are : map (λ (w : WorkerPart). w.number) of_workers ≡ range_with_len (length pollers) workers
  pub workers_own : All (λ (w : WorkerPart). (w.owned.own.seat ≡ fresh) × HasOneOfEach free (ends_of w.owned)) of_workers

-- a worker's thread ran to its end: each ticket that it took was run, in order, but for one at most if a look found a fault. That
-- is recorded, as this mark shows
pub record WorkerRuns (mark : ℕ) (part : WorkerPart) (end : ThreadEnd) : Type 0 where
  pub number_is : end.number ≡ part.number
  pub owned : Owned
  pub ended : WorkerEnded mark end.why part.owned owned

-- a poller's thread ran to its end: it made some steps (a look at the stop flag, a round, at most 32 own turns), and then the one
-- that ended it. `said`, `tells`, `gave_none`: what is known of its looks at flag and clock, and of accept(2); `limit`: idle limit
pub record PollerRuns (said : Bool → Type 0) (tells : ℕ → Type 0) (gave_none : Unaccepted → Type 0) (limit mark : ℕ)
    (part : PollerPart) (end : ThreadEnd) : Type 0 where
  pub number_is : end.number ≡ part.number
  pub own : Own
  pub made : RunMade said tells gave_none limit mark end.why part.poller part.own own

-- Of the parts that have threads of their own all ran to their ends, in the order of this list; or if a thread could not be
-- started, the first of the list: of the workers the lowest numbers, of the pollers, whose last stands first, the highest
abbrev pub RanToEnds : {P : Type 0} → (P → ThreadEnd → Type 0) → Option Few → List P → List ThreadEnd → Type 0
RanToEnds {P} runs few parts ends = (left : List P) × PairsOff runs parts ends left × (few ≡ None → left ≡ [])

-- Each worker, and each poller but the first, ran to its end in a thread of its own, unless one could not be started; and
-- the first poller, which is the last one here, in the thread that serves
pub record AllRan {P W : Type 0} (poller_runs : P → ThreadEnd → Type 0) (worker_runs : W → ThreadEnd → Type 0) (pollers : List P)
    (workers : List W) (served : Served) : Type 0 where
  pub others : List P
  pub first : List P
  pub pollers_are : others ++ first ≡ pollers
  pub workers_ran : RanToEnds worker_runs served.few workers served.workers.items
  pub others_ran : RanToEnds poller_runs served.few others served.pollers.items
  pub first_ran : PairsOff poller_runs first (option_to_list served.first) []
  pub has_first : served.first ≡ None → pollers ≡ []

-- of two faults, each with its thread's number, the lower number's; of one thread's faults the first
abbrev pub lowest : Option (ℕ × ServerFault) → ℕ × ServerFault → ℕ × ServerFault
lowest None new = new
lowest (Some kept) new = if nat_lt new.0 kept.0 then new else kept

-- of the fault that is kept and the one that this thread met, if it met one, the lower number's
abbrev pub met_by : Option (ℕ × ServerFault) → ℕ → Option ServerFault → Option (ℕ × ServerFault)
met_by kept number None = kept
met_by kept number (Some fault) = Some (lowest kept (number, fault))

abbrev pub met : Option (ℕ × ServerFault) → ThreadEnd → Option (ℕ × ServerFault)
met kept end = met_by kept end.number (fault_by end.why)

-- the fault that ended a server: the lack of a thread, or of all that its threads met the lowest number's
abbrev pub fault_of : Served → Option ServerFault
fault_of served = if is_some served.few then Some Threads else option_map (λ (first : ℕ × ServerFault). first.1)
    (fold met None (served.pollers.items ++ option_to_list served.first ++ served.workers.items))

-- this promise is of this part, and of what its thread is handed
abbrev pub IsOf : {P X : Type 0} → X → P → X → P → Type 0
IsOf context part handed promised = (handed ≡ context) × (promised ≡ part)

-- threads were started of the first of these parts, in order; of all, if `all`
abbrev pub AreStarted : {P H : Type 0} → (P → H → Type 0) → List P → List H → Type 0 → Type 0
AreStarted {P} of parts handles all = (left : List P) × PairsOff of parts handles left × (all → left ≡ [])
