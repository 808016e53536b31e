-- What a worker's loop does with tickets and with free slots.
use Rattle.std.specs.{Prelude.{◌≡◌, ◌≢◌, ◌⊎◌, ℕ, ◌+◌, ◌-◌, ◌<◌, ◌==◌, ◌&&◌, nat_lt, if◌then◌else◌, None, List, [], ◌∷◌, ◌++◌, length, map, Result, Ok, Err, slice_get, slice_set, IfSome}, List.{count_by, flat_map, sum_by, All}}
use Rattle.token.specs.Names.{last_generation}
use Rattle.claims.specs.{declared.view.Exchange.Exchange, Seats.SeatState}
use Rattle.queues.specs.{declared.ticket.Ticket.Ticket, Steps.{EndState, TookOne, look_of}}
use Rattle.sizes.specs.{declared.{faults.ServerFault.ServerFault, split.Split.Split}, Splits.{IsIn, part_of}}
use Rattle.shared.specs.{declared.shared.Own.Own, Outgoing.tickets_out, Posts.OnlyWorn}
use Rattle.turns.specs.{declared.worker.Worked.Worked, Turns.IsTurnOf}
use Rattle.rounds.specs.{Acts.{SeatAct, ActsMade, due_of}, Openings.times}
use Rattle.threads.specs.{declared.{ending.Why.{Why, TheVariants.{FaultFound, PollerOver, QueueClosed, Met}}, working.Owned.Owned}, Divided.ends_of, LoopEnds.faults_by}
use Rattle.turns.specs.declared.worker.Worked.TheVariants as worked

-- how often this very ticket, of its slot and its generation, stands in a list
abbrev pub times_of : Ticket → List Ticket → ℕ
times_of ticket tickets = count_by (λ t. (t.slot == ticket.slot) && (t.generation == ticket.generation)) tickets

-- a turn that a thread ran: with this ticket, with this answer, and by these exchanges at its slot
pub record Run : Type 0 where
  pub ticket : Ticket
  pub answer : Result Worked ServerFault
  pub exchanges : List Exchange

abbrev pub tickets_run : List Run → List Ticket
tickets_run ran = map (λ (run : Run). run.ticket) ran

abbrev pub act_of : Run → SeatAct
act_of run = record { ticket = run.ticket; exchanges = run.exchanges }

abbrev pub seat_acts : List Run → List SeatAct
seat_acts ran = map act_of ran

-- the tickets that turns made, in order
abbrev pub due_from : List Run → List Ticket
due_from ran = due_of (seat_acts ran)

-- the slot of a connection that a turn ended is free, unless its generation was the last
abbrev pub freed_by : Ticket → Result Worked ServerFault → List ℕ
freed_by ticket (Ok worked.Ended) = if nat_lt ticket.generation last_generation then ticket.slot ∷ [] else []
freed_by ticket answer = []

abbrev pub freed : List Run → List ℕ
freed ran = flat_map (λ (run : Run). freed_by run.ticket run.answer) ran

-- the faults that turns met, in order
abbrev pub fault_in : Result Worked ServerFault → List ServerFault
fault_in (Ok worked) = []
fault_in (Err fault) = fault ∷ []

abbrev pub faults_of : List Run → List ServerFault
faults_of ran = flat_map (λ (run : Run). fault_in run.answer) ran

-- a turn's exchanges are as its answer says, in order
abbrev pub IsRun : ℕ → Run → Type 0
IsRun words run = IsTurnOf words run.ticket.slot run.answer run.exchanges

-- this seat made these turns, and nothing else
pub record TurnsMade (ran : List Run) (old new : SeatState) : Type 0 where
  pub each : All (IsRun old.table.words) ran
  pub made : ActsMade (seat_acts ran) old new

-- what each of these ends of queues of free slots has taken
abbrev pub takes_of : List (EndState ℕ) → List (List (ℕ × ℕ))
takes_of ends = map (λ (end : EndState ℕ). end.history.taken) ends

-- how often this end has given a slot
abbrev pub times_by : ℕ → EndState ℕ → ℕ
times_by slot end = times slot (map (λ (put : ℕ × ℕ). put.1) end.history.put)

-- how often these ends have given a slot, all together
abbrev pub times_given : ℕ → List (EndState ℕ) → ℕ
times_given slot ends = sum_by (λ (end : EndState ℕ). times_by slot end) ends

-- What a worker did with free slots, by its ends of all pollers' queues: it took none, and each slot that it was to
-- give before, or that is free now, is given or in hand, once
pub record SlotsGiven (now_free : List ℕ) (old new : Owned) : Type 0 where
  pub took : takes_of (ends_of new) ≡ takes_of (ends_of old)
  pub slots : (slot : ℕ) → times slot new.own.hand.slots + times_given slot (ends_of new)
      ≡ times slot old.own.hand.slots + times_given slot (ends_of old) + times slot now_free

-- A worker made these turns. The tickets that it was to put before, those that the turns made, and those in `left` are
-- put or in hand. The same holds of free slots
pub record WorkerTurns (ran : List Run) (left : List Ticket) (old new : Owned) : Type 0 where
  pub turns : TurnsMade ran old.own.seat new.own.seat
  pub tickets : (t : Ticket) → times_of t (tickets_out new.own)
      ≡ times_of t (tickets_out old.own) + (times_of t (due_from ran) + times_of t left)
  pub slots : SlotsGiven (freed ran) old new

-- a worker made one turn, with this ticket and this answer
abbrev pub OneRan : Ticket → Result Worked ServerFault → Owned → Owned → Type 0
OneRan ticket answer old new = (exchanges : List Exchange)
    × WorkerTurns (record { ticket = ticket; answer = answer; exchanges = exchanges } ∷ []) [] old new

-- the tickets that a thread has taken out of their queue so far
abbrev pub tickets_in : Own → List Ticket
tickets_in own = map (λ (take : ℕ × Ticket). take.1) own.ready.history.taken

-- A worker's thread ran each ticket that it took, in order, except those in `left`, which it took last and has in hand.
-- Its turns met these faults
pub record WorkerRan (left : List Ticket) (faults : List ServerFault) (old new : Owned) : Type 0 where
  pub ran : List Run
  pub did : WorkerTurns ran left old new
  pub met : faults_of ran ≡ faults
  pub taken : tickets_in new.own ≡ tickets_in old.own ++ (tickets_run ran ++ left)

-- a worker's thread may end: it found a fault, as this mark shows, or it met one since its seat is worn, or it found its queue
-- of tickets closed, and then empty, and has put and taken nothing since
abbrev pub WorkerMayEnd : ℕ → Why → Own → Type 0
WorkerMayEnd mark (FaultFound found) own = found ≡ mark
WorkerMayEnd mark PollerOver own = ⊥
WorkerMayEnd mark (QueueClosed drained) own = drained.nothing ≡ look_of own.ready
WorkerMayEnd mark (Met fault) own = OnlyWorn fault own.seat

-- A worker's thread ran to its end. If a look found a fault, one ticket at most was taken and not run
pub record WorkerEnded (mark : ℕ) (why : Why) (old new : Owned) : Type 0 where
  pub left : List Ticket
  pub few : (left ≡ []) ⊎ ((why ≡ FaultFound mark) × (length left ≡ 1))
  pub made : WorkerRan left (faults_by why) old new
  pub reason : WorkerMayEnd mark why new.own

-- the thread took this ticket, and did nothing else
pub record Took (ticket : Ticket) (old new : Own) : Type 0 where
  pub took : TookOne old.ready.history ticket new.ready.history
  pub seat : new.seat ≡ old.seat
  pub free : new.free ≡ old.free
  pub hand : new.hand ≡ old.hand

-- of a worker's ends of the pollers' queues, in order, only the end of this poller's may have changed
abbrev pub OthersKept : ℕ → List (EndState ℕ) → List (EndState ℕ) → Type 0
OthersKept poller old new = (other : ℕ) → other ≢ poller → slice_get new other ≡ slice_get old other

-- A worker swaps its end of the first poller's queue, which it uses, with its end of the queue of the poller with this
-- number, if it has one. `others` are of the other pollers, in order
pub record Changes (poller : ℕ) (used used_new : EndState ℕ) (others others_new : List (EndState ℕ)) : Type 0 where
  pub first : poller ≡ 0 → (used_new ≡ used) × (others_new ≡ others)
  pub other : poller ≢ 0 → IfSome (slice_get others (poller - 1)) (λ end. (used_new ≡ end)
      × (others_new ≡ slice_set others (poller - 1) used))
  pub none : slice_get others (poller - 1) ≡ None → (used_new ≡ used) × (others_new ≡ others)

-- of a worker's ends only the end of the queue of this slot's poller may have changed
abbrev pub GivesToOwner : Split → ℕ → List (EndState ℕ) → List (EndState ℕ) → Type 0
GivesToOwner split slot old new = (poller : ℕ) × IsIn (part_of split.slots split.size poller) slot
    × (poller < length old → OthersKept poller old new)
