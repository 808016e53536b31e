-- The state of the whole machine, its limits, and how it begins.
use Rattle.std.specs.Prelude.{ℕ, suc, zero, ◌==◌, ◌<◌, ◌≤◌, Bool, true, false, List, [], ◌∷◌, ◌++◌, replicate, Option, Some, None}
use Rattle.token.specs.{declared.name.Name.Name, Names.last_generation}
use Rattle.kernel_model.specs.Kernel.{KernelState, idle}
use Rattle.world.specs.{declared.{limits.Limits.Limits, actors.{Ticket.Ticket, Holder.TheVariants.Free, Doing.TheVariants.Idle}, past.Past.Past}, Slots.{SlotState, WorkerState}}

-- `second` is how many seconds have passed. `kernel` has the ends, the readiness queue and the listener's backlog. The
-- poller has the accept flag (`flag`), perhaps a connection that was `accepted`, the `table` of the slots'
-- generations, the rest of its `batch`, and the tickets in its `hand`. `ready` and `free` are the two queues between
-- the poller and the workers. `past` has the closed connections, in order
pub record State : Type 0 where
  pub limits : Limits
  pub second : ℕ
  pub kernel : KernelState
  pub flag : Bool
  pub accepted : Bool
  pub table : List ℕ
  pub batch : List Name
  pub hand : List Ticket
  pub ready : List Ticket
  pub free : List ℕ
  pub slots : List SlotState
  pub workers : List WorkerState
  pub past : List Past

-- the limits that a header may have
pub record IsWithinLimits (l : Limits) : Type 0 where
  pub slots : (1 ≤ l.slots) × (l.slots ≤ 64)
  pub workers : (1 ≤ l.workers) × (l.workers ≤ 16)
  pub ring : (1 ≤ l.ring) × (l.ring ≤ 65536)
  pub budget : (1 ≤ l.budget) × (l.budget ≤ 1024)
  pub generation : l.generation < last_generation

abbrev pub numbers_below : ℕ → List ℕ
numbers_below zero = []
numbers_below (suc n) = numbers_below n ++ n ∷ []

abbrev pub is_entry : Option ℕ → ℕ → Bool
is_entry None g = false
is_entry (Some entry) g = entry == g

abbrev pub unused : ℕ → SlotState
unused generation = record { generation = generation; connection = None; holder = Free; notes = [] }

abbrev pub resting_worker : WorkerState
resting_worker = record { doing = Idle; hand = [] }

-- the world in which nothing has happened yet
abbrev pub opening : Limits → State
opening l = record {
  limits = l;
  second = 0;
  kernel = idle;
  flag = true;
  accepted = false;
  table = replicate l.slots l.generation;
  batch = [];
  hand = [];
  ready = [];
  free = numbers_below l.slots;
  slots = replicate l.slots (unused l.generation);
  workers = replicate l.workers resting_worker;
  past = [];
}
