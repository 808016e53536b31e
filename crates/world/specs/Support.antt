-- What "whatever could move is due" depends on: where tickets are, that a connection at rest has no call to make, the
-- poller's table, and what covers each flag that is down. Promised too, but the headline can be read without it.
use Rattle.std.specs.Prelude.{◌≡◌, ℕ, ◌+◌, ◌==◌, Bool, true, false, not, ◌&&◌, ◌||◌, List, [], ◌∷◌, Some, None, slice_get}
use Rattle.token.specs.{declared.side.Side.Side, Names.EndName}
use Rattle.kernel_model.specs.{Ends.{EndState, is_nonempty, is_readable, is_writable}, Kernel.Registered, Names.has}
use Rattle.relay_core.specs.{declared.flags.Flags.Flags, Pairs.flags_of, Order.next_call}
use Rattle.world.specs.{declared.{connection.Connection.Connection, actors.{Ticket.Ticket, Holder.TheVariants.Nobody, Doing.{Doing, TheVariants.Tries}}}, Slots.{SlotState, WorkerState, is_held}, States.State, Headline.end_there}
use Rattle.token.specs.declared.name.Name.TheVariants as name

abbrev pub one : Bool → ℕ
one true = 1
one false = 0

abbrev pub total : {X : Type 0} → (X → ℕ) → List X → ℕ
total f [] = 0
total f (x ∷ xs) = f x + total f xs

abbrev pub of_slot : ℕ → Ticket → ℕ
of_slot s t = one (t.slot == s)

abbrev pub tried : ℕ → Doing → ℕ
tried s (Tries t) = of_slot s t
tried s d = 0

-- the tickets of a slot that a worker has
abbrev pub worker_tickets : ℕ → WorkerState → ℕ
worker_tickets s k = tried s k.doing + total (of_slot s) k.hand

-- the tickets of a slot in the ready queue, with the poller and with the workers
abbrev pub tickets : State → ℕ → ℕ
tickets st s = total (of_slot s) st.ready + (total (of_slot s) st.hand + total (worker_tickets s) st.workers)

-- a slot with notes that is neither held nor free has one ticket, and every other slot none
abbrev pub TicketsHold : State → Type 0
TicketsHold st = (s : ℕ) (p : SlotState) → slice_get st.slots s ≡ Some p
    → tickets st s ≡ one (not (is_held p.holder) && is_nonempty p.notes)

-- a connection in a slot that nobody holds and that has no notes has no call to make
abbrev pub RestHolds : State → Type 0
RestHolds st = (s : ℕ) (p : SlotState) (c : Connection) → slice_get st.slots s ≡ Some p → p.connection ≡ Some c
    → p.holder ≡ Nobody → p.notes ≡ [] → next_call c.pair ≡ None

abbrev pub TableHolds : State → Type 0
TableHolds st = (s : ℕ) (p : SlotState) → slice_get st.slots s ≡ Some p → slice_get st.table s ≡ Some p.generation

-- A flag is up or covered: the end is armed for the kind and not ready for it, or ready for it and reported
abbrev pub is_covered : Bool → Bool → Bool → Bool → Bool
is_covered flag armed ready reported = flag || ((armed && not ready) || (ready && reported))

-- a report of this very end is queued or in the batch, or a note is in its slot
abbrev pub has_report : State → EndName → List ℕ → Bool
has_report st token notes = (has (name.End token) st.kernel.queue || has (name.End token) st.batch) || is_nonempty notes

pub record EndCovered (flags : Flags) (x : EndState) (reported : Bool) : Type 0 where
  pub read : is_covered flags.read x.read_armed (is_readable x) reported ≡ true
  pub write : is_covered flags.write x.write_armed (is_writable x) reported ≡ true

-- every flag of a connection that is down is covered
abbrev pub EdgesHold : State → Type 0
EdgesHold st = (s : ℕ) (p : SlotState) (c : Connection) (side : Side) (x : Registered)
    → slice_get st.slots s ≡ Some p → p.connection ≡ Some c → end_there st c side ≡ Some x
    → EndCovered (flags_of c.pair side) x.socket (has_report st (record { slot = s; side = side; generation = c.pair.generation }) p.notes)

-- what `DueHolds` depends on: tickets, rest, the table, and that no flag is down without cover
pub record SupportHolds (st : State) : Type 0 where
  pub tickets : TicketsHold st
  pub rest : RestHolds st
  pub table : TableHolds st
  pub edges : EdgesHold st
