-- What a slot and a worker are.
use Rattle.std.specs.Prelude.{ℕ, Bool, true, false, List, Option}
use Rattle.world.specs.declared.{connection.Connection.Connection, actors.{Ticket.Ticket, Holder.{Holder, TheVariants.{Nobody, By, Free}}, Doing.Doing}}

-- A slot. `generation` is that of the connection that was opened in it last. Each note is the generation that it is for
pub record SlotState : Type 0 where
  pub generation : ℕ
  pub connection : Option Connection
  pub holder : Holder
  pub notes : List ℕ

-- what the worker is doing, and the tickets that it has to put
pub record WorkerState : Type 0 where
  pub doing : Doing
  pub hand : List Ticket

-- a free slot counts as held
abbrev pub is_held : Holder → Bool
is_held Nobody = false
is_held (By worker) = true
is_held Free = true

abbrev pub is_by_worker : Holder → Bool
is_by_worker Nobody = false
is_by_worker (By worker) = true
is_by_worker Free = false
