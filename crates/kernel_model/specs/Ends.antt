-- One end of a connection. It is a non-blocking stream socket as the kernel keeps it, and what the network does to it
-- (epoll(7), read(2), write(2), shutdown(2)).
use Rattle.std.specs.Prelude.{◌≡◌, ℕ, Bool, true, false, not, ◌&&◌, ◌||◌, nat_lt, List, [], ◌++◌, length, Option}
use Rattle.token.specs.declared.side.Side.{Side, TheVariants.{Client, Target}}
use Rattle.kernel_model.specs.Outcome.{guard, Told}

pub record EndState : Type 0 where
  -- every byte that ever arrived, those that were not read yet, and every byte that writes took
  pub arrived : List ℕ
  pub unread : List ℕ
  pub taken : List ℕ
  -- the peer's end of input arrived; an error arrived; there is room for writes; sending was shut down
  pub fin : Bool
  pub err : Bool
  pub room : Bool
  pub shut : Bool
  -- the next change of this kind must be reported, since a call of the kind answered blocked
  pub read_armed : Bool
  pub write_armed : Bool

-- `bytes` end in `tail`
abbrev pub IsTailOf : List ℕ → List ℕ → Type 0
IsTailOf bytes tail = (front : List ℕ) × (bytes ≡ front ++ tail)

abbrev pub is_nonempty : List ℕ → Bool
is_nonempty xs = nat_lt 0 (length xs)

-- an end as a connection opens: the client's is connected and has room, the target's is connecting
abbrev pub has_room_at_first : Side → Bool
has_room_at_first Client = true
has_room_at_first Target = false

abbrev pub opened : Side → EndState
opened side = record {
  arrived = [];
  unread = [];
  taken = [];
  fin = false;
  err = false;
  room = has_room_at_first side;
  shut = false;
  read_armed = false;
  write_armed = false;
}

abbrev pub is_readable : EndState → Bool
is_readable e = is_nonempty e.unread || (e.fin || e.err)

abbrev pub is_writable : EndState → Bool
is_writable e = e.room || e.err

-- Each change of the network gives the end after it, and says whether it must be reported: it must if the arm of its
-- kind was set. The arm is cleared. None if the change cannot happen.

-- bytes come, at least one
abbrev pub arrival : EndState → List ℕ → Option (Told EndState Bool)
arrival e bytes = guard (is_nonempty bytes && (not e.fin && not e.err))
    (record { value = record e { arrived = e.arrived ++ bytes; unread = e.unread ++ bytes; read_armed = false }; told = e.read_armed })

-- the end of input comes
abbrev pub finish : EndState → Option (Told EndState Bool)
finish e = guard (not e.fin && not e.err)
    (record { value = record e { fin = true; read_armed = false }; told = e.read_armed })

-- an error comes, such as the peer's reset: it counts as both kinds
abbrev pub failure : EndState → Option (Told EndState Bool)
failure e = guard (not e.err)
    (record { value = record e { err = true; read_armed = false; write_armed = false }; told = e.read_armed || e.write_armed })

-- room for writes comes; on a connecting socket the connect has ended
abbrev pub new_room : EndState → Option (Told EndState Bool)
new_room e = guard (not e.room && not e.err)
    (record { value = record e { room = true; write_armed = false }; told = e.write_armed })
