-- What is on its way from one socket to its wire, and that the wire misses nothing. A poller takes the socket's reports
-- from the system (epoll(7), edge-triggered), and passes on to the wire those that name reading, while any thread makes
-- the wire's calls. The socket is an end of the modelled kernel.
use Rattle.std.specs.Prelude.{◌≡◌, ◌⊎◌, ℕ, Bool, true, false, not, ◌&&◌, ◌||◌, List, [], ◌∷◌, ◌++◌, Contains, Option, Some, None, option_map, option_and_then}
use Rattle.token.specs.declared.side.Side.{Side}
use Rattle.kernel_model.specs.{Outcome.{guard, Told}, Ends.{EndState, opened, is_readable, is_writable, arrival, finish, failure, new_room}, Replies.{after_read, after_write, after_join, after_shut}, declared.reply.Reply.Reply}
use Rattle.kernel_model.specs.declared.reply.Reply.TheVariants as reply

-- what the network does to a socket that concerns reading: bytes come, the end of input, or an error
pub data Change : Type 0 where
  Bytes : List ℕ → Change
  Fin : Change
  Error : Change

abbrev pub end_changed : EndState → Change → Option (Told EndState Bool)
end_changed e (Bytes bytes) = arrival e bytes
end_changed e Fin = finish e
end_changed e Error = failure e

-- a call on a wire
pub data Call : Type 0 where
  Read : ℕ → Call
  Write : List ℕ → Call
  Join : Call
  Shut : Call

-- the end after a call, if this reply may be given
abbrev pub after_call : EndState → Call → Reply → Option EndState
after_call e (Read most) r = after_read e most r
after_call e (Write offer) r = after_write e offer r
after_call e Join r = after_join e r
after_call e Shut r = after_shut e r

-- The socket; whether a report of it is queued; for each report that a poll has taken and that is not passed on yet,
-- the oldest first, whether it names reading; whether the wire had a report of reading since it last looked; and whether
-- the wire reads its socket, or answers "would block" by itself
pub record Way : Type 0 where
  pub socket : EndState
  pub queued : Bool
  pub taken : List Bool
  pub told : Bool
  pub reads : Bool

-- One step of the network (`Comes`, `HasRoom`), the system (`Spurious`, `Vanished`, `Polled`), the poller (`Tells`,
-- `Old`) or the wire (`Looks`, `Calls`, `Unasked`). `Vanished` takes a queued report back. `Old` passes on a report of an
-- earlier connection under the same name. `Unasked` is the answer "would block" that the wire gives to a read by itself
pub data Step : Type 0 where
  Comes : Change → Step
  HasRoom : Step
  Spurious : Step
  Vanished : Step
  Polled : Bool → Step
  Tells : Step
  Old : Step
  Looks : Step
  Calls : Call → Reply → Step
  Unasked : ℕ → Step

-- A new connection: its wire reads. What was reported of an earlier one may still stand
abbrev pub new_way : Side → Bool → Way
new_way side told = record { socket = opened side; queued = false; taken = []; told = told; reads = true }

-- a change of the network, and its report
abbrev pub way_changed : Way → Option (Told EndState Bool) → Option Way
way_changed w change = option_map (λ (t : Told EndState Bool). record w { socket = t.value; queued = w.queued || t.told }) change

-- a read would block, and so would a write; a report can vanish only then
abbrev pub end_is_quiet : EndState → Bool
end_is_quiet e = not (is_readable e) && not (is_writable e)

-- A poll takes the report out of the queue. It names reading if there is something to read by then, and may do so
-- without (epoll_wait(2))
abbrev pub polled : Way → Bool → Option Way
polled w names = guard (w.queued && (not (is_readable w.socket) || names)) (record w { queued = false; taken = w.taken ++ names ∷ [] })

-- the poller passes on the oldest report that was taken
abbrev pub tells : Way → List Bool → Option Way
tells w [] = None
tells w (names ∷ rest) = Some (record w { taken = rest; told = w.told || names })

-- a read is asked of the socket only while the wire reads it
abbrev pub may_call : Bool → Call → Bool
may_call reads (Read most) = reads
may_call reads call = true

-- whether the wire reads after a call: no more after a read that would block, again after any error
abbrev pub reads_then : Bool → Call → Reply → Bool
reads_then reads (Read most) reply.Blocked = false
reads_then reads call (reply.Failed kind) = true
reads_then reads call r = reads

abbrev pub way_called : Way → Call → Reply → Option Way
way_called w call r = option_and_then
    (λ (e : EndState). guard (may_call w.reads call) (record w { socket = e; reads = reads_then w.reads call r }))
    (after_call w.socket call r)

abbrev pub step : Way → Step → Option Way
step w (Comes change) = way_changed w (end_changed w.socket change)
step w HasRoom = way_changed w (new_room w.socket)
step w Spurious = Some (record w { queued = true })
step w Vanished = guard (w.queued && end_is_quiet w.socket) (record w { queued = false })
step w (Polled names) = polled w names
step w Tells = tells w w.taken
step w Old = Some (record w { told = true })
step w Looks = Some (record w { reads = w.reads || w.told; told = false })
step w (Calls call r) = way_called w call r
step w (Unasked most) = guard (not w.reads && not w.told) w

-- a list of steps, each of which can be made
abbrev pub run : Way → List Step → Option Way
run w [] = Some w
run w (s ∷ steps) = option_and_then (λ (v : Way). run v steps) (step w s)

-- a report that names reading is queued or taken, and will be passed on
abbrev pub WillBeTold : Way → Type 0
WillBeTold w = (w.queued ≡ true) ⊎ Contains w.taken true

-- nothing is missed: if there is nothing to read, the system reports what comes next, and if there is, its report is on
-- its way to the wire
pub record IsCovered (w : Way) : Type 0 where
  pub armed : is_readable w.socket ≡ false → w.socket.read_armed ≡ true
  pub coming : is_readable w.socket ≡ true → WillBeTold w

-- a wire that answers by itself misses nothing
abbrev pub MissesNothing : Way → Type 0
MissesNothing w = w.reads ≡ false → w.told ≡ false → IsCovered w

-- so it is after every run from the opening of a connection, whatever was passed on before
abbrev pub WiresMissNothing : Type 0
WiresMissNothing = (side : Side) (told : Bool) (steps : List Step) (w : Way) → run (new_way side told) steps ≡ Some w → MissesNothing w
