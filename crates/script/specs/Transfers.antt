-- One direction as a machine. Here are its source, ring and destination, and what each step of a script does to them.
use Rattle.std.specs.Prelude.{ℕ, min, Bool, true, false, not, ◌&&◌, if◌then◌else◌, [], take, Option, None, option_map, Result, ◌≡◌, ◌||◌, List, ◌∷◌, ◌++◌, Ok}
use Rattle.token.specs.declared.side.Side.TheVariants.{Client, Target}
use Rattle.flow.specs.Stream.{Stream, empty_stream, free_room, waiting, front, taken_in, dropped, ended, closed}
use Rattle.kernel_model.specs.{Ends.{opened, is_nonempty, arrival, finish, new_room}, Replies.{after_read, after_write, after_shut}}
use Rattle.script.specs.{declared.{fault.Fault.Fault, transfer.Transfer.Transfer}, Plans.FlowPlan, Faults.{or_not_allowed, played}}
use Rattle.script_text.specs.{declared.steps.{Step.{Step, TheVariants.{Arrive, Fin, Room, Read, End, Wrote, Shut}}, NumberedStep.NumberedStep}, Events.step_word}
use Rattle.kernel_model.specs.declared.reply.Reply.TheVariants as reply

-- nothing has arrived, and there is no lead; the source is connected, and the destination has no room yet
abbrev pub new_transfer : ℕ → Transfer
new_transfer ring = record { source = opened Client; flow = empty_stream ring []; destination = opened Target }

-- the most bytes that the next read asks for
abbrev pub read_size : Stream → ℕ
read_size flow = min (free_room flow) 16384

-- the ends and the ring after a step, if it is allowed: sockets get and reply what the rules of sockets allow; no read
-- comes once the end was read, and no shutdown before the last byte has left
abbrev pub stepped : Transfer → Step → Option Transfer
stepped t (Arrive bytes) = option_map (λ r. record t { source = r.value }) (arrival t.source bytes)
stepped t Fin = option_map (λ r. record t { source = r.value }) (finish t.source)
stepped t Room = option_map (λ r. record t { destination = r.value }) (new_room t.destination)
stepped t (Read n) =
    if t.flow.end_seen then None
    else option_map (λ e. record t { source = e; flow = taken_in t.flow (take n t.source.unread) })
    (after_read t.source (read_size t.flow) (reply.Bytes n))
stepped t End =
    if t.flow.end_seen then None
    else option_map (λ e. record t { source = e; flow = ended t.flow }) (after_read t.source (read_size t.flow) reply.End)
stepped t (Wrote n full) =
    option_map (λ e. record t { destination = e; flow = dropped t.flow n }) (after_write t.destination (front t.flow) (reply.Wrote n full))
stepped t Shut =
    if t.flow.end_seen && (not (is_nonempty (waiting t.flow)) && not t.flow.shut)
    then option_map (λ e. record t { destination = e; flow = closed t.flow }) (after_shut t.destination reply.Shut)
    else None

-- the steps that make a list longer: bytes arrive, or a write takes them
abbrev pub takes_memory : Step → Bool
takes_memory (Arrive bytes) = true
takes_memory (Wrote n full) = true
takes_memory _ = false

abbrev pub step_takes_memory : Transfer → NumberedStep → Bool
step_takes_memory t s = takes_memory s.step

abbrev pub line_stepped : Transfer → NumberedStep → Result Transfer Fault
line_stepped t s = or_not_allowed s.line (step_word s.step) (stepped t s.step)

abbrev pub run_of : FlowPlan → Result Transfer Fault
run_of plan = played line_stepped (new_transfer plan.ring) plan.steps

-- What holds of every script of one direction, in terms of its steps alone.

-- the bytes that a step brings to the source
abbrev pub step_brings : Step → List ℕ
step_brings (Arrive bytes) = bytes
step_brings _ = []

-- every byte that the steps bring, in order
abbrev pub bytes_given : List NumberedStep → List ℕ
bytes_given [] = []
bytes_given (s ∷ ss) = step_brings s.step ++ bytes_given ss

abbrev pub is_fin : Step → Bool
is_fin Fin = true
is_fin _ = false

-- the source's end of input is among the steps
abbrev pub has_ended : List NumberedStep → Bool
has_ended [] = false
has_ended (s ∷ ss) = is_fin s.step || has_ended ss

-- The bytes that arrived are the sent bytes, then the ring, then the unread bytes.
abbrev pub FlowKeepsBytes : FlowPlan → Type 0
FlowKeepsBytes plan = (t : Transfer) → run_of plan ≡ Ok t → bytes_given plan.steps ≡ t.destination.taken ++ (t.flow.ring ++ t.source.unread)

-- The source has ended, no byte is on its way, and all that arrived was sent.
pub record IsComplete (steps : List NumberedStep) (t : Transfer) : Type 0 where
  pub ended : has_ended steps ≡ true
  pub unread : t.source.unread ≡ []
  pub ring : t.flow.ring ≡ []
  pub sent : t.destination.taken ≡ bytes_given steps

-- The end is passed on only after every byte.
abbrev pub KeepsEnd : FlowPlan → Type 0
KeepsEnd plan = (t : Transfer) → run_of plan ≡ Ok t → t.flow.shut ≡ true → IsComplete plan.steps t
