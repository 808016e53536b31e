-- Left alone, the threads come to rest. A state has a weight, a number that each step of the relay's own makes smaller.
-- What a step uses up weighs more than all that it may bring about: so each weight is 1, for the step, and the weight
-- of what may come of it.
use Rattle.std.specs.{List.list_all, Prelude.{◌≡◌, ℕ, ◌+◌, ◌*◌, ◌<◌, ◌≤◌, Bool, true, false, not, ◌&&◌, nat_lt, nat_le, max, if◌then◌else◌, List, [], ◌∷◌, length, slice_get, Option, Some, None, ◌⊎◌}}
use Rattle.token.specs.{declared.direction.Direction.Direction, Names.last_generation, Sides.{destination, opposite}}
use Rattle.flow.specs.Stream.{Stream, waiting}
use Rattle.kernel_model.specs.{declared.{reply.Reply.Reply, accepting.Accepting.{Accepting, TheVariants.{Accepted, Blocked}}}, Kernel.{KernelState, Registered}}
use Rattle.relay_core.specs.{declared.flags.Flags.Flags, Pairs.{PairState, stream_of, is_joined, fresh}, Order.is_drained}
use Rattle.claims.specs.Words.{some_wait, one}
use Rattle.world.specs.{declared.{connection.Connection.Connection, limits.Limits.Limits}, Due.{due, movable}, Leads.LeadTable, Support.total}
use Rattle.interleaving.specs.{Likeness.IsARun, Threads.{Act, TakeNotes, Call, Post, Release, Register, open_slot, System, Thread, Step, Accept, Drop, Poll, Deliver, Open, Begin, Acts, Calls, start, step, run}}
use Rattle.kernel_model.specs.declared.reply.Reply.TheVariants as reply

-- The relay's own steps

-- accept(2) gave a client, or none waits; the two other answers say nothing of the backlog
abbrev pub is_settled : Accepting → Bool
is_settled Accepted = true
is_settled Blocked = true
is_settled reply = false

-- the call was not interrupted
abbrev pub is_answered : Reply → Bool
is_answered reply.Interrupted = false
is_answered r = true

-- The steps that the relay makes if it is left alone: nothing comes from network, clock or kernel, nothing is posted for
-- time, no call is interrupted, each poll gives something, and each turn begins with at least four calls
abbrev pub is_own : Step → Bool
is_own (Accept reply) = is_settled reply
is_own Drop = true
is_own (Poll names) = nat_lt 0 (length names.items)
is_own Deliver = true
is_own Open = true
is_own (Begin i most) = nat_le 4 most
is_own (Acts i) = true
is_own (Calls i r) = is_answered r
is_own s = false

-- The weights

-- a ticket: a turn begins, claims the slot, takes the connection out, and takes the notes
abbrev pub ticket_weight : ℕ
ticket_weight = 4

-- The longest end of a turn: the connection is put in, a note is posted, and the slot is released, after which there is
-- a ticket if notes wait. What the post brings is weighed by `spent_weight`
abbrev pub end_weight : ℕ
end_weight = 3 + ticket_weight

-- Notes that wait, however many. A turn takes them all at once, and then four flags are up, each for one call that would
-- block; and the turn comes to its end
abbrev pub notes_weight : ℕ
notes_weight = 4 + end_weight

-- what a post brings: notes wait, and there may be a ticket
abbrev pub post_weight : ℕ
post_weight = notes_weight + ticket_weight

-- One move, by a call. With it one call less is left, so the turn may now end with a post, for which the move pays
abbrev pub move_weight : ℕ
move_weight = 1 + post_weight

-- An act weighs 1 and what may come of it: a release brings a ticket, and after the last call the turn ends. What an
-- opening registers, the accepted client pays for
abbrev pub act_weight : Act → ℕ
act_weight Post = 1 + post_weight
act_weight Release = 1 + ticket_weight
act_weight Call = end_weight
act_weight Register = 0
act_weight act = 1

-- A program: its acts, and 1 for the step that begins an opening, which is used up until the opening has registered
abbrev pub program_weight : List Act → ℕ
program_weight (Register ∷ rest) = 0
program_weight acts = 1 + total act_weight acts

-- A connection

-- the moves that a direction has left: each byte that waits goes out, the end of input is seen, and it is passed on
abbrev pub moves_left : Stream → ℕ
moves_left s = length (waiting s) + (one (not s.end_seen) + one (not s.shut))

abbrev pub flags_up : Flags → ℕ
flags_up f = one f.read + one f.write

-- the moves of both directions, and that the target is known to be connected; and each flag that is up is for one call
-- that would block
abbrev pub pair_weight : PairState → ℕ
pair_weight p =
    move_weight * (moves_left p.up + (moves_left p.down + one (not p.joined))) + (flags_up p.client + flags_up p.target)

-- each unread byte moves twice: it is read, and written
abbrev pub socket_weight : Option Registered → ℕ
socket_weight None = 0
socket_weight (Some r) = move_weight * (2 * length r.socket.unread)

abbrev pub connection_weight : Option Connection → ℕ
connection_weight None = 0
connection_weight (Some c) = pair_weight c.pair

-- The four calls

-- the next call for this direction is the one that passes the end on, which never blocks
abbrev pub passes_on : PairState → Direction → Bool
passes_on p d = is_drained (stream_of p d) && is_joined p (destination d)

-- How many calls follow at most until one has moved something or there is none to make. A call that would block clears
-- its flag, and there are four flags. To pass an end on needs no flag; but the directions take turns, so it is the first
-- call or the second
abbrev pub calls_left : PairState → ℕ
calls_left p =
    if passes_on p p.turn then 1 else if passes_on p (opposite p.turn) then 2 else flags_up p.client + flags_up p.target

-- the same by the rest of a program and the connection that is out: four, until the notes are taken
abbrev pub calls_to_come : List Act → Option Connection → ℕ
calls_to_come [] o = 0
calls_to_come (TakeNotes ∷ rest) o = 4
calls_to_come (Call ∷ rest) (Some c) = calls_left c.pair
calls_to_come (act ∷ rest) o = calls_to_come rest o

-- If a turn has fewer calls left than may follow, it may end with a post that no move has paid for. A turn that begins
-- with four has not
abbrev pub spent_weight : ℕ → ℕ → ℕ
spent_weight left calls = if nat_lt left calls then post_weight else 0

abbrev pub thread_weight : Thread → ℕ
thread_weight t = program_weight t.todo + (spent_weight t.left (calls_to_come t.todo t.out) + connection_weight t.out)

-- The whole

-- the greatest of these numbers, or 0
abbrev pub most : {X : Type 0} → (X → ℕ) → List X → ℕ
most f [] = 0
most f (x ∷ xs) = max (f x) (most f xs)

-- how long the longest lead is
abbrev pub longest : LeadTable → ℕ
longest l = max (length l.others) (most (most length) l.own)

-- an accepted client: it is opened, by the step that begins this and by each act of it, with a fresh connection, of which
-- each byte of the lead is to go out
abbrev pub client_weight : Limits → ℕ
client_weight l = 2 + (total act_weight open_slot + (pair_weight (fresh 0 0 l.ring 0 []) + move_weight * longest l.lead))

-- a name in the queue is polled, and then delivered; a client that waits is accepted
abbrev pub kernel_weight : Limits → KernelState → ℕ
kernel_weight l k = total socket_weight k.ends + ((2 + post_weight) * length k.queue + (1 + client_weight l) * k.backlog)

-- a name in the batch is delivered, which posts, or raises the accept flag; that flag is up for one accept(2) that would block
abbrev pub poller_weight : System → ℕ
poller_weight st = (1 + post_weight) * length st.batch + (one st.flag + client_weight st.limits * one st.accepted)

abbrev pub slot_weight : System → ℕ
slot_weight st =
    notes_weight * one (some_wait st.word.pending) + (ticket_weight * length st.tickets + connection_weight st.place)

abbrev pub weight : System → ℕ
weight st = kernel_weight st.limits st.kernel + (poller_weight st + (slot_weight st + total thread_weight st.threads))

-- From any state to which steps lead, each step of the relay's own makes the weight smaller by at least 1, whichever
-- thread makes it. So no more of them can follow, in any order, than the state weighs
abbrev pub LeftAloneItEnds : Type 0
LeftAloneItEnds =
    (l : Limits) (before own : List Step) (st next : System) → l.slots ≡ 1 → run (start l) before ≡ Some st
    → list_all is_own own ≡ true → run st own ≡ Some next → length own + weight next ≤ weight st

-- Rest

-- no step of the relay's own can be made
abbrev pub HasStopped : System → Type 0
HasStopped st = (s : Step) → is_own s ≡ true → step st s ≡ None

-- What rest is: no thread has a program, and there is no ticket, no report, no accepted client, and no client that the
-- poller could accept. Notes wait at most in a slot without a connection. In the machine nothing is due, and nothing
-- could move: a connection is open and silent, or gone
pub record SystemAtRest (l : Limits) (steps : List Step) (st : System) : Type 0 where
  pub run : IsARun l steps st
  pub programs : (i : ℕ) (t : Thread) → slice_get st.threads i ≡ Some t → t.todo ≡ []
  pub tickets : st.tickets ≡ []
  pub batch : st.batch ≡ []
  pub queue : st.kernel.queue ≡ []
  pub accepted : st.accepted ≡ false
  pub clients : (st.kernel.backlog ≡ 0) ⊎ (st.free ≡ 0)
  pub notes : (st.word.pending ≡ 0) ⊎ (st.ends ≡ None)
  pub due : (s : ℕ) → due run.world s ≡ false
  pub movable : (s : ℕ) → movable run.world s ≡ false

-- Wherever the relay has made all of its own steps, by whichever threads in whichever order, it is at rest. The limits
-- must have a thread, leave a generation to open, and allow a turn four calls
abbrev pub LeftAloneItRests : Type 0
LeftAloneItRests = (l : Limits) (steps : List Step) (st : System) → l.slots ≡ 1 → 1 ≤ l.workers → l.generation < last_generation
    → 4 ≤ l.budget → run (start l) steps ≡ Some st → HasStopped st → SystemAtRest l steps st
