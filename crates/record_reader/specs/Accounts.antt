-- What a connection has come to, by its acts from its opening on: its turns, and what was done with its ends.
use Rattle.std.specs.{Prelude.{◌≡◌, ◌-◌, ℕ, Bool, true, false, not, ◌&&◌, ◌||◌, nat_lt, min, if◌then◌else◌, List, [], ◌∷◌, Option, Some, None, sum_by}, List.list_any, Option.{option_or, unwrap_or}}
use Rattle.token.specs.{declared.side.Side.{Side, TheVariants.{Client, Target}}}
use Rattle.relay_core.specs.declared.{call.CallKind.CallKind, verdict.Fault.{Fault, TheVariants.Broken}}
use Rattle.record_lines.specs.declared.act.{Act.Act, Answer.Answer}
use Rattle.record_reader.specs.declared.account.{Half.Half, Account.Account, Waits.{Waits, TheVariants.{Nobody, Answers, Takes, Sends}}}
use Rattle.relay_core.specs.declared.call.CallKind.TheVariants as call
use Rattle.record_lines.specs.declared.act.Act.TheVariants as act
use Rattle.record_lines.specs.declared.act.Made.TheVariants as made
use Rattle.record_lines.specs.declared.act.Answer.TheVariants as answer

-- One act

abbrev pub is_same_side : Side → Side → Bool
is_same_side Client Client = true
is_same_side Target Target = true
is_same_side a b = false

abbrev pub moved_bytes : Answer → ℕ
moved_bytes (answer.Moved n) = n
moved_bytes a = 0

-- how many bytes an act read at a side, and how many it wrote there
abbrev pub read_at : Side → Act → ℕ
read_at side (act.Wire n (made.Read most a)) = if is_same_side side n.side then moved_bytes a else 0
read_at side a = 0

abbrev pub written_at : Side → Act → ℕ
written_at side (act.Wire n (made.Write length a)) = if is_same_side side n.side then moved_bytes a else 0
written_at side a = 0

-- it read the end of input there; it passed the end on there
abbrev pub ends_at : Side → Act → Bool
ends_at side (act.Wire n (made.Read most answer.End)) = is_same_side side n.side
ends_at side a = false

abbrev pub shuts_at : Side → Act → Bool
shuts_at side (act.Wire n (made.Shut answer.Shut)) = is_same_side side n.side
shuts_at side a = false

-- the side from which it brought bytes
abbrev pub sender : Act → Option Side
sender (act.Wire n (made.Read most a)) = if nat_lt 0 (moved_bytes a) then Some n.side else None
sender a = None

-- how many bytes it offered to the target
abbrev pub offered_to_target : Act → Option ℕ
offered_to_target (act.Wire n (made.Write length a)) = if is_same_side Target n.side then Some length else None
offered_to_target a = None

abbrev pub answer_fault : Side → CallKind → Answer → Option Fault
answer_fault side call (answer.Failed kind) = Some (Broken side call kind)
answer_fault side call a = None

abbrev pub act_fault : Act → Option Fault
act_fault (act.Wire n (made.Read most a)) = answer_fault n.side call.Read a
act_fault (act.Wire n (made.Write length a)) = answer_fault n.side call.Write a
act_fault (act.Wire n (made.Join a)) = answer_fault n.side call.Join a
act_fault (act.Wire n (made.Shut a)) = answer_fault n.side call.Shut a
act_fault a = None

abbrev pub is_beginning : Act → Bool
is_beginning (act.Begin slot) = true
is_beginning a = false

abbrev pub joins : Act → Bool
joins (act.Wire n (made.Join answer.Joined)) = true
joins a = false

abbrev pub drops_wire : Act → Bool
drops_wire (act.Wire n made.Drop) = true
drops_wire a = false

-- a turn had ended with no call worth trying: each would block
abbrev pub settles : Act → Bool
settles (act.Wire n made.Settle) = true
settles a = false

-- All acts

abbrev pub first_found : {A X : Type 0} → (A → Option X) → List A → Option X
first_found f [] = None
first_found f (a ∷ acts) = option_or (f a) (first_found f acts)

abbrev pub last_of : {X : Type 0} → (Act → Option X) → List Act → Option X
last_of f [] = None
last_of f (a ∷ acts) = option_or (last_of f acts) (f a)

-- the last act settles
abbrev pub ends_quiet : List Act → Bool
ends_quiet acts = unwrap_or (last_of (λ a. Some (settles a)) acts) false

-- a number that has reached 2^64 - 1 stays there
abbrev pub count_capped : ℕ → ℕ
count_capped n = min n 18446744073709551615

-- what happened at one end
pub record IsHalf (side : Side) (acts : List Act) (h : Half) : Type 0 where
  pub read : h.read ≡ count_capped (sum_by (read_at side) acts)
  pub written : h.written ≡ count_capped (sum_by (written_at side) acts)
  pub ended : h.ended ≡ list_any (ends_at side) acts
  pub shut : h.shut ≡ list_any (shuts_at side) acts

-- this is the account of these acts
pub record IsAccount (acts : List Act) (a : Account) : Type 0 where
  pub client : IsHalf Client acts a.client
  pub target : IsHalf Target acts a.target
  pub first_offer : a.offer ≡ first_found offered_to_target acts
  pub first_fault : a.fault ≡ first_found act_fault acts
  pub last_sender : a.sender ≡ last_of sender acts
  pub joined : a.joined ≡ list_any joins acts
  pub had_turn : a.had_turn ≡ list_any is_beginning acts
  pub dropped : a.dropped ≡ list_any drops_wire acts
  pub quiet : a.is_quiet ≡ ends_quiet acts

-- What it waits for

-- how long the line is that the target is sent first, as its first write shows
abbrev pub lead_length : Account → ℕ
lead_length a = if a.has_lead then unwrap_or a.offer 0 else 0

-- how many bytes wait for the target, and how many for the client
abbrev pub ring_up : Account → ℕ
ring_up a = a.client.read - (a.target.written - lead_length a)

abbrev pub ring_down : Account → ℕ
ring_down a = a.target.read - a.client.written

abbrev pub waits_at_target : Account → Bool
waits_at_target a = nat_lt 0 (ring_up a) || nat_lt a.target.written (lead_length a)

-- a call has shown that the target is connected
abbrev pub is_shown : Account → Bool
is_shown a = a.joined || (nat_lt 0 a.target.read || (nat_lt 0 a.target.written || (a.target.ended || a.target.shut)))

abbrev pub is_sender : Option Side → Side → Bool
is_sender (Some a) b = is_same_side a b
is_sender None b = false

-- this side may send, and it is its turn: the other side will not send, or it was not this one that sent last
abbrev pub may_send : Half → Half → Bool → Bool
may_send own other sent_last = not own.ended && (other.ended || not sent_last)

-- `due`: a report has come since its last turn
abbrev pub waits_of : Bool → Bool → Account → Waits
waits_of due connected a =
    if due || not a.is_quiet then Nobody
    else if not connected then Answers
    else if nat_lt 0 (ring_down a) || waits_at_target a then Takes (nat_lt 0 (ring_down a)) (waits_at_target a)
    else Sends (may_send a.client a.target (is_sender a.sender Client)) (may_send a.target a.client (is_sender a.sender Target))
