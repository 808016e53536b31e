-- The threads at one slot over wires that rest, and what that is without such wires. In `System` the kernel answers
-- each call. Here a wire answers reads by itself once one would block, until a report that names reading was passed on
-- to it (`Machine.antt` of `readiness`). Without such wires, what comes meanwhile is late.
use Rattle.std.specs.{Prelude.{◌≡◌, ◌≢◌, ℕ, ◌-◌, ◌==◌, Bool, true, false, not, ◌&&◌, ◌||◌, if◌then◌else◌, List, [], ◌∷◌, ◌++◌, length, map, slice_get, Option, Some, None, option_map, option_and_then, unwrap_or, Vec}, Global.Global, Option.{is_none, is_some}, List.{flat_map, list_all}}
use Rattle.token.specs.declared.{side.Side.{Side, TheVariants.{Client, Target}}, name.Name.{Name, TheVariants.{Listener, Waker, End}}}
use Rattle.kernel_model.specs.{declared.{reply.Reply.Reply, both.Descriptors.Descriptors}, Outcome.guard, Ends.{is_readable}, Kernel.{KernelState, Registered, end_at}, Names.has}
use Rattle.relay_core.specs.{declared.call.Call.{Call as PairCall, TheVariants.{Read, Write, Join, Shut}}, Pairs.PairState, Calls.side_of, Order.{next_call, offer}, Replies.after}
use Rattle.readiness.specs.Machine.{Call, MissesNothing, Way, WillBeTold, may_call, reads_then}
use Rattle.world.specs.{declared.{connection.Connection.Connection, limits.Limits.Limits, event.{Change.{Change, TheVariants.Room}}}, Calls.{when, descriptor}}
use Rattle.interleaving.specs.{Threads.{Act, Call as CallNext, Close, System, Thread, Network, Spurious, Vanish, Poll, Acts, Calls, poller_rests, planned, with_thread}, Likeness.{IsARun}}
use Rattle.interleaving.specs.Threads as alone
use Rattle.readiness.specs.Machine as wire
use Rattle.kernel_model.specs.Kernel as kernel
use Rattle.kernel_model.specs.declared.reply.Reply.TheVariants as reply
use Rattle.relay_core.specs.Replies as answer
use Rattle.world.specs.declared.event.Reported.TheVariants as reported

-- whether a report that names reading was passed on since the wire last looked, and whether it asks its socket for reads
pub record Wire : Type 0 where
  pub told : Bool
  pub reads : Bool

-- a poll in progress: what epoll_wait(2) gave, which of that names reading, and what is not passed on yet
pub record Polling : Type 0 where
  pub names : Vec Name Global
  pub reading : Name → Bool
  pub left : List Name

-- the threads, over the real kernel; the wires, with the words by which they hear of reports; and the poll that is in progress
pub record WiredSystem : Type 0 where
  pub system : System
  pub wires : Side → Wire
  pub poll : Option Polling

abbrev pub start : Limits → WiredSystem
start l = record { system = alone.start l; wires = λ side. record { told = false; reads = true }; poll = None }

-- A step of `System` other than a poll. A poll takes these names out of the kernel's queue, some of which name reading
-- (`Polled`); passes the first one left on (`Tells`); and at last hands all over (`Handed`). A wire looks at its word. A
-- wire answers the next call of this thread by itself
pub data Step : Type 0 where
  Plain : alone.Step → Step
  Polled : Vec Name Global → (Name → Bool) → Step
  Tells : Step
  Handed : Step
  Looks : Side → Step
  Unasked : ℕ → Step

abbrev pub on : {X : Type 0} → Side → X → (Side → X) → Side → X
on Client x f Client = x
on Client x f Target = f Target
on Target x f Client = f Client
on Target x f Target = x

-- the end on a side of the slot's connection, if there is one
abbrev pub end_here : System → Side → Option Registered
end_here st side = option_and_then (λ (ends : Descriptors). end_at st.kernel.ends (descriptor ends side)) st.ends

-- The next call of a thread

pub record NextCall : Type 0 where
  pub thread : Thread
  pub connection : Connection
  pub asks : PairCall

abbrev pub as_call : PairState → PairCall → Call
as_call p (Read side most) = wire.Read most
as_call p (Write side) = wire.Write (offer p side)
as_call p (Join side) = wire.Join
as_call p (Shut side) = wire.Shut

abbrev pub asked_by : Thread → List Act → Option NextCall
asked_by t (CallNext ∷ rest) = option_and_then (λ (c : Connection).
    option_map (λ (call : PairCall). record { thread = t; connection = c; asks = call }) (next_call c.pair)) t.out
asked_by t todo = None

abbrev pub asks : System → ℕ → Option NextCall
asks st i = option_and_then (λ (t : Thread). asked_by t t.todo) (slice_get st.threads i)

-- Steps

-- the wires of a new connection: what was heard of an earlier one may still stand
abbrev pub fresh_wires : (Side → Wire) → Side → Wire
fresh_wires wires side = record (wires side) { reads = true }

-- the wires after a step that leads to q: one after a call on it, if it may be made; both as a connection opens
abbrev pub wires_called : (Side → Wire) → Reply → NextCall → Option (Side → Wire)
wires_called wires r a =
    let side : Side = side_of a.asks in
    let call : Call = as_call a.connection.pair a.asks in
    guard (may_call (wires side).reads call) (on side (record (wires side) { reads = reads_then (wires side).reads call r }) wires)

abbrev pub wires_after : WiredSystem → alone.Step → System → Option (Side → Wire)
wires_after w (Calls i r) q = option_and_then (wires_called w.wires r) (asks w.system i)
wires_after w (Poll names) q = None
wires_after w s q = Some (if is_none w.system.ends && is_some q.ends then fresh_wires w.wires else w.wires)

-- while the poller polls, its thread has no program
abbrev pub step_plainly : WiredSystem → alone.Step → Option WiredSystem
step_plainly w s = option_and_then (λ (q : System). when (is_none w.poll || poller_rests q)
    (option_map (λ (wires : Side → Wire). record w { system = q; wires = wires }) (wires_after w s q))) (alone.step w.system s)

-- a report of an end at which there is something to read names reading (epoll_wait(2))
abbrev pub may_name : System → (Name → Bool) → Name → Bool
may_name st reading (End n) =
    not (unwrap_or (option_map (λ (r : Registered). is_readable r.socket) (end_here st n.side)) false) || reading (End n)
may_name st reading n = true

abbrev pub polled : WiredSystem → Vec Name Global → (Name → Bool) → Option WiredSystem
polled w names reading =
    when (is_none w.poll && (poller_rests w.system && (length w.system.batch == 0 && list_all (may_name w.system reading) names.items)))
    (option_map (λ (k : KernelState). record w {
      system = record w.system { kernel = k };
      poll = Some (record { names = names; reading = reading; left = names.items });
    })
    (kernel.poll w.system.kernel names.items))

-- the word of its side is set, whichever connection has it now
abbrev pub word_told : Polling → Name → (Side → Wire) → Side → Wire
word_told p (End n) wires = if p.reading (End n) then on n.side (record (wires n.side) { told = true }) wires else wires
word_told p n wires = wires

abbrev pub poller_tells : WiredSystem → Polling → List Name → Option WiredSystem
poller_tells w p [] = None
poller_tells w p (n ∷ rest) = Some (record w { wires = word_told p n w.wires; poll = Some (record p { left = rest }) })

abbrev pub handed : WiredSystem → Polling → Option WiredSystem
handed w p = guard (length p.left == 0) (record w { system = record w.system { batch = p.names.items }; poll = None })

-- what `Calls` with the reply "would block" does to thread and pair
abbrev pub blocked : System → ℕ → NextCall → System
blocked st i a = with_thread st i (planned st a.thread (a.thread.left - 1)
    (record a.connection { pair = after st.second a.connection.pair a.asks answer.Blocked }))

-- only a read is answered so, by a wire that does not read and has heard nothing
abbrev pub unasked : WiredSystem → ℕ → NextCall → Option WiredSystem
unasked w i a =
    let it : Wire = w.wires (side_of a.asks) in
    guard (not (may_call it.reads (as_call a.connection.pair a.asks)) && not it.told) (record w { system = blocked w.system i a })

abbrev pub step : WiredSystem → Step → Option WiredSystem
step w (Plain s) = step_plainly w s
step w (Polled names reading) = polled w names reading
step w Tells = option_and_then (λ (p : Polling). poller_tells w p p.left) w.poll
step w Handed = option_and_then (λ (p : Polling). handed w p) w.poll
step w (Looks side) =
    Some (record w { wires = on side (record { reads = (w.wires side).reads || (w.wires side).told; told = false }) w.wires })
step w (Unasked i) = option_and_then (λ (a : NextCall). unasked w i a) (asks w.system i)

abbrev pub run : WiredSystem → List Step → Option WiredSystem
run w [] = Some w
run w (s ∷ steps) = option_and_then (λ (q : WiredSystem). run q steps) (step w s)

-- The same without wires that rest: what is late at each side, and whether the poll in progress was handed over early
pub record Delay : Type 0 where
  pub late : Side → List Change
  pub early : Bool

-- it concerns reading
abbrev pub is_input : Change → Bool
is_input Room = false
is_input change = true

-- and comes while its wire rests
abbrev pub waits : Wire → Change → Bool
waits wire change = is_input change && (not wire.reads && not wire.told)

abbrev pub is_close : List Act → Bool
is_close (Close ∷ rest) = true
is_close todo = false

abbrev pub closes : System → ℕ → Bool
closes st i = unwrap_or (option_map (λ (t : Thread). is_close t.todo) (slice_get st.threads i)) false

-- the sides whose late changes come before a step: a wire hears of a report, or is given an error, or both sockets are closed
abbrev pub sides_told : Polling → List Name → List Side
sides_told p (End n ∷ rest) = if p.reading (End n) then n.side ∷ [] else []
sides_told p left = []

abbrev pub catching : WiredSystem → Step → List Side
catching w (Plain (Calls i (reply.Failed kind))) = unwrap_or (option_map (λ (a : NextCall). side_of a.asks ∷ []) (asks w.system i)) []
catching w (Plain (Acts i)) = if closes w.system i then Client ∷ Target ∷ [] else []
catching w Tells = unwrap_or (option_map (λ (p : Polling). sides_told p p.left) w.poll) []
catching w s = []

abbrev pub comes : (Side → List Change) → List Side → List alone.Step
comes late sides = flat_map (λ (side : Side). map (Network side) (late side)) sides

abbrev pub cleared : List Side → (Side → List Change) → Side → List Change
cleared [] late = late
cleared (side ∷ sides) late = cleared sides (on side [] late)

-- a poll there, of what may not be queued there
abbrev pub report_of : Name → alone.Step
report_of Listener = Spurious reported.Listener
report_of Waker = Spurious reported.Waker
report_of (End n) = Spurious (reported.End 0 n.side)

abbrev pub polls : Bool → Option Polling → List alone.Step
polls false (Some p) = map report_of p.names.items ++ Poll p.names ∷ []
polls early poll = []

-- What happens there after that. A poll happens as it is handed over, but before the sockets close
abbrev pub happens : WiredSystem → Delay → Step → List alone.Step
happens w d (Plain (Network side change)) = if waits (w.wires side) change then [] else Network side change ∷ []
happens w d (Plain (Vanish who)) = Spurious who ∷ Vanish who ∷ []
happens w d (Plain (Acts i)) = (if closes w.system i then polls d.early w.poll else []) ++ Acts i ∷ []
happens w d (Plain s) = s ∷ []
happens w d Handed = polls d.early w.poll
happens w d (Unasked i) = Calls i reply.Blocked ∷ []
happens w d s = []

abbrev pub delay_after : WiredSystem → Delay → Step → Delay
delay_after w d (Plain (Network side change)) =
    record d { late = if waits (w.wires side) change then on side (d.late side ++ change ∷ []) d.late else d.late }
delay_after w d (Plain (Acts i)) = record { late = cleared (catching w (Plain (Acts i))) d.late; early = closes w.system i || d.early }
delay_after w d (Polled names reading) = record d { early = false }
delay_after w d s = record d { late = cleared (catching w s) d.late }

abbrev pub none_late : Delay
none_late = record { late = λ side. []; early = false }

abbrev pub happened : WiredSystem → Delay → List Step → List alone.Step
happened w d [] = []
happened w d (s ∷ steps) = comes d.late (catching w s) ++ (happens w d s
    ++ unwrap_or (option_map (λ (q : WiredSystem). happened q (delay_after w d s) steps) (step w s)) [])

abbrev pub delay : WiredSystem → Delay → List Step → Delay
delay w d [] = d
delay w d (s ∷ steps) = unwrap_or (option_map (λ (q : WiredSystem). delay q (delay_after w d s) steps) (step w s)) d

-- The law

-- an end with its wire, as `readiness` has it
abbrev pub way : WiredSystem → Side → Registered → Way
way w side r = record {
  socket = r.socket;
  queued = has (End r.token) w.system.kernel.queue;
  taken = unwrap_or (option_map (λ (p : Polling). if has (End r.token) p.left then p.reading (End r.token) ∷ [] else []) w.poll) [];
  told = (w.wires side).told;
  reads = (w.wires side).reads;
}

-- the threads with other sockets, another queue and another batch
abbrev pub seen_as : System → List (Option Registered) → List Name → List Name → System
seen_as st ends queue batch = record st { kernel = record st.kernel { ends = ends; queue = queue }; batch = batch }

-- the batch there: a poll in progress may be handed over early
abbrev pub batch_there : Option Polling → Bool → List Name → List Name
batch_there (Some p) true batch = p.names.items
batch_there poll early batch = batch

-- a poll in progress took a report of this name, and was not handed over there yet
abbrev pub in_poll : Bool → Option Polling → Name → Bool
in_poll false (Some p) n = has n p.names.items
in_poll early poll n = false

-- An end, of which this is late: what is late is reported. Nothing is missed
pub record EndHolds (w : WiredSystem) (side : Side) (late : List Change) (r : Registered) : Type 0 where
  pub coming : late ≢ [] → WillBeTold (way w side r)
  pub nothing_missed : MissesNothing (way w side r)

-- What happens there (`own`) is a run of `System`, so of the machine, of which the headline holds. It leads to the threads as
-- they are, but for queue, batch and sockets; once what is late has come, the sockets are the same too. A name that is queued
-- there is queued here, or in the poll in progress. By `happened` a reader works out that acts, calls with their replies, the
-- exchanges of the slot's word, and the bytes, ends and errors at each end are the same, in order, and that the last of these
-- may still be late
pub record ComeLate (l : Limits) (own : List alone.Step) (w : WiredSystem) (d : Delay) : Type 0 where
  pub seen : System
  pub leads : alone.run (alone.start l) own ≡ Some seen
  pub run : IsARun l own seen
  pub same : seen ≡ seen_as w.system seen.kernel.ends seen.kernel.queue (batch_there w.poll d.early w.system.batch)
  pub settled : System
  pub comes : alone.run seen (comes d.late (Client ∷ Target ∷ [])) ≡ Some settled
  pub sockets : settled.kernel.ends ≡ w.system.kernel.ends
  pub queue : (n : Name) → has n seen.kernel.queue ≡ true → (has n w.system.kernel.queue || in_poll d.early w.poll n) ≡ true
  pub ends : (side : Side) (r : Registered) → end_here w.system side ≡ Some r → EndHolds w side (d.late side) r

abbrev pub WiresComeLate : Type 0
WiresComeLate = (l : Limits) (steps : List Step) (w : WiredSystem) → l.slots ≡ 1 → run (start l) steps ≡ Some w
    → ComeLate l (happened (start l) none_late steps) w (delay (start l) none_late steps)
