-- A whole server, left alone, comes to rest. What a server weighs is what each of its slots weighs (`Rest.antt`),
-- twice, since a step at a slot may leave a ticket in a hand; and what slots share.
use Rattle.std.specs.{Prelude.{◌≡◌, ℕ, ◌+◌, ◌*◌, ◌<◌, ◌≤◌, Bool, true, false, not, nat_lt, nat_le, List, length, Some}, List.list_all, Option.is_none}
use Rattle.claims.specs.Words.{one}
use Rattle.world.specs.{declared.limits.Limits.Limits, States.numbers_below, Support.total}
use Rattle.interleaving.specs.{Rest.{client_weight, is_settled, is_answered, post_weight}, Slots.{Server, Report, Listener, Waker, Of, Front, Ticket, Many, Step, Poll, Deliver, Accept, Drop, Open, Begin, Put, Acts, Calls, start, slot_of, run}}
use Rattle.interleaving.specs.Rest as alone

-- The server's own steps, as those of one slot; and that a ticket is put into the queue
abbrev pub is_own_of_server : Step → Bool
is_own_of_server (Poll p reports) = nat_lt 0 (length reports)
is_own_of_server (Deliver p) = true
is_own_of_server (Accept p reply) = is_settled reply
is_own_of_server (Drop p) = true
is_own_of_server (Open p s) = true
is_own_of_server (Begin i from most) = nat_le 4 most
is_own_of_server (Put i s) = true
is_own_of_server (Acts i) = true
is_own_of_server (Calls i r) = is_answered r
is_own_of_server x = false

-- the reports of the waker that a poll gives: of each may come a poll and a delivery that do nothing else
abbrev pub is_waker : Report → ℕ
is_waker Waker = 1
is_waker r = 0

abbrev pub wakes_in : Step → ℕ
wakes_in (Poll p reports) = total is_waker reports
wakes_in x = 0

-- an accepted client: its slot takes it as one that waits there, perhaps reported, and opens it
abbrev pub accepted_weight : Limits → ℕ
accepted_weight l = 2 * (client_weight l + (2 + post_weight))

-- A report in the batch is delivered, and one of the listener raises the accept flag. A slot weighs those of its ends
abbrev pub report_weight : Report → ℕ
report_weight Listener = 2
report_weight Waker = 1
report_weight (Of s name) = 0

-- the accept flag is up for one accept(2) that would block; a queued report of the listener is polled
abbrev pub front_weight : Limits → Front → ℕ
front_weight l f = one f.flag + (3 * one f.reported + (total report_weight f.batch + accepted_weight l * one f.accepted))

-- a ticket in a hand is put
abbrev pub hand_weight : Ticket → ℕ
hand_weight t = one (not (is_none t.hand))

-- what slots share: clients that wait, tickets in hands, and the pollers
abbrev pub shared_weight : Many → ℕ
shared_weight m = (1 + accepted_weight m.server.limits) * m.backlog + (total hand_weight m.tickets
    + total (λ p. front_weight m.server.limits (m.fronts p)) (numbers_below m.server.limits.workers))

abbrev pub slots_weight : Many → ℕ
slots_weight m = total (λ s. alone.weight (slot_of m s)) (numbers_below m.server.limits.slots)

abbrev pub server_weight : Many → ℕ
server_weight m = 2 * slots_weight m + shared_weight m

-- From any state to which steps lead, no more own steps can follow, in any order and by any threads, than the server
-- weighs, and two for each report of the waker
abbrev pub LeftAloneServersEnd : Type 0
LeftAloneServersEnd =
    (server : Server) (before own : List Step) (m next : Many) → ((s : ℕ) → server.owner s < server.limits.workers)
    → run (start server) before ≡ Some m → list_all is_own_of_server own ≡ true → run m own ≡ Some next
    → length own + server_weight next ≤ server_weight m + 2 * total wakes_in own
