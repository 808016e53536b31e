-- The kernel of one process. It watches its sockets with edge triggering (epoll(7)): the open ends by descriptor, the
-- names that are queued for the next poll, and the listening socket.
use Rattle.std.specs.{Prelude.{ℕ, ◌+◌, ◌-◌, ◌==◌, Bool, true, false, not, ◌&&◌, ◌||◌, nat_lt, nat_le, if◌then◌else◌, List, [], ◌∷◌, ◌++◌, length, slice_get, slice_set, position, Option, Some, None, option_map, option_and_then, unwrap_or}, Option.{is_none, option_flatten}}
use Rattle.token.specs.{declared.name.Name.{Name, TheVariants.{Listener, Waker, End}}, Names.EndName}
use Rattle.kernel_model.specs.{declared.{watched.Watched.Watched, accepting.Accepting.{Accepting, TheVariants.{Accepted, Blocked, Again, Starved}}, reply.Reply.Reply, both.{Descriptors.Descriptors, Sockets.Sockets}}, Outcome.{guard, Told}, Ends.{EndState, opened, is_readable, is_writable, arrival, finish, failure, new_room}, Replies.{after_read, after_write, after_join, after_shut}, Names.{has, with_name, without_name, without_names, are_distinct, are_among}}
use Rattle.kernel_model.specs.declared.watched.Watched.TheVariants as watched

-- an end that is open, with the token under which it is registered
pub record Registered : Type 0 where
  pub token : EndName
  pub socket : EndState

-- `ends` has an entry for each descriptor from 0 on. `queue` has the names that the next poll may give. `backlog`
-- connections wait at the listener. If `armed`, the next one must be reported, since an accept answered blocked
pub record KernelState : Type 0 where
  pub ends : List (Option Registered)
  pub queue : List Name
  pub backlog : ℕ
  pub armed : Bool

-- nothing is open or queued, and nobody waits
abbrev pub idle : KernelState
idle = record { ends = []; queue = []; backlog = 0; armed = false }

-- the open end of a descriptor
abbrev pub end_at : List (Option Registered) → ℕ → Option Registered
end_at ends descriptor = option_flatten (slice_get ends descriptor)

-- the lowest descriptor that is not open (open(2))
abbrev pub lowest_free : List (Option Registered) → ℕ
lowest_free ends = unwrap_or (position is_none ends) (length ends)

abbrev pub with_end : List (Option Registered) → ℕ → Registered → List (Option Registered)
with_end ends descriptor r = if nat_lt descriptor (length ends) then slice_set ends descriptor (Some r) else ends ++ Some r ∷ []

-- an end is opened and registered under its token; the answer is its descriptor
abbrev pub open_end : KernelState → EndName → Told KernelState ℕ
open_end k token = record {
  value = record k { ends = with_end k.ends (lowest_free k.ends) (record { token = token; socket = opened token.side }) };
  told = lowest_free k.ends;
}

-- both ends of a connection are opened, the client's first
abbrev pub open_both : KernelState → EndName → EndName → Told KernelState Descriptors
open_both k client target = record {
  value = (open_end (open_end k client).value target).value;
  told = record { client = (open_end k client).told; target = (open_end (open_end k client).value target).told };
}

-- an end is closed (close(2)): its name leaves the queue, and the answer is the end as it was
abbrev pub close : KernelState → ℕ → Option (Told KernelState EndState)
close k descriptor = option_map
    (λ (r : Registered). record {
      value = record k { ends = slice_set k.ends descriptor None; queue = without_name (End r.token) k.queue };
      told = r.socket;
    })
    (end_at k.ends descriptor)

-- both ends of a connection are closed
abbrev pub close_both : KernelState → Descriptors → Option (Told KernelState Sockets)
close_both k ends = option_and_then
    (λ (one : Told KernelState EndState). option_map
    (λ (two : Told KernelState EndState). record { value = two.value; told = record { client = one.told; target = two.told } })
    (close one.value ends.target))
    (close k ends.client)

-- a call is allowed, and makes the queue longer
abbrev pub queues_more : KernelState → Option KernelState → Bool
queues_more k None = false
queues_more k (Some after) = nat_lt (length k.queue) (length after.queue)

abbrev pub reported : List Name → Name → Bool → List Name
reported queue name true = with_name name queue
reported queue name false = queue

-- a change of the network at an end, and its report
abbrev pub changed : KernelState → ℕ → (EndState → Option (Told EndState Bool)) → Option KernelState
changed k descriptor change = option_and_then
    (λ (r : Registered). option_map
    (λ (t : Told EndState Bool). record k {
      ends = slice_set k.ends descriptor (Some (record r { socket = t.value }));
      queue = reported k.queue (End r.token) t.told;
    })
    (change r.socket))
    (end_at k.ends descriptor)

abbrev pub arrive : KernelState → ℕ → List ℕ → Option KernelState
arrive k descriptor bytes = changed k descriptor (λ (e : EndState). arrival e bytes)

abbrev pub fin : KernelState → ℕ → Option KernelState
fin k descriptor = changed k descriptor finish

abbrev pub reset : KernelState → ℕ → Option KernelState
reset k descriptor = changed k descriptor failure

abbrev pub room : KernelState → ℕ → Option KernelState
room k descriptor = changed k descriptor new_room

-- a call on an end gets a reply
abbrev pub called : KernelState → ℕ → (EndState → Option EndState) → Option KernelState
called k descriptor call = option_and_then
    (λ (r : Registered). option_map
    (λ (e : EndState). record k { ends = slice_set k.ends descriptor (Some (record r { socket = e })) })
    (call r.socket))
    (end_at k.ends descriptor)

abbrev pub read : KernelState → ℕ → ℕ → Reply → Option KernelState
read k descriptor most reply = called k descriptor (λ (e : EndState). after_read e most reply)

abbrev pub write : KernelState → ℕ → List ℕ → Reply → Option KernelState
write k descriptor offer reply = called k descriptor (λ (e : EndState). after_write e offer reply)

abbrev pub join : KernelState → ℕ → Reply → Option KernelState
join k descriptor reply = called k descriptor (λ (e : EndState). after_join e reply)

abbrev pub shut : KernelState → ℕ → Reply → Option KernelState
shut k descriptor reply = called k descriptor (λ (e : EndState). after_shut e reply)

-- the name of what is watched; a descriptor that is not open has none
abbrev pub name_watched : KernelState → Watched → Option Name
name_watched k watched.Listener = Some Listener
name_watched k watched.Waker = Some Waker
name_watched k (watched.End descriptor) = option_map (λ (r : Registered). End r.token) (end_at k.ends descriptor)

abbrev pub is_quiet_end : Option Registered → Bool
is_quiet_end None = true
is_quiet_end (Some r) = not (is_readable r.socket || is_writable r.socket)

-- no call could do anything there now, so a report has no cause
abbrev pub is_quiet : KernelState → Watched → Bool
is_quiet k watched.Listener = k.backlog == 0
is_quiet k watched.Waker = true
is_quiet k (watched.End descriptor) = is_quiet_end (end_at k.ends descriptor)

-- a report comes without cause
abbrev pub spurious : KernelState → Watched → Option KernelState
spurious k who = option_map (λ (name : Name). record k { queue = with_name name k.queue }) (name_watched k who)

-- a report is withdrawn, which happens only while no call could do anything there
abbrev pub vanish : KernelState → Watched → Option KernelState
vanish k who = option_and_then
    (λ (name : Name). guard (has name k.queue && is_quiet k who) (record k { queue = without_name name k.queue }))
    (name_watched k who)

-- a poll hands over some of the queued names, in any order, 256 at most (epoll_wait(2))
abbrev pub poll : KernelState → List Name → Option KernelState
poll k names = guard (nat_le (length names) 256 && (are_among k.queue names && are_distinct names))
    (record k { queue = without_names names k.queue })

-- a client connects and waits at the listener, after at most 4,095 others (listen(2))
abbrev pub connect_in : KernelState → Option KernelState
connect_in k = guard (nat_lt k.backlog 4096)
    (record k { backlog = k.backlog + 1; queue = reported k.queue Listener k.armed; armed = false })

-- accept(2) takes a connection; or would block, and then the next connection must be reported; or is worth another try
-- at once; or lacks descriptors or memory
abbrev pub accept : KernelState → Accepting → Option KernelState
accept k Accepted = guard (nat_lt 0 k.backlog) (record k { backlog = k.backlog - 1 })
accept k Blocked = guard (k.backlog == 0) (record k { armed = true })
accept k Again = Some k
accept k Starved = Some k
