-- Where a server listens, and what is reported.
use Rattle.std.specs.{Prelude.{◌≡◌, ◌≢◌, ◌⊎◌, ℕ, pos, ◌*◌, max, min, Bool, true, false, ◌||◌, if◌then◌else◌, List, [], ◌∷◌, map, OnOk, IsTrue, ◌↔◌, Option, Some, None, Result, Ok, Err}, IoError.{error_kind, raw_os_error}, declared.{io.{Error.Error, ErrorKind.TheVariants.Interrupted}, net.{SocketAddr.{SocketAddr, TheVariants.{V4, V6}}, SocketAddrV4.SocketAddrV4}}, Result.result_ok, Net.{Addr.{IsV4And, ipv4_octets}, Socket.{socket_ip, v4_ip, v4_port, IsPlainSocket}}}
use Rattle.token.specs.{Names.EndName, Numbers.name_of, declared.name.Name.{Name, TheVariants.{Listener, Waker, End}}}
use Rattle.readiness.specs.Words.{WordName, end_word}
use Rattle.settings.specs.Addresses.{SocketAddress}
use Rattle.shared.specs.{Told.Seen, declared.front.{Waiting.Waiting, Route.Route}}
use Rattle.sockets.specs.{declared.forwarding.Forwarding.Forwarding, Sockets.{StreamMade, NamedHere}}
use Rattle.mio.specs.{declared.event.event.Event.Event, Event.{event_token, is_readable, is_error, is_read_closed, is_write_closed}}
use Rattle.shared.specs.declared.front.Waiting.TheVariants as waiting

-- the numbers of what is reported, in the order of the reports
abbrev pub numbers : List Event → List ℕ
numbers events = map (λ (event : Event). (event_token event).0) events

-- an event names reading: there is something to read, or the socket has failed, or the peer has closed it (epoll_ctl(2))
abbrev pub names_reading : Event → Bool
names_reading event = is_readable event || (is_error event || (is_read_closed event || is_write_closed event))

-- the end that a name names, if it names one
abbrev pub end_in : Option Name → Option EndName
end_in (Some (End end)) = Some end
end_in (Some Listener) = None
end_in (Some Waker) = None
end_in None = None

-- the word of an end, if its slot is one of this many
abbrev pub word_for : ℕ → Option EndName → Option WordName
word_for slots (Some end) = end_word slots end.slot end.side
word_for slots None = None

-- the word that an event sets, if it names reading: the word of the end that its number names
abbrev pub heard_of : ℕ → Event → Option WordName
heard_of slots event = if names_reading event then word_for slots (end_in (name_of (event_token event).0)) else None

-- a wait for reports failed, and not by a signal (epoll_wait(2))
abbrev pub WaitFails : Result (Unit {0}) Error → Type 0
WaitFails (Ok done) = ⊥
WaitFails (Err error) = error_kind error ≢ Interrupted

-- A step of what reports on sockets: a wait of this many milliseconds, if nothing ended it before, which gave these events; or
-- an event was passed on at the word that it sets, if any
pub data Step : Type 0 where
  Gave : ℕ → List Event → Step
  PassedOn : Event → Step

-- Only the system knows what a wait changes. So this holds for any such relation
module _ {P : Type 0} (did : Step → P → P → Type 0) where
  -- these events were passed on, each once, in order, and nothing else was done
  abbrev pub ArePassedOn : List Event → P → P → Type 0
  ArePassedOn [] from to = to ≡ from
  ArePassedOn (event ∷ events) from to = (next : P) × did (PassedOn event) from next × ArePassedOn events next to

  -- a poll: one wait of this many milliseconds, and all that it gave was passed on. These are the numbers of that
  abbrev pub Polls : ℕ → List ℕ → P → P → Type 0
  Polls millis reported from to = (events : List Event) × (waited : P) × did (Gave millis events) from waited
      × ArePassedOn events waited to × (reported ≡ numbers events)

-- A front: what reports on its sockets, how its connections are forwarded, what it shows, how many times in a row it has left a
-- client to other pollers, and how many more times it answers as if accept(2) lacked memory
pub record Watched (P : Type 0) : Type 0 where
  pub poll : P
  pub forwarding : Forwarding
  pub seen : Seen
  pub left : ℕ
  pub lacking : ℕ

-- the longest wait for reports of each of this many pollers, in milliseconds: together they wake at most 10 times a
-- second by themselves
abbrev pub longest_of : ℕ → ℕ
longest_of pollers = 100 * max (min pollers 16) 2

-- a front as it begins, one of this many
abbrev pub IsFreshFront : {P : Type 0} → Forwarding → ℕ → Watched P → Type 0
IsFreshFront forwarding pollers front = front ≡ record {
  poll = front.poll;
  forwarding = forwarding;
  seen = record { reported = []; failed = false; waited = 0; longest = longest_of pollers; listens = true; target = forwarding.target };
  left = 0;
  lacking = 0;
}

-- how many times in a row a front leaves a client at most
abbrev pub most_left : ℕ
most_left = 16

-- how many times a front answers as if accept(2) lacked memory at most, after an opening that lacked some
abbrev pub most_lacking : ℕ
most_lacking = 16

-- the system or the process has no descriptor left (ENFILE, EMFILE), by the numbers of errno(3)
abbrev pub LacksDescriptors : Error → Type 0
LacksDescriptors error = (raw_os_error error ≡ Some (pos 23)) ⊎ (raw_os_error error ≡ Some (pos 24))

-- The system lacks memory for a socket (ENOMEM, ENOBUFS), or the user's sockets have their part of it (ENOSPC of
-- epoll_ctl(2)). The numbers are those of errno(3)
abbrev pub LacksMemory : Error → Type 0
LacksMemory error =
    (raw_os_error error ≡ Some (pos 12)) ⊎ ((raw_os_error error ≡ Some (pos 105)) ⊎ (raw_os_error error ≡ Some (pos 28)))

-- an opening changes at most this of a front: it may have lacked memory
abbrev pub OnlyLacked : {P : Type 0} → Watched P → Watched P → Type 0
OnlyLacked old new =
    (new ≡ record old { lacking = new.lacking }) × ((new.lacking ≡ old.lacking) ⊎ (new.lacking ≡ most_lacking))

-- What a wait for reports says of this front, beside what it says of any. After a brief wait without a report the front
-- leaves no client, and after a long one it no longer lacks memory
pub record WaitEnded {P : Type 0} (wait : Waiting) (answer : Result (Unit {0}) Error) (old new : Watched P) : Type 0 where
  pub fails : IsTrue new.seen.failed ↔ WaitFails answer
  pub quiet : OnOk answer (wait ≡ waiting.Brief → new.seen.reported ≡ [] → new.left ≡ most_left)
  pub kept : (new.left ≡ old.left) ⊎ ((wait ≡ waiting.Brief) × (new.seen.reported ≡ []))
  pub eased : OnOk answer (wait ≡ waiting.Long → new.seen.reported ≡ [] → new.lacking ≡ 0)
  pub lacks : (new.lacking ≡ old.lacking) ⊎ ((wait ≡ waiting.Long) × (new.seen.reported ≡ []))
  pub same : new ≡ record old { poll = new.poll; seen = new.seen; left = new.left; lacking = new.lacking }

-- a socket that listens: the address that the system was asked for, and the one that it gave
pub record Listens (L : Type 0) : Type 0 where
  pub listener : L
  pub asked : SocketAddr
  pub address : SocketAddr

-- it is this IPv4 address and port
abbrev pub IsAt : SocketAddress → SocketAddr → Type 0
IsAt (octets, port) address = IsV4And (socket_ip address) (λ ip. ipv4_octets ip ≡ octets) × IsPlainSocket address port

-- a socket that was passed to the program, and its address
pub record GivenSocket (L : Type 0) : Type 0 where
  pub listener : L
  pub address : SocketAddrV4

-- A passed socket is of TCP, is at this address, and listens; and its calls were made to return at once
pub data SocketFound : Type 0 where
  OfTcp : SocketFound
  At : SocketAddr → SocketFound
  Listened : SocketFound
  Prompt : SocketFound

-- a socket at this address is where one was asked for; port 0 asks for any
abbrev pub Agrees : SocketAddress → SocketAddrV4 → Type 0
Agrees listen address = (ipv4_octets (v4_ip address) ≡ listen.0) × ((listen.1 ≡ 0) ⊎ (v4_port address ≡ listen.1))

module _ {L : Type 0} where
  -- all of that was found of a passed socket, and its address is of IPv4
  pub record AreAllFound (found : SocketFound → L → Type 0) (given : GivenSocket L) : Type 0 where
    pub of_tcp : found OfTcp given.listener
    pub here : found (At (V4 given.address)) given.listener
    pub listened : found Listened given.listener
    pub prompt : found Prompt given.listener

  -- this passed socket is what listens, where it was asked for
  pub record IsPassed (given : GivenSocket L) (listen : SocketAddress) (bound : Listens L) : Type 0 where
    pub listener : bound.listener ≡ given.listener
    pub address : bound.address ≡ V4 given.address
    pub agrees : Agrees listen given.address

-- an address, if it is known and of IPv4
abbrev pub v4_of : Option SocketAddr → Option SocketAddrV4
v4_of (Some (V4 address)) = Some address
v4_of (Some (V6 address)) = None
v4_of None = None

-- the address at a socket's own end, as the system says it
abbrev pub IsLocal : {S : Type 0} → (StreamMade → S → S → Type 0) → S → Option SocketAddrV4 → Type 0
IsLocal did socket address = (named : Result SocketAddr Error) × did (NamedHere named) socket socket × (address ≡ v4_of (result_ok named))

-- The addresses that a front gives of a client's connection: none unless targets are sent them, else the client's own.
-- Only the system knows the address on which the client was accepted
abbrev pub IsRoute : Bool → Option SocketAddr → Route → Type 0
IsRoute false peer route = route ≡ record { client = None; accepted = None }
IsRoute true peer route = route.client ≡ v4_of peer

-- the addresses that a front may give of a client with this address
abbrev pub MayTell : Option SocketAddr → Route → Type 0
MayTell peer route = (proxy : Bool) × IsRoute proxy peer route
