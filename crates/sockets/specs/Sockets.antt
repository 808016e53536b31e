-- What a wire over a socket knows of it, when it sends at once, what each call on it changes, and the system calls that
-- it makes.
use Rattle.std.specs.{Prelude.{◌≡◌, ◌≢◌, ℕ, ◌*◌, ◌==◌, Bool, true, false, if◌then◌else◌, length, Option, Some, None, Result, Ok, Err, ◌↔◌, ◌+◌, ◌<◌, ◌≤◌, min, IsTrue}, declared.{io.{Error.Error, ErrorKind.TheVariants.WouldBlock}, net.SocketAddr.SocketAddr}, IoError.error_kind, Result.result_ok}
use Rattle.token.specs.Names.{EndName}
use Rattle.readiness.specs.Words.{WordName}
use Rattle.relay_core.specs.declared.call.CallKind.{CallKind}
use Rattle.engine.specs.{Wires.{Asked, Read, Write, Join, Shut, Given, Brought, Took, Done, Refused, call_gave}, declared.class.Class.Class, Classes.{class_by, pending_kind, Tallied, tally, connected, counted, fault_more}}
use Rattle.sockets.specs.declared.forwarding.Patience.{Patience}
use Rattle.relay_core.specs.declared.call.CallKind.TheVariants as call
use Rattle.engine.specs.declared.class.Class.TheVariants as class

-- whether a socket sends at once (TCP_NODELAY of tcp(7)), or may wait for more to send along, and how many full offers
-- came in a row, up to four
pub record Sending : Type 0 where
  pub at_once : Bool
  pub full_offers : ℕ

-- as the system makes a socket
abbrev pub plain_sending : Sending
plain_sending = record { at_once = false; full_offers = 0 }

-- while a connection is quiet
abbrev pub prompt : Sending
prompt = record { at_once = true; full_offers = 0 }

-- this many bytes were offered to a socket: after four full offers in a row it may wait for more
pub record IsOffered (bytes : ℕ) (old new : Sending) : Type 0 where
  pub full : 16384 ≤ bytes → new.full_offers ≡ min (old.full_offers + 1) 4
  pub short : bytes < 16384 → new.full_offers ≡ 0
  pub at_once : IsTrue new.at_once ↔ (IsTrue old.at_once × (new.full_offers < 4))

-- what is known of a socket: the count of its answers, when it sends, whether the wire reads it or answers "would block" to
-- reads by itself, the address at its other end, the name under which it is reported, and how long it waits for its peer
pub record Socket : Type 0 where
  pub tally : Tallied
  pub sending : Sending
  pub reads : Bool
  pub peer : Option SocketAddr
  pub watched : Option EndName
  pub patience : Patience

pub record Wired (S : Type 0) : Type 0 where
  pub stream : S
  pub socket : Socket

-- no time was given (`unset`), or none for the connection to be made (`unlimited`)
abbrev pub unset : Patience
unset = record { connect = None; keepalive = None }

-- this patience, without the limit for connecting
abbrev pub unlimited : Patience → Patience
unlimited patience = record patience { connect = None }

-- a new socket, which is known to be connected or not
abbrev pub fresh_wire : Bool → Option SocketAddr → Socket
fresh_wire joined peer =
    record { tally = tally joined 0 0; sending = plain_sending; reads = true; peer = peer; watched = None; patience = unset }

abbrev pub promptly : Socket → Socket
promptly socket = record socket { sending = prompt }

-- this socket, reported under this name
abbrev pub under : EndName → Socket → Socket
under name socket = record socket { watched = Some name }

-- this socket, with this patience
abbrev pub patient : Patience → Socket → Socket
patient patience socket = record socket { patience = patience }

-- at most the name changed under which the socket is reported
abbrev pub SameButWatched : Socket → Socket → Type 0
SameButWatched old new = new ≡ record old { watched = new.watched }

abbrev pub call_of : Asked → CallKind
call_of (Read most) = call.Read
call_of (Write offer) = call.Write
call_of Join = call.Join
call_of Shut = call.Shut

-- bytes that the socket took show that it is connected. To take none of an offer that isn't empty is a fault
abbrev pub took : ℕ → ℕ → Tallied → Tallied
took count offered t = if count == 0 then (if offered == 0 then t else fault_more t) else connected t

-- bytes, the end of input or an address show that the socket is connected, and a shutdown shows nothing. An error is
-- counted by its class
abbrev pub tally_after : Asked → Given → Tallied → Tallied
tally_after asked (Refused kind) t = counted (class_by (call_of asked) t.joined kind) t
tally_after (Read most) (Brought bytes) t = connected t
tally_after (Write offer) (Took count) t = took count (length offer) t
tally_after Join Done t = connected t
tally_after asked given t = t

-- after an offer the socket may no longer send at once; no other call changes that
abbrev pub SendsAfter : Asked → Sending → Sending → Type 0
SendsAfter (Write offer) old new = IsOffered (length offer) old new
SendsAfter asked old new = new ≡ old

-- whether the wire reads the socket after an error: no more after a read that would block, again after any failure
abbrev pub reads_after_error : CallKind → Class → Bool → Bool
reads_after_error call class.Interrupted reads = reads
reads_after_error call (class.Failed kind) reads = true
reads_after_error call.Read class.Blocked reads = false
reads_after_error call class.Blocked reads = reads

-- whether it reads after a write: to take no byte of an offer that isn't empty is a failure
abbrev pub goes_on_after : ℕ → ℕ → Bool → Bool
goes_on_after count offered reads = if count == 0 then (if offered == 0 then reads else true) else reads

abbrev pub reads_after : Asked → Given → Bool → Bool → Bool
reads_after asked (Refused kind) joined reads = reads_after_error (call_of asked) (class_by (call_of asked) joined kind) reads
reads_after (Write offer) (Took count) joined reads = goes_on_after count (length offer) reads
reads_after asked given joined reads = reads

-- any call but a read changes by its answer alone whether the wire reads. A read may begin with a look (`Reads`)
abbrev pub ReadsAfter : Asked → Given → Socket → Socket → Type 0
ReadsAfter (Read most) given old new = Unit {0}
ReadsAfter asked given old new = new.reads ≡ reads_after asked given old.tally.joined old.reads

pub record SocketCalled (asked : Asked) (given : Given) (old new : Socket) : Type 0 where
  pub tally : new.tally ≡ tally_after asked given old.tally
  pub sending : SendsAfter asked old.sending new.sending
  pub reads : ReadsAfter asked given old new
  pub peer : new.peer ≡ old.peer
  pub watched : new.watched ≡ old.watched
  pub patience : new.patience ≡ old.patience

-- One system call on a socket, with its answer: read(2), write(2) or shutdown(2); SO_ERROR of socket(7); getpeername(2);
-- getsockname(2); TCP_NODELAY of tcp(7); TCP_USER_TIMEOUT, in milliseconds, where 0 is none; SO_KEEPALIVE of socket(7), after
-- this many seconds, by a call for each of its numbers; epoll_ctl(2), under this number and with this word. And a look, which
-- is no system call: whether a report that names reading came since the last look
pub data StreamMade : Type 0 where
  Called : Asked → Given → StreamMade
  Pending : Result (Option Error) Error → StreamMade
  Named : Result SocketAddr Error → StreamMade
  NamedHere : Result SocketAddr Error → StreamMade
  SentAtOnce : Bool → StreamMade
  GivesUpAfter : ℕ → StreamMade
  Probes : ℕ → StreamMade
  Registered : ℕ → Option WordName → StreamMade
  Looked : Bool → StreamMade

-- Only the system knows what a system call does to a socket of the type S. So what follows holds for any such relation
module _ {S : Type 0} (did : StreamMade → S → S → Type 0) where
  -- the socket option is set if it changes, and else left alone
  pub record Switches (was is : Bool) (before after : S) : Type 0 where
    pub on : was ≡ false → is ≡ true → did (SentAtOnce true) before after
    pub off : was ≡ true → is ≡ false → did (SentAtOnce false) before after
    pub kept : is ≡ was → after ≡ before

  -- a socket is given this many seconds to wait for its connection, or for a silent peer, or is left alone
  abbrev pub Limits : Option ℕ → S → S → Type 0
  Limits (Some seconds) before after = did (GivesUpAfter (seconds * 1000)) before after
  Limits None before after = after ≡ before

  abbrev pub Probing : Option ℕ → S → S → Type 0
  Probing (Some seconds) before after = did (Probes seconds) before after
  Probing None before after = after ≡ before

  abbrev pub Waits : Patience → S → S → Type 0
  Waits patience before after = (limited : S) × Limits patience.connect before limited
      × Probing patience.keepalive limited after

  -- a limit that the socket was given is lifted if the wire comes to know that it is connected, and else left alone
  pub record Lifts (limit : Option ℕ) (was is : Bool) (before after : S) : Type 0 where
    pub lifted : limit ≢ None → was ≡ false → is ≡ true → did (GivesUpAfter 0) before after
    pub unlimited : limit ≡ None → after ≡ before
    pub kept : is ≡ was → after ≡ before

  -- a pending error is a failure; without one, the question for the peer gives the answer
  abbrev pub JoinGives : Result (Option Error) Error → Given → S → Type 0
  JoinGives (Err error) given socket = given ≡ Refused (error_kind error)
  JoinGives (Ok (Some error)) given socket = given ≡ Refused (pending_kind (error_kind error))
  JoinGives (Ok None) given socket = (named : Result SocketAddr Error) × did (Named named) socket socket × (given ≡ call_gave named)

  -- the socket's own address, as the system says it
  abbrev pub HasAddress : S → Option SocketAddr → Type 0
  HasAddress socket address = (named : Result SocketAddr Error) × did (NamedHere named) socket socket × (address ≡ result_ok named)

  -- If the wire reads, a read is one system call, and gives its answer. Else the wire looks first: if there was a
  -- report of something to read, it reads from then on, and if not, it answers "would block" by itself
  pub record Reads (most : ℕ) (given : Given) (joined was is : Bool) (before after : S) : Type 0 where
    pub reads : Bool
    pub looked : S
    pub kept : was ≡ true → (reads ≡ true) × (looked ≡ before)
    pub look : was ≡ false → did (Looked reads) before looked
    pub made : reads ≡ true → did (Called (Read most) given) looked after
    pub unmade : reads ≡ false → (given ≡ Refused WouldBlock) × (after ≡ looked)
    pub goes_on : is ≡ reads_after (Read most) given joined reads

  -- a join asks for the pending error, and then for the peer
  abbrev pub Joins : Given → S → S → Type 0
  Joins given before after =
      (pending : Result (Option Error) Error) × did (Pending pending) before after × JoinGives pending given after

  -- the system calls that a call on the wire asks for: after a write the socket may start to wait
  abbrev pub Asks : Asked → Given → Socket → Socket → S → S → Type 0
  Asks (Read most) given old new before after = Reads most given old.tally.joined old.reads new.reads before after
  Asks (Write offer) given old new before after =
      (written : S) × did (Called (Write offer) given) before written × Switches old.sending.at_once new.sending.at_once written after
  Asks Join given old new before after = Joins given before after
  Asks Shut given old new before after = did (Called Shut given) before after

  -- all system calls of a call on the wire: after those that it asks for, the limit may be lifted
  abbrev pub Makes : Asked → Given → Socket → Socket → S → S → Type 0
  Makes asked given old new before after =
      (asked_for : S) × Asks asked given old new before asked_for
      × Lifts old.patience.connect old.tally.joined new.tally.joined asked_for after

  abbrev pub IsDone : Asked → Given → Wired S → Wired S → Type 0
  IsDone asked given old new =
      SocketCalled asked given old.socket new.socket × Makes asked given old.socket new.socket old.stream new.stream
