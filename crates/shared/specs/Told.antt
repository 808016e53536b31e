-- What a front shows, what the statistics count of a connection, what is logged of one that could not be opened, and
-- what the errors of accept(2) mean to the relay.
use Rattle.std.specs.{Prelude.{◌≡◌, ℕ, Bool, List}, declared.{io.ErrorKind.{ErrorKind, TheVariants.{Interrupted, ConnectionAborted, NetworkDown, NetworkUnreachable, HostUnreachable, WouldBlock}}, net.SocketAddr.SocketAddr}}
use Rattle.relay_core.specs.Pairs.{PairState, verdict}
use Rattle.statistics.specs.declared.event.Event.{Event, TheVariants.{Moved, Ended}}
use Rattle.sizes.specs.declared.cause.Cause.{Cause}
use Rattle.shared.specs.declared.front.{Waiting.{Waiting, TheVariants.{No, Brief, Long}}, Unaccepted.{Unaccepted, TheVariants.{Again, Blocked, Starved}}, Unopened.{Unopened, TheVariants.{Connect, Register}}}
use Rattle.sizes.specs.declared.cause.Cause.TheVariants as cause

-- what a front shows of its last wait for reports, whether it listens, and where it connects clients to
pub record Seen : Type 0 where
  -- what the last wait for reports gave
  pub reported : List ℕ
  -- whether that wait failed, and not by a signal
  pub failed : Bool
  -- for how many milliseconds it waited, if nothing ended it before
  pub waited : ℕ
  -- for how many milliseconds the front waits where it waits longest
  pub longest : ℕ
  -- whether the front still has a share of the listening socket
  pub listens : Bool
  -- the target's address
  pub target : SocketAddr

-- for how many milliseconds a front waits that never waits longer than this
abbrev pub millis_of : Waiting → ℕ → ℕ
millis_of No longest = 0
millis_of Brief longest = 1
millis_of Long longest = longest

-- a wait for reports was as long as was asked for, and changed no more than it shows
abbrev pub Waited : Waiting → Seen → Seen → Type 0
Waited wait old new =
    new ≡ record old { reported = new.reported; failed = new.failed; waited = millis_of wait old.longest }

-- a turn has left a connection open: the bytes that writes took, each way
abbrev pub moved_by : PairState → Event
moved_by p = Moved p.sent_up p.sent_down

-- a connection has ended: its verdict, and these bytes
abbrev pub ended_by : PairState → Event
ended_by p = Ended (verdict p) p.sent_up p.sent_down

-- a connection could not be opened: the cause that is logged
abbrev pub cause_of : Unopened → Cause
cause_of Connect = cause.Connect
cause_of Register = cause.Register

-- After a signal, a connection that was given up, or an error that the new socket had pending, the next connection may
-- be accepted at once. EAGAIN says that none waits. Anything else counts as a lack of descriptors or memory
abbrev pub unaccepted_of : ErrorKind → Unaccepted
unaccepted_of Interrupted = Again
unaccepted_of ConnectionAborted = Again
unaccepted_of NetworkDown = Again
unaccepted_of NetworkUnreachable = Again
unaccepted_of HostUnreachable = Again
unaccepted_of WouldBlock = Blocked
unaccepted_of error = Starved
