-- What errors of read(2), write(2), connect(2) and shutdown(2) mean, and what a wire counts.
use Rattle.std.specs.{Prelude.{Bool, true, false, not, ◌&&◌, if◌then◌else◌, ℕ, ◌+◌, ◌%◌, ◌^◌}, declared.io.ErrorKind.{ErrorKind, TheVariants.{ConnectionReset, BrokenPipe, ConnectionAborted, ConnectionRefused, NotConnected, TimedOut, WouldBlock, Interrupted, Other}}}
use Rattle.relay_core.specs.{declared.{Kind.Kind, call.{Call.Call, CallKind.{CallKind, TheVariants.Shut}}}, Calls.kind_of}
use Rattle.engine.specs.declared.class.Class.{Class}
use Rattle.relay_core.specs.declared.Kind.TheVariants as kind
use Rattle.engine.specs.declared.class.Class.TheVariants as class

abbrev pub kind_of_error : ErrorKind → Kind
kind_of_error ConnectionReset = kind.Reset
kind_of_error BrokenPipe = kind.Pipe
kind_of_error ConnectionAborted = kind.Aborted
kind_of_error ConnectionRefused = kind.Refused
kind_of_error NotConnected = kind.NotConnected
kind_of_error TimedOut = kind.TimedOut
kind_of_error error = kind.Other

-- the kind that an error can show: Other for Zero, which no error means
abbrev pub kind_told : Kind → Kind
kind_told kind.Zero = kind.Other
kind_told kind = kind

abbrev pub is_interrupted : ErrorKind → Bool
is_interrupted Interrupted = true
is_interrupted error = false

-- the call would have to wait: EAGAIN, or ENOTCONN on a socket that is not known to be connected
abbrev pub would_wait : Bool → ErrorKind → Bool
would_wait joined WouldBlock = true
would_wait joined NotConnected = not joined
would_wait joined error = false

-- every call but a shutdown may have to wait
abbrev pub may_wait : CallKind → Bool
may_wait Shut = false
may_wait call = true

-- the class of a call's error; `joined` says whether the socket is known to be connected
abbrev pub class_by : CallKind → Bool → ErrorKind → Class
class_by call joined error =
    if is_interrupted error then class.Interrupted
    else if may_wait call && would_wait joined error then class.Blocked
    else class.Failed (kind_of_error error)

-- what this error of this call means, if the socket is known to be connected or not
abbrev pub class_of : Call → Bool → ErrorKind → Class
class_of call = class_by (kind_of call)

-- the kind under which a pending error is reported: with it every call fails
abbrev pub pending_kind : ErrorKind → ErrorKind
pending_kind Interrupted = Other
pending_kind WouldBlock = Other
pending_kind NotConnected = Other
pending_kind error = error

pub record Tallied : Type 0 where
  pub joined : Bool
  pub faults : ℕ
  pub blocks : ℕ

abbrev pub tally : Bool → ℕ → ℕ → Tallied
tally joined faults blocks = record { joined = joined; faults = faults; blocks = blocks }

abbrev pub connected : Tallied → Tallied
connected t = record t { joined = true }

abbrev pub fault_more : Tallied → Tallied
fault_more t = record t { faults = (t.faults + 1) % 2 ^ 64 }

abbrev pub block_more : Tallied → Tallied
block_more t = record t { blocks = (t.blocks + 1) % 2 ^ 64 }

abbrev pub counted : Class → Tallied → Tallied
counted class.Interrupted t = t
counted class.Blocked t = block_more t
counted (class.Failed kind) t = fault_more t
