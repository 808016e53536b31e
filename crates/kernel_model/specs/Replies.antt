-- Which replies an end may give to each call, and the end after the call. None for a reply that the end may not give.
-- Interrupted and a failure leave the end as it is. Only a write can fail by taking 0 bytes.
use Rattle.std.specs.Prelude.{ℕ, Bool, true, false, not, ◌&&◌, nat_lt, nat_le, List, ◌++◌, length, take, drop, Option, Some, None}
use Rattle.token.specs.declared.kind.Kind.{Kind, TheVariants.Zero}
use Rattle.kernel_model.specs.{declared.reply.Reply.{Reply, TheVariants.{Bytes, End, Wrote, Joined, Shut, Blocked, Interrupted, Failed}}, Outcome.guard, Ends.{EndState, is_nonempty, is_readable, is_writable}}

abbrev pub is_zero : Kind → Bool
is_zero Zero = true
is_zero _ = false

abbrev pub is_count : ℕ → ℕ → Bool
is_count n most = nat_lt 0 n && nat_le n most

-- the bytes that a read of at most `most` gives if it answers with n bytes
abbrev pub bytes_read : EndState → ℕ → ℕ → Option (List ℕ)
bytes_read e most n = guard (is_count n most && nat_le n (length e.unread)) (take n e.unread)

-- a failure that is not a write of 0 bytes
abbrev pub failed : EndState → Kind → Option EndState
failed e kind = guard (not (is_zero kind)) e

-- a write, or a question whether the connect has ended, would block: the next room must be reported
abbrev pub blocked_write : EndState → Option EndState
blocked_write e = guard (not (is_writable e)) (record e { write_armed = true })

-- no room is left if the write filled it
abbrev pub wrote : EndState → List ℕ → ℕ → Bool → Option EndState
wrote e offer n full = guard (e.room && is_count n (length offer)) (record e { taken = e.taken ++ take n offer; room = not full })

-- read(2)
abbrev pub after_read : EndState → ℕ → Reply → Option EndState
after_read e most (Bytes n) = guard (is_count n most && nat_le n (length e.unread)) (record e { unread = drop n e.unread })
after_read e most End = guard (not (is_nonempty e.unread) && e.fin) e
after_read e most Blocked = guard (not (is_readable e)) (record e { read_armed = true })
after_read e most Interrupted = Some e
after_read e most (Failed kind) = failed e kind
after_read e most _ = None

-- write(2)
abbrev pub after_write : EndState → List ℕ → Reply → Option EndState
after_write e offer (Wrote n full) = wrote e offer n full
after_write e offer Blocked = blocked_write e
after_write e offer Interrupted = Some e
after_write e offer (Failed kind) = Some e
after_write e offer _ = None

-- the replies for which a call needs memory: the write takes bytes
abbrev pub needs_memory : Reply → Bool
needs_memory (Wrote n full) = true
needs_memory _ = false

-- the question whether the connect has ended (connect(2))
abbrev pub after_join : EndState → Reply → Option EndState
after_join e Joined = guard e.room e
after_join e Blocked = blocked_write e
after_join e Interrupted = Some e
after_join e (Failed kind) = failed e kind
after_join e _ = None

-- shutdown(2) with SHUT_WR, which never blocks
abbrev pub after_shut : EndState → Reply → Option EndState
after_shut e Shut = Some (record e { shut = true })
after_shut e Interrupted = Some e
after_shut e (Failed kind) = failed e kind
after_shut e _ = None
