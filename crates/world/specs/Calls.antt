-- A connection's next call, made on the kernel, and its reply.
use Rattle.std.specs.Prelude.{ℕ, Bool, if◌then◌else◌, List, Option, Some, None, option_map, option_and_then}
use Rattle.token.specs.declared.side.Side.{Side, TheVariants.{Client, Target}}
use Rattle.kernel_model.specs.{declared.{reply.Reply.Reply, both.Descriptors.Descriptors}, Replies.bytes_read, Kernel.{KernelState, Registered, end_at, read, write, join, shut}}
use Rattle.relay_core.specs.{declared.call.Call.{Call, TheVariants.{Write, Join, Shut, Read}}, Order.{next_call, offer}, Replies.{fits, after}}
use Rattle.world.specs.declared.connection.Connection.{Connection}
use Rattle.kernel_model.specs.declared.reply.Reply.TheVariants as reply
use Rattle.relay_core.specs.Replies as answer

-- the value, if the test passes
abbrev pub when : {X : Type 0} → Bool → Option X → Option X
when allowed o = if allowed then o else None

pub record OpenConnection : Type 0 where
  pub kernel : KernelState
  pub connection : Connection

abbrev pub descriptor : Descriptors → Side → ℕ
descriptor ends Client = ends.client
descriptor ends Target = ends.target

-- the answer that the pair gets for a reply that brings no bytes
abbrev pub plain : Reply → Option answer.AnswerValue
plain (reply.Bytes n) = None
plain reply.End = Some answer.End
plain (reply.Wrote n full) = Some (answer.Wrote n)
plain reply.Joined = Some answer.Joined
plain reply.Shut = Some answer.Shut
plain reply.Blocked = Some answer.Blocked
plain reply.Interrupted = Some answer.Interrupted
plain (reply.Failed kind) = Some (answer.Failed kind)

-- the answer that the pair gets for a reply: of a read, with the bytes
abbrev pub told_of : OpenConnection → Call → Reply → Option answer.AnswerValue
told_of l (Read side most) (reply.Bytes n) =
    option_map (λ (bytes : List ℕ). answer.Bytes bytes)
    (option_and_then (λ (r : Registered). bytes_read r.socket most n) (end_at l.kernel.ends (descriptor l.connection.ends side)))
told_of l call r = plain r

-- the kernel after the call, if it may reply so
abbrev pub made : OpenConnection → Call → Reply → Option KernelState
made l (Read side most) r = read l.kernel (descriptor l.connection.ends side) most r
made l (Write side) r = write l.kernel (descriptor l.connection.ends side) (offer l.connection.pair side) r
made l (Join side) r = join l.kernel (descriptor l.connection.ends side) r
made l (Shut side) r = shut l.kernel (descriptor l.connection.ends side) r

-- one call with its reply at the second `now`: the kernel may reply so, and the pair takes it in
abbrev pub replied : ℕ → OpenConnection → Call → Reply → Option OpenConnection
replied now l call r = option_and_then
    (λ (t : answer.AnswerValue). when (fits l.connection.pair call t)
    (option_map
    (λ (k : KernelState). record { kernel = k; connection = record l.connection { pair = after now l.connection.pair call t } })
    (made l call r)))
    (told_of l call r)

-- the connection's next call with its reply; None if there is no next call
unfoldable pub called : ℕ → OpenConnection → Reply → Option OpenConnection
called now l r = option_and_then (λ (call : Call). replied now l call r) (next_call l.connection.pair)
