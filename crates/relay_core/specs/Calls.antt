-- The calls that the relay makes on a connection's two sockets.
use Rattle.std.specs.Prelude.{ℕ, List, codes}
use Rattle.token.specs.{declared.{side.Side.Side, direction.Direction.Direction}, Sides.{inward, outward}}
use Rattle.relay_core.specs.declared.call.{Call.{Call, TheVariants.{Write, Join, Shut, Read}}, CallKind.{CallKind, TheVariants.{Write as WriteKind, Join as JoinKind, Shut as ShutKind, Read as ReadKind}}}

-- the side on whose socket a call is made
abbrev pub side_of : Call → Side
side_of (Write side) = side
side_of (Join side) = side
side_of (Shut side) = side
side_of (Read side most) = side

abbrev pub kind_of : Call → CallKind
kind_of (Write side) = WriteKind
kind_of (Join side) = JoinKind
kind_of (Shut side) = ShutKind
kind_of (Read side most) = ReadKind

abbrev pub call_name : CallKind → List ℕ
call_name WriteKind = codes "write"
call_name JoinKind = codes "join"
call_name ShutKind = codes "shut"
call_name ReadKind = codes "read"

-- a read serves the direction from its side, any other call the direction to its side
abbrev pub direction_of : Call → Direction
direction_of (Write side) = inward side
direction_of (Join side) = inward side
direction_of (Shut side) = inward side
direction_of (Read side most) = outward side
