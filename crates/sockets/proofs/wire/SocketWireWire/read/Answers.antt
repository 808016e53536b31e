use Rattle.std.proofs.Common.{rules}
use Rattle.sockets.proofs.Lifting.{unlifted}
use Rattle.sockets.proofs.wire.SocketWireWire.read.Goals as goal

pub returns-then-not-looks-clause-did : goal.returns-then-not-looks-clause-did
returns-then-not-looks-clause-did g c =
    (search rules, (c.looks.new.self.stream, search rules, unlifted _ _ _ _ _ _ (search rules) (search rules)))
