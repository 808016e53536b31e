use Rattle.std.proofs.Common.{rules, refl}
use Rattle.sockets.proofs.Lifting.{unlifted}
use Rattle.sockets.proofs.wire.SocketWireWire.shut_write.Goals as goal

pub returns-in_default-clause-did : goal.returns-in_default-clause-did
returns-in_default-clause-did g c =
    (search rules, (c.shut_write-answer.new.self, search rules, unlifted _ _ _ _ _ _ (search rules) refl))

pub returns-in-Err-clause-did : goal.returns-in-Err-clause-did
returns-in-Err-clause-did g c =
    (search rules, (c.shut_write-answer.new.self, search rules, unlifted _ _ _ _ _ _ (search rules) (search rules)))
