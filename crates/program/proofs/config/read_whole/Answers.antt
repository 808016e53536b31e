use Rattle.std.proofs.Common.{arith}
use Rattle.program.proofs.Files.{short_front_of, long_front_of}
use Rattle.program.proofs.config.read_whole.Goals as goal

pub returns-in-Ok-2-clause-whole : goal.returns-in-Ok-2-clause-whole
returns-in-Ok-2-clause-whole g c =
    short_front_of 65537 c.in-Ok.text.items _ (omega (arith, c.in-Ok.text.ok, c.if-len-gt-MAX_CONFIG_BYTES.false, c.len.ensures)) c.in-Ok.ensures.text

pub returns-in-Ok-clause-fault : goal.returns-in-Ok-clause-fault
returns-in-Ok-clause-fault g c =
    long_front_of 65536 c.in-Ok.text.items _ (omega (arith, c.in-Ok.text.ok, c.if-len-gt-MAX_CONFIG_BYTES.true, c.len.ensures)) c.in-Ok.ensures.text
