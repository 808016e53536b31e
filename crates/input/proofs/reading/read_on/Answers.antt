use Rattle.std.proofs.{Common.{sym, take, arith}, lemmas.Grind.common_steps}
use Rattle.input.proofs.reading.read_on.Goals as goal

pub returns-in-Ok-extend_from_slice-clause-reads : goal.returns-in-Ok-extend_from_slice-clause-reads
returns-in-Ok-extend_from_slice-clause-reads g c = record {
  bytes = take c.in-Ok.count c.read.new.buf;
  consumed = c.in-Ok.ensures.bytes.0;
  appended = grind (arith, common_steps);
  count = sym c.in-Ok.ensures.bound.1;
  at_end = grind (arith, common_steps);
}
