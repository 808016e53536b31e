use Rattle.std.proofs.Common.{None, arith}
use Rattle.input.proofs.Loops.{more_read, filled, ended, taken_more, taken_last, taken_some}
use Rattle.input.proofs.reading.read_at_most.Goals as goal

pub returns-then-len-most-clause-text : goal.returns-then-len-most-clause-text
returns-then-len-most-clause-text g c = filled _ _ _ None _ _ c.loop-reads.invariant (omega arith)

pub returns-in-Err-clause-taken : goal.returns-in-Err-clause-taken
returns-in-Err-clause-taken g c = taken_last _ _ _ _ _ _ c.loop-reads.invariant c.in-Err.ensures.stops

pub returns-in-Err-clause-memory : goal.returns-in-Err-clause-memory
returns-in-Err-clause-memory g c = λ is. taken_some _ _ _ _ _ _ c.loop-reads.invariant (c.in-Err.ensures.memory is)

pub returns-then-count-eq0-clause-text : goal.returns-then-count-eq0-clause-text
returns-then-count-eq0-clause-text g c = ended _ _ _ _ _ _ c.loop-reads.invariant _ _ c.in-Ok.ensures.reads (omega arith) c.if-count-eq0.true (omega arith)

pub returns-then-count-eq0-clause-taken : goal.returns-then-count-eq0-clause-taken
returns-then-count-eq0-clause-taken g c = taken_more _ _ _ _ _ _ c.loop-reads.invariant _ _ c.in-Ok.ensures.reads (omega arith)

pub loop-reads-preserved : goal.loop-reads-preserved
loop-reads-preserved g c = more_read _ _ _ _ _ _ c.loop-reads.invariant _ _ c.in-Ok.ensures.reads (omega arith) c.if-count-eq0.false

pub returns-clause-text : goal.returns-clause-text
returns-clause-text g c = filled _ _ _ None _ _ c.loop-reads.invariant (omega arith)
