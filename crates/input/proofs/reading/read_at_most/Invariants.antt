use Rattle.input.proofs.Loops.{Reads}
use Rattle.input.proofs.reading.read_at_most.Given as goal

abbrev pub invariant-loop-reads : goal.invariant-loop-reads
invariant-loop-reads g l = Reads l.most (g.R.Read.remaining l.initial.reader) (g.R.Read.remaining l.reader) l.text.items l._reads
