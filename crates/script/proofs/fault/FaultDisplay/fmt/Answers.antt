use Rattle.script.proofs.fault.FaultDisplay.fmt.Goals as goal

pub returns-in-NotAllowed-clause-writes : goal.returns-in-NotAllowed-clause-writes
returns-in-NotAllowed-clause-writes g c = rw c.in-NotAllowed.is c.write-in-NotAllowed.ensures.writes
