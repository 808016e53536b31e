use Rattle.std.proofs.Common.{sym}
use Rattle.readiness.proofs.Words.{found}
use Rattle.readiness.proofs.reports.Reports.word.Goals as goal

pub returns-in-Client-clause-some : goal.returns-in-Client-clause-some
returns-in-Client-clause-some g c =
    let is = (found c.deref.result.now c.args.self.now c.args.slot c.in_ok-ends.ends.now (cc) (search) c.in_ok-ends.ensures.lookup.0 c.in_ok-ends.ensures.lookup.1).0 in
    rw c.in-Client.is (rw (sym c.ends.view_is) at is)

pub returns-in-Target-clause-some : goal.returns-in-Target-clause-some
returns-in-Target-clause-some g c =
    let is = (found c.deref.result.now c.args.self.now c.args.slot c.in_ok-ends.ends.now (cc) (search) c.in_ok-ends.ensures.lookup.0 c.in_ok-ends.ensures.lookup.1).1 in
    rw c.in-Target.is (rw (sym c.ends.view_is) at is)
