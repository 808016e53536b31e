use Rattle.sockets.proofs.poll.SocketsFront.poll.Goals as goal

pub returns-clause-once : goal.returns-clause-once
returns-clause-once g c =
    let same = c.count.ensures.same in
    rw (← c.self.view_is) (_, _, c.wait.ensures.asked, rw same c.put_numbers.ensures.passed_on, rw same)
