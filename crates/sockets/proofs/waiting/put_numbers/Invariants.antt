use Rattle.std.proofs.Common.{◌≡◌, ◌+◌, ◌++◌, take, vec_len, vec_capacity}
use Rattle.sockets.specs.Fronts.{numbers, ArePassedOn}
use Rattle.sockets.proofs.waiting.put_numbers.Given as goal

-- the events so far were passed on, and have their numbers after what the batch had
abbrev pub invariant-loop-event : goal.invariant-loop-event
invariant-loop-event g l =
    ArePassedOn g.P.Reporter.did (take l.event-index l.event-items) l.fn.poll l.poll
    × (l.batch.items ≡ l.fn.batch.items ++ numbers (take l.event-index l.event-items))
    × (vec_len l.batch ≡ vec_len l.fn.batch + l.event-index)
    × (vec_capacity l.batch ≡ vec_capacity l.fn.batch)
