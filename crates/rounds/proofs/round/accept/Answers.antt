use Rattle.std.proofs.Common.{◌∙◌, inl, inr, refl, sym, arith}
use Rattle.rounds.proofs.Rounds.{accept_and_took, accept_both, accept_took, done_of, answered_both, answered_none, between_still, by_err, room_same}
use Rattle.rounds.proofs.round.accept.Goals as goal

pub loop-try-init : goal.loop-try-init
loop-try-init g c =
    let full = c.log_if_full.ensures in
    record {
      between = between_still c.requires.between full.took.seat (rw (c.reset_tries.ensures, full.poller));
      room = omega (arith, room_same full.took);
      tries = rw c.reset_tries.ensures;
      done = done_of (accept_took (rw (c.reset_tries.ensures, full.poller) assumption) full.took);
      still = λ _. full.took.seat;
      answered = answered_none (rw (c.reset_tries.ensures, full.poller)) (inl (rw (c.reset_tries.ensures, full.poller)));
    }

pub accept_next-requires-clause-between : goal.accept_next-requires-clause-between
accept_next-requires-clause-between g c = between_still c.loop-try.invariant.between c.may_accept.ensures.took.seat refl

pub accept_next-requires-clause-room : goal.accept_next-requires-clause-room
accept_next-requires-clause-room g c = omega (arith, c.loop-try.invariant.room, room_same c.may_accept.ensures.took, c.loop-try-test.true)

pub returns-then-is_err : goal.returns-then-is_err
returns-then-is_err g c =
    let before = c.loop-try.invariant in
    let took = c.may_accept.ensures.took in
    record {
      between = between_still before.between took.seat refl;
      done = accept_and_took before.done took;
      ended = inl (inr (by_err _ c.may_accept.ensures.ended (sym c.is_err.ensures.value ∙ c.if-is_err.true)));
      still = λ is. took.seat ∙ before.still is;
      answered = before.answered;
    }

pub returns-then-not-accept_next : goal.returns-then-not-accept_next
returns-then-not-accept_next g c =
    let before = c.loop-try.invariant in
    let took = c.may_accept.ensures.took in
    let tried = c.accept_next.ensures in
    record {
      between = tried.between;
      done = accept_both (accept_and_took before.done took) tried.done;
      ended = tried.ended c.if-not-accept_next.true;
      still = λ is. tried.still (rw (took.seat, before.still is) is) ∙ took.seat ∙ before.still is;
      answered = answered_both before.answered tried.answered;
    }

pub loop-try-preserved : goal.loop-try-preserved
loop-try-preserved g c =
    let before = c.loop-try.invariant in
    let took = c.may_accept.ensures.took in
    let tried = c.accept_next.ensures in
    record {
      between = tried.between;
      room = omega (arith, room_same took, tried.done.2.room, tried.done.3, before.room);
      tries = omega (arith, tried.tries c.if-not-accept_next.false, before.tries, c.loop-try-test.true);
      done = accept_both (accept_and_took before.done took) tried.done;
      still = λ is. tried.still (rw (took.seat, before.still is) is) ∙ took.seat ∙ before.still is;
      answered = answered_both before.answered tried.answered;
    }
