use Rattle.std.proofs.Common.{ap, arith, refl, subst}
use Rattle.rounds.specs.Pollers.{PollerState}
use Rattle.turns.specs.Shares.{TicketsShared}
use Rattle.threads.proofs.PollerLoops.{marked_none, one_more, ran_fewer}
use Rattle.threads.proofs.polling.PollerThread.run_turns.Goals as goal

pub loop-turn-init : goal.loop-turn-init
loop-turn-init g c = record {
  full = c.share_tickets.result;
  heavy = c.share_tickets.new.heavy;
  shared = c.share_tickets.new.own;
  sharing = subst (λ (s : PollerState). TicketsShared c.share_tickets.result s.heavy c.share_tickets.new.heavy c.args.self.now.own c.share_tickets.new.own) c.poller.view_is
      c.share_tickets.ensures.shared;
  turns = (ap (λ (s : PollerState). record s { heavy = c.share_tickets.new.heavy }) c.poller.view_is, refl);
}

pub loop-turn-preserved : goal.loop-turn-preserved
loop-turn-preserved g c =
    let ran = c.in-Ok-Some.ensures in
    one_more c.loop-turn.invariant (_, rw c.in-Ok-Some.field-0-is at ran.ran, rw c.in-Ok-Some.field-0-is at ran.poller)

pub returns-in-Err-turn-clause-cut : goal.returns-in-Err-turn-clause-cut
returns-in-Err-turn-clause-cut g c = record {
  count = c.loop-turn._turn;
  between = c.loop-turn.self.own;
  made = marked_none c.in-Err-turn.fault c.loop-turn.invariant c.in-Err-turn.ensures.poller;
  few = c.loop-turn-test.true;
  last = rw c.met.ensures (c.in-Err-turn.ensures.ran, c.in-Err-turn.ensures.worn);
}

pub returns-in-Ok-None-clause-turns : goal.returns-in-Ok-None-clause-turns
returns-in-Ok-None-clause-turns g c =
    let is = c.in-Ok-None.field-0-is in
    let ran = c.in-Ok-None.ensures in
    ran_fewer c.loop-turn.invariant (rw is at ran.poller) (rw is at ran.ran) (omega (arith, c.loop-turn-test.true)) (ran.none (rw is refl))
