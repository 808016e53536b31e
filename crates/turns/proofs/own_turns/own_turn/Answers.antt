use Rattle.std.proofs.Common.{Ok, ℕ, ◌∙◌, subst, sym}
use Rattle.engine.specs.Turns.{IsServed}
use Rattle.shared.specs.Outgoing.{without_first}
use Rattle.turns.specs.Turns.{Handling, Plays, PlaysAt, TurnInOrder}
use Rattle.turns.proofs.own_turns.own_turn.Goals as goal

pub returns-in-Some-turn_of-clause-turn : goal.returns-in-Some-turn_of-clause-turn
returns-in-Some-turn_of-clause-turn g c = record {
  ticket = c.in-Some.ticket;
  oldest = sym c.take_ticket.ensures.value ∙ c.in-Some.is;
  turn = subst (λ (n : ℕ). TurnInOrder (Handling g.A.Moves.found g.A.Moves.played g.A.Moves.moved g.A.Acts.made)
      (PlaysAt (IsServed g.F.Client.Wire.told g.F.Client.Wire.does) (IsServed g.F.Target.Wire.told g.F.Target.Wire.does) (g.C.Clock.tells c.args.timing.now.clock.now) n c.args.timing.now.limit)
      c.args.shared.now.claims.words c.in-Some.ticket (Ok c.in-Some-turn_of.worked) (without_first c.args.own.now) c.turn_of.new.own c.args.acts.now c.turn_of.new.acts)
      c.min-budget.ensures (rw c.take_ticket.ensures.left at c.in-Some-turn_of.ensures.made);
}

pub returns-in-None-clause-turn : goal.returns-in-None-clause-turn
returns-in-None-clause-turn g c = record {
  ticket = c.in-Some.ticket;
  oldest = sym c.take_ticket.ensures.value ∙ c.in-Some.is;
  turn = rw (c.take_ticket.ensures.left, c.min-budget.ensures, PlaysAt, Plays) at c.in-None.ensures.made;
}
