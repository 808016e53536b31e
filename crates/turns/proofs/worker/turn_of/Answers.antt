use Rattle.std.proofs.Common.{[], ◌∷◌, None, Some, arith, false, refl, rules}
use Rattle.claims.{specs.declared.view.Exchange.TheVariants.{Busy}, proofs.Seats.{adds_none}}
use Rattle.turns.{specs.Turns.{Handled, Handling}, proofs.Turns.{at_work, held_made, own_made, rests}}
use Rattle.turns.proofs.worker.turn_of.Goals as goal

pub returns-then-ticket-slots-clause-made : goal.returns-then-ticket-slots-clause-made
returns-then-ticket-slots-clause-made g c = (
  record {
    exchanges = [];
    are = record { found = 0; noted = 0; woke = false; inside = λ lt. absurd (omega arith); outside = λ gone. (refl, refl) };
    done = record { seat = adds_none _ _; tickets = refl; slots = refl; took = record { tickets = refl; slots = refl } };
    outside = λ past. refl;
  },
  λ lt. absurd (omega arith),
  λ gone. refl,
)

pub returns-in-Busy-clause-made : goal.returns-in-Busy-clause-made
returns-in-Busy-clause-made g c = (
  record {
    exchanges = Busy ∷ [];
    are = record { found = 0; noted = 0; woke = false; inside = λ lt. refl; outside = λ past. absurd (omega arith) };
    done = record { seat = c.in-Busy.ensures.change; tickets = refl; slots = refl; took = record { tickets = refl; slots = refl } };
    outside = λ past. absurd (omega arith);
  },
  λ lt. (record { found = None; played = None; settled = None; left = None }, tt, (_, c.in-Busy.ensures.made, refl)),
  λ past. absurd (omega arith),
)

pub returns-in-Busy-clause-rest : goal.returns-in-Busy-clause-rest
returns-in-Busy-clause-rest g c = rests c.requires.rest (returns-in-Busy-clause-made g c).0

pub take_out-requires-clause-holder : goal.take_out-requires-clause-holder
take_out-requires-clause-holder g c = (at_work c.requires.rest c.requires.room (omega arith) c.in-Held.ensures.change.1).holder

-- the place has the ticket's own connection

pub run-requires-clause-work : goal.run-requires-clause-work
run-requires-clause-work g c = rw c.in-Ok.ensures.out (at_work c.requires.rest c.requires.room (omega arith) c.in-Held.ensures.change.1)

pub returns-in-Ok-clause-made : goal.returns-in-Ok-clause-made
returns-in-Ok-clause-made g c =
    let moment = c.moment-moment in
    own_made _ _ _ _ (omega arith) c.in-Held.ensures.change.1 _ _ (λ h. c.in-Held.ensures.made) (λ h is. (c.in-Ok.ensures.made, rw is c.in-Ok.ensures.found))
    (λ notes x y plays. (moment.result.second, moment.ensures.told, rw moment.ensures.limit at plays)) (rw c.in-Ok.ensures.out at c.run.ensures.done)

pub returns-in-Ok-clause-rest : goal.returns-in-Ok-clause-rest
returns-in-Ok-clause-rest g c = rests c.requires.rest (returns-in-Ok-clause-made g c).0

-- it has another, which is put back

pub put_in-back-requires-clause-holder : goal.put_in-back-requires-clause-holder
put_in-back-requires-clause-holder g c = rw c.in-Ok.ensures.out (at_work c.requires.rest c.requires.room (omega arith) c.in-Held.ensures.change.1).holder

pub give_up-requires-clause-work : goal.give_up-requires-clause-work
give_up-requires-clause-work g c = at_work c.requires.rest c.requires.room (omega arith) c.in-Held.ensures.change.1

pub returns-in-Ok-2-clause-made : goal.returns-in-Ok-2-clause-made
returns-in-Ok-2-clause-made g c =
    let other = Some c.in-Ok.visit.berth.value in
    let h : Handled _ _ = record { found = other; played = None; settled = None; left = other } in
    let rest = c.give_up.ensures.done h in
    held_made (Handling g.A.Moves.found g.A.Moves.played g.A.Moves.moved g.A.Acts.made) (λ notes x y. Unit {0}) _ _ (omega arith) c.in-Held.ensures.change.1
    rest.noted rest.woke h tt rest.done (
      _,
      c.in-Held.ensures.made,
      (
        _,
        (c.in-Ok.ensures.made, c.in-Ok.ensures.found),
        (_, (rw c.in-Ok.ensures.out at c.put_in-back.ensures.made, c.put_in-back.ensures.moved), rest.acts),
      ),
    )
    ((λ same. search rules), refl)

pub returns-in-Ok-2-clause-rest : goal.returns-in-Ok-2-clause-rest
returns-in-Ok-2-clause-rest g c = rests c.requires.rest (returns-in-Ok-2-clause-made g c).0

-- it is empty

pub give_up-requires-in-Err-clause-work : goal.give_up-requires-in-Err-clause-work
give_up-requires-in-Err-clause-work g c = at_work c.requires.rest c.requires.room (omega arith) c.in-Held.ensures.change.1

pub returns-in-Err-clause-made : goal.returns-in-Err-clause-made
returns-in-Err-clause-made g c =
    let h : Handled _ _ = record { found = None; played = None; settled = None; left = None } in
    let rest = c.give_up-in-Err.ensures.done h in
    held_made (Handling g.A.Moves.found g.A.Moves.played g.A.Moves.moved g.A.Acts.made) (λ notes x y. Unit {0}) _ _ (omega arith) c.in-Held.ensures.change.1
    rest.noted rest.woke h tt rest.done (_, c.in-Held.ensures.made, (_, (c.in-Err.ensures.made, c.in-Err.ensures.empty.1), rest.acts)) (tt, refl)

pub returns-in-Err-clause-rest : goal.returns-in-Err-clause-rest
returns-in-Err-clause-rest g c = rests c.requires.rest (returns-in-Err-clause-made g c).0
