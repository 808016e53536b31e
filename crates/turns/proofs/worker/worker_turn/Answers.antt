use Rattle.std.proofs.Common.{◌∙◌, refl}
use Rattle.turns.{proofs.Turns.{answered, only_worn}, specs.declared.worker.Worked.TheVariants.Ended}
use Rattle.turns.proofs.worker.worker_turn.Goals as goal

pub returns-clause-made : goal.returns-clause-made
returns-clause-made g c =
    let put = c.put_tickets-tickets.ensures in
    let gave = c.give_slots-slots.ensures in
    record {
      begun = _;
      put = record {
        seat = refl;
        tickets = rw gave.tickets put.tickets;
        slots = gave.slots ∙ rw put.slots;
        took = record { tickets = put.took; slots = gave.took };
        all_tickets = rw gave.tickets put.all;
        all_slots = gave.all;
      };
      turn = rw (← c.ok_or.ensures.value) at c.turn_of-turn.ensures.made;
    }

pub returns-clause-worn : goal.returns-clause-worn
returns-clause-worn g c = rw c.ok_or.ensures.value (only_worn _ c.turn_of-turn.new.own.seat c.turn_of-turn.ensures.worn)

pub returns-clause-woken : goal.returns-clause-woken
returns-clause-woken g c = λ ended. c.wake_if_ended.ensures.woken (answered _ Ended (rw c.ok_or.ensures.value at ended))
