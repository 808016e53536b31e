use Rattle.std.proofs.Common.{false, nat_lt, refl}
use Rattle.shared.proofs.Holding.{let_go}
use Rattle.token.specs.Names.{last_generation}
use Rattle.turns.{specs.Turns.Handling, proofs.Turns.{gives_as}}
use Rattle.turns.proofs.worker.end.Goals as goal

pub returns : goal.returns
returns g c = record {
  done = λ h is. (let given = c.give_back.ensures in record {
    noted = 0;
    woke = false;
    held = tt;
    refused = tt;
    done = record {
      seat = rw given.seat c.retire.ensures.change;
      tickets = rw (given.ready, given.tickets);
      slots = record { kept = given.given.kept; slots = given.given.slots; last = given.given.last };
      took = record { tickets = rw given.ready; slots = given.took };
    };
    acts = (
      _,
      (c.close-closed.ensures.made, rw is c.close-closed.ensures.moved),
      (
        _,
        c.retire.ensures.made,
        gives_as g.A.Acts.made (Handling g.A.Moves.found g.A.Moves.played g.A.Moves.moved g.A.Acts.made h)
            c.args.visit.ticket.slot (nat_lt c.args.visit.ticket.generation last_generation) _ _ (λ x y made. made) given.made,
      ),
    );
  });
}

pub give_back-requires-clause-retired : goal.give_back-requires-clause-retired
give_back-requires-clause-retired g c = let_go _ _ _ _ c.retire.ensures.change refl
