use Rattle.std.proofs.{Common.{false, refl, sym, true}, lemmas.Bool.false≢true}
use Rattle.shared.proofs.Holding.{let_go}
use Rattle.turns.proofs.worker.leave.Goals as goal

pub returns-in-Wake : goal.returns-in-Wake
returns-in-Wake g c = record {
  left = λ h. (let put = c.put_ticket.ensures in record {
    woke = true;
    quiet = λ is. absurd (false≢true (sym is));
    done = record {
      seat = rw put.seat c.in-Wake.ensures.change;
      tickets = record { kept = put.kept; tickets = put.tickets };
      slots = rw (put.free, put.slots);
      took = record { tickets = put.took; slots = rw put.free };
    };
    acts = (_, c.in-Wake.ensures.made, (_, put.made, refl));
  });
}

pub returns-in-Quiet : goal.returns-in-Quiet
returns-in-Quiet g c = record {
  left = λ h. record {
    woke = false;
    quiet = λ is. c.in-Quiet.ensures.change.1;
    done = record { seat = c.in-Quiet.ensures.change.0; tickets = refl; slots = refl; took = record { tickets = refl; slots = refl } };
    acts = (_, c.in-Quiet.ensures.made, refl);
  };
}

pub put_ticket-requires-clause-released : goal.put_ticket-requires-clause-released
put_ticket-requires-clause-released g c = let_go _ _ _ _ c.in-Wake.ensures.change refl
