use Rattle.turns.proofs.worker.rest.Goals as goal

pub returns : goal.returns
returns g c =
    let settled = c.settle.ensures in
    let put = c.put_in-back.ensures in
    record {
      done = (
        _,
        settled.client,
        settled.target,
        settled.pair,
        λ h is at_last. (let left = rw settled.ticket at (c.leave.ensures.left h) in record {
          noted = 0;
          woke = left.woke;
          held = tt;
          refused = tt;
          done = left.done;
          acts = (_, (settled.made, rw is settled.played), (_, (rw settled.ticket at put.made, rw at_last put.moved), left.acts));
        }),
      );
    }
