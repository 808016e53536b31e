use Rattle.std.proofs.Common.{[], ◌∷◌, Ok, ap, false, refl, true}
use Rattle.claims.{specs.declared.view.{Account.Account, Exchange.TheVariants.{Post}}, proofs.Seats.{account_after, adds_none}}
use Rattle.shared.proofs.Holding.{woke_behind_post, worn_still}
use Rattle.turns.proofs.Turns.{done_after, posted_quiet}
use Rattle.turns.specs.declared.worker.Worked.TheVariants as worked
use Rattle.turns.proofs.worker.again.Goals as goal

pub returns-in-Worn : goal.returns-in-Worn
returns-in-Worn g c =
    let put = c.put_in-back.ensures in
    let none = rw c.in-Worn.is at c.post-posted.ensures.change in
    record {
      due = tt;
      done = λ h is. (let left = c.leave.ensures.left h in record {
        noted = 0;
        woke = left.woke;
        held = tt;
        refused = (refl, worn_still _ _ _ left.done.seat.only (ap (λ (x : Account). x.posted) (account_after _ _ _ _ left.done.seat)) (rw none.0 none.1));
        done = done_after [] (rw none.0 (adds_none _ _)) refl (refl, refl, refl) (λ same. same) left.done;
        acts = (_, (put.made, rw is put.moved), (_, c.post-posted.ensures.made, left.acts));
      });
    }

pub returns-in-Wake : goal.returns-in-Wake
returns-in-Wake g c =
    let put = c.put_in-back.ensures in
    let holds = c.requires.work.holder.here in
    let posted = posted_quiet _ c.post-posted.result c.in-Wake.is holds c.post-posted.ensures.change in
    record {
      due = refl;
      done = λ h is. (let left = c.leave.ensures.left h in let woke = woke_behind_post _ _ _ left.woke posted holds left.quiet in record {
        noted = 0;
        woke = true;
        held = tt;
        refused = tt;
        done = rw woke at (done_after {a = c.args.own.now} {r = Ok worked.Again} (Post false ∷ []) posted refl (refl, refl, refl) (λ same. same) left.done);
        acts = (_, (put.made, rw is put.moved), (_, c.post-posted.ensures.made, rw woke at left.acts));
      });
    }
