use Rattle.std.proofs.Common.{[], ◌∷◌, refl}
use Rattle.claims.specs.declared.view.Exchange.TheVariants.{Take}
use Rattle.shared.proofs.Holding.{holds_still}
use Rattle.turns.proofs.Turns.{done_after, still_at_work}
use Rattle.turns.proofs.worker.give_up.Goals as goal

pub returns : goal.returns
returns g c = record {
  done = λ h. (let left = c.leave.ensures.left h in record {
    noted = c.discard.result;
    woke = left.woke;
    held = tt;
    refused = tt;
    done = done_after (Take c.discard.result ∷ []) c.discard.ensures.change refl (refl, refl, refl) (λ same. same) left.done;
    acts = (_, c.discard.ensures.made, left.acts);
  });
}

pub leave-requires-clause-work : goal.leave-requires-clause-work
leave-requires-clause-work g c =
    let change = c.discard.ensures.change in
    still_at_work c.requires.work (holds_still _ _ _ _ change c.requires.work.holder refl) change.only refl
