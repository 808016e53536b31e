use Rattle.std.proofs.Common.{refl, append-nil}
use Rattle.shared.proofs.Holding.{holds_still, holds_behind_post, released_all}
use Rattle.rounds.proofs.Rounds.{started_by}
use Rattle.rounds.proofs.placing.start.Goals as goal
use Rattle.claims.specs.declared.answers.Released.TheVariants as released

pub put_in-requires-clause-holder : goal.put_in-requires-clause-holder
put_in-requires-clause-holder g c = (holds_still _ _ _ _ c.discard.ensures.change c.requires.holder refl).here

pub release-requires-clause-holder : goal.release-requires-clause-holder
release-requires-clause-holder g c =
    (holds_behind_post _ c.post.result _ _ (holds_still _ _ _ _ c.discard.ensures.change c.requires.holder refl) c.post.ensures.change).here

pub returns-in-Wake-clause-started : goal.returns-in-Wake-clause-started
returns-in-Wake-clause-started g c =
    started_by _ _ c.post.result _ _ _ _ _ c.requires.holder c.discard.ensures.change c.post.ensures.change (λ quiet. absurd (cc)) c.in-Wake.ensures.change c.keep_ticket.ensures

pub returns-in-Quiet-clause-started : goal.returns-in-Quiet-clause-started
returns-in-Quiet-clause-started g c =
    started_by _ _ c.post.result _ _ _ _ _ c.requires.holder c.discard.ensures.change c.post.ensures.change
    (λ quiet. c.in-Quiet.ensures.change.1) c.in-Quiet.ensures.change.0 (rw append-nil)

pub returns-in-Wake-clause-idle : goal.returns-in-Wake-clause-idle
returns-in-Wake-clause-idle g c = released_all _ _ _ released.Wake
    (holds_behind_post _ c.post.result _ _ (holds_still _ _ _ _ c.discard.ensures.change c.requires.holder refl) c.post.ensures.change) c.in-Wake.ensures.change

pub returns-in-Quiet-clause-idle : goal.returns-in-Quiet-clause-idle
returns-in-Quiet-clause-idle g c = released_all _ _ _ released.Quiet
    (holds_behind_post _ c.post.result _ _ (holds_still _ _ _ _ c.discard.ensures.change c.requires.holder refl) c.post.ensures.change) c.in-Quiet.ensures.change
