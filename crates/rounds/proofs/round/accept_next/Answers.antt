use Rattle.std.proofs.{Common.{inl, inr, refl, sym}, lemmas.Bool.false≢true}
use Rattle.rounds.proofs.Rounds.{accept_none, answered_by, answered_none, fate_only, not_worn, once_after, unless}
use Rattle.rounds.proofs.round.accept_next.Goals as goal

pub returns-then-is_worn-clause-done : goal.returns-then-is_worn-clause-done
returns-then-is_worn-clause-done g c = accept_none assumption

pub returns-then-leaves-clause-done : goal.returns-then-leaves-clause-done
returns-then-leaves-clause-done g c = accept_none (rw c.leaves.ensures assumption)

pub returns-in-Err-clause-done : goal.returns-in-Err-clause-done
returns-in-Err-clause-done g c = accept_none (rw (c.not_accepted.ensures.flag, c.in-Err.ensures.refused, c.leaves.ensures) assumption)

pub returns-in-Ok-clause-done : goal.returns-in-Ok-clause-done
returns-in-Ok-clause-done g c =
    once_after (unless (not_worn _ c.args.own.now.seat c.is_worn.ensures c.if-is_worn.false) c.open.ensures.done) (rw (c.in-Ok.ensures.accepted, c.leaves.ensures) assumption)

pub returns-in-Ok-clause-still : goal.returns-in-Ok-clause-still
returns-in-Ok-clause-still g c = λ is. absurd (not_worn _ c.args.own.now.seat c.is_worn.ensures c.if-is_worn.false is)

pub returns-then-is_worn-clause-answered : goal.returns-then-is_worn-clause-answered
returns-then-is_worn-clause-answered g c = answered_none refl (inl refl)

pub returns-then-leaves-clause-answered : goal.returns-then-leaves-clause-answered
returns-then-leaves-clause-answered g c = answered_none (rw c.leaves.ensures) (inl (rw c.leaves.ensures))

pub returns-in-Err-clause-answered : goal.returns-in-Err-clause-answered
returns-in-Err-clause-answered g c =
    let flag = c.not_accepted.ensures.flag in
    answered_by _ c.in-Err.ensures.none (rw (flag, c.in-Err.ensures.refused, c.leaves.ensures)) (rw (flag, c.in-Err.ensures.refused, c.leaves.ensures))

pub returns-in-Ok-clause-answered : goal.returns-in-Ok-clause-answered
returns-in-Ok-clause-answered g c =
    let only = fate_only _ c.accept.new.self c.open.new.poller _ c.requires.may.2 c.open.ensures.counted (λ slot of_slot. (of_slot.0, of_slot.1)) in
    answered_none (rw (only, c.in-Ok.ensures.accepted, c.leaves.ensures)) (inr (rw (only, c.in-Ok.ensures.accepted)))

pub returns-in-Ok-clause-tries : goal.returns-in-Ok-clause-tries
returns-in-Ok-clause-tries g c = λ more.
    rw (fate_only _ c.accept.new.self c.open.new.poller _ c.requires.may.2 c.open.ensures.counted (λ slot of_slot. (of_slot.0, of_slot.1)), c.in-Ok.ensures.accepted, c.leaves.ensures)

pub returns-then-is_worn-clause-ended : goal.returns-then-is_worn-clause-ended
returns-then-is_worn-clause-ended g c = λ over. inr (inr (inr (c.is_worn.ensures.0 c.if-is_worn.true)))

pub returns-then-leaves-clause-ended : goal.returns-then-leaves-clause-ended
returns-then-leaves-clause-ended g c = λ over. inr (inl (rw c.leaves.ensures (c.if-leaves.true, c.requires.may.0)))

pub returns-in-Err-clause-ended : goal.returns-in-Err-clause-ended
returns-in-Err-clause-ended g c = λ over. inl (inl (c.not_accepted.ensures.starved over))

pub returns-in-Ok-clause-ended : goal.returns-in-Ok-clause-ended
returns-in-Ok-clause-ended g c = λ over. absurd (false≢true (sym over))
