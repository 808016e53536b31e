use Rattle.std.proofs.Common.{[], ◌∙◌, arith, inl, inr, refl}
use Rattle.rounds.{specs.Openings.{Dropped, NotFree, Opened, Spent}, proofs.Rounds.{between_still, no_tries, opened_never, opened_not, placed_there, tried}}
use Rattle.rounds.proofs.opening.open.Goals as goal

pub returns-in_default : goal.returns-in_default
returns-in_default g c =
    let none = c.in_default.ensures.none refl in
    let lost = c.count_lost.ensures in
    record {
      between = between_still c.requires.between refl (rw lost);
      counted = rw (none.1, lost) (Spent, (refl, none.2), tt, refl, λ is. absurd (cc is));
      done = inr ([], no_tries, opened_never c.next_names.ensures.left none.1 none.2 lost, omega arith);
      ready = refl;
    }

pub returns-in-Err : goal.returns-in-Err
returns-in-Err g c =
    let first = c.in-Some.ensures.first in
    let acts = rw c.in-Some.ensures.next.generation at c.in-Err.ensures.acts in
    let logged = c.in-Err.ensures.logged in
    record {
      between = between_still c.requires.between refl (rw logged);
      counted = rw (first, logged)
          (Dropped c.in-Err.dropped, refl, (rw c.ticket-ticket.ensures at c.count_dropped.ensures, c.in-Err.ensures.lacked), acts, λ is. absurd (cc is));
      done = inr (tried c.args.client c.requires.accepted acts
          (opened_not c.next_names.ensures.left first c.in-Err.ensures.failed (rw logged assumption) c.in-Some.ensures.next.own));
      ready = refl;
    }

pub returns-in-Ok : goal.returns-in-Ok
returns-in-Ok g c =
    let first = c.in-Some.ensures.first in
    let next = c.in-Some.ensures.next.generation in
    let made = c.in-Ok.ensures in
    let (act, (named, _)) = made.acts in
    let hand = made.prepared ∙ c.next_names.ensures.left in
    let placed = rw (made.same, c.ticket-ticket.ensures) at c.place.ensures.placed in
    record {
      between = c.place.ensures.between;
      counted = rw first (elim (rw next at placed) [
        | inl done ↦ (Opened, done.0, done.1, (c.in-Ok.berth.value, rw next at made.fresh, (c.prepare.new.acts, (act, (rw next at named, made.wires)), done.2)), λ is. absurd (cc is))
        | inr lost ↦ (NotFree, lost.0, tt, (c.prepare.new.acts, rw next at made.acts, lost.2), λ is. lost.1)
      ]);
      done = elim placed [
        | inl done ↦ elim done.3 [
          | inl is_worn ↦ inl is_worn
          | inr once ↦ inr (tried c.args.client c.requires.accepted (c.in-Ok.berth.value, made.fresh, (c.prepare.new.acts, (act, (named, made.wires)), done.2)) (placed_there hand first once.2))
        ]
        | inr lost ↦ inr (tried c.args.client c.requires.accepted (c.prepare.new.acts, made.acts, lost.2) (placed_there hand first lost.3))
      ];
      ready = c.place.ensures.ready;
    }

pub place-requires-clause-between : goal.place-requires-clause-between
place-requires-clause-between g c = between_still c.requires.between refl (rw c.in-Ok.ensures.same)

pub place-requires-clause-next : goal.place-requires-clause-next
place-requires-clause-next g c = rw (c.in-Ok.ensures.same, c.ticket-ticket.ensures) c.in-Some.ensures.next
