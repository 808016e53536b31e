use Rattle.std.proofs.{Common.{◌∙◌, ◌∷◌, [], ap, arith, inl, inr, refl}, lemmas.List.length-set}
use Rattle.claims.{specs.declared.view.Account.Account, proofs.Seats.{account_after, holds_nothing_again}}
use Rattle.shared.{specs.Acts.{AreMade, placing}, proofs.Holding.{holds_from}}
use Rattle.rounds.{specs.{Acts.SeatAct, Openings.Putting}, proofs.{Acts.{acts_one, try_held}, Rounds.{counted_one, opened_once, times-append, none_opened}}}
use Rattle.claims.specs.declared.view.Exchange.TheVariants as exchange
use Rattle.rounds.proofs.placing.place.Goals as goal

pub returns-in-Adopted : goal.returns-in-Adopted
returns-in-Adopted g c =
    let change = c.in-Adopted.ensures.change in
    let counted = c.count_opened.ensures.poller in
    let told = c.end_episodes.ensures in
    let acts : AreMade (Putting g.A.Moves.moved g.A.Acts.made c.args.berth.value) c.args.ticket.slot placing c.args.acts.now c.start.new.acts =
    (c.adopt.new.self, c.adopt.ensures.made, (c.count_opened.new.acts, c.count_opened.ensures.made, c.start.ensures.made)) in
    record {
      between = record {
        same = c.start.ensures.only.table ∙ change.1.only.table ∙ c.requires.between.same;
        idle = c.start.ensures.idle;
        sized = rw (told, counted, length-set) c.requires.between.sized;
      };
      placed = inl (
        rw (told, counted),
        (c.log_open.ensures, c.count_opened.ensures.counted),
        acts,
        opened_once c.start.ensures.started c.requires.next change.1 c.start.ensures.queues (rw (told, counted)),
      );
      ready = c.start.ensures.queues.ready;
    }

pub returns-in-NotFree : goal.returns-in-NotFree
returns-in-NotFree g c =
    let change = c.in-NotFree.ensures.change in
    let try : SeatAct = record { ticket = c.args.ticket; exchanges = exchange.NotFree ∷ [] } in
    record {
      between = record {
        same = change.only.table ∙ c.requires.between.same;
        idle = holds_nothing_again c.requires.between.idle change.only
            (ap (λ (a : Account). a.holds) (account_after _ _ _ _ change) ∙ c.requires.between.idle.nowhere c.args.ticket.slot);
        sized = rw c.count_lost.ensures c.requires.between.sized;
      };
      placed = inr (
        c.count_lost.ensures,
        change,
        (c.adopt.new.self, c.adopt.ensures.made, refl),
        rw c.count_lost.ensures (none_opened (try ∷ []) (c.args.ticket.slot ∷ []) (c.args.ticket.slot ∷ []) (try_held c.args.ticket) (acts_one try _ _ change)
            (c.args.poller.now.table, record { own = c.requires.next.own; next = c.requires.next.generation; entered = refl }, refl) refl refl refl
            (counted_one _ c.args.poller.now.lost _ refl) (inr ([], refl, refl)) refl refl refl refl (omega arith)
            (λ s. omega (arith, times-append s (c.args.ticket.slot ∷ []) c.args.own.now.hand.slots)) (omega arith)),
      );
      ready = refl;
    }

pub start-requires-clause-holder : goal.start-requires-clause-holder
start-requires-clause-holder g c = holds_from _ _ _ _ c.in-Adopted.ensures.change.1 c.requires.between.idle refl
