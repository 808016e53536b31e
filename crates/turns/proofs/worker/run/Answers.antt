use Rattle.std.{proofs.Common.{None, Ok, Some, refl}, specs.Option.ok_or}
use Rattle.sizes.specs.declared.faults.ServerFault.TheVariants.{Worn}
use Rattle.turns.proofs.Turns.{due_as, played_then}
use Rattle.turns.specs.declared.worker.Worked.TheVariants as worked
use Rattle.turns.proofs.worker.run.Goals as goal

pub returns-in-Done : goal.returns-in-Done
returns-in-Done g c =
    let play = c.play-turn.ensures in
    let p = play.played in
    let now = c.play-turn.new.self.berth.value in
    record {
      done = played_then _ _ (Ok worked.Ended) p.0 c.args.visit.berth.value now now None c.requires.own p.2 (p.3, p.4) p.5 (refl, refl, refl)
          (λ h settled. (rw play.ticket at c.end.ensures.done) h) p.6 (refl, rw play.outcome at c.in-Done.is);
    }

pub returns-in-Again : goal.returns-in-Again
returns-in-Again g c =
    let play = c.play-turn.ensures in
    let p = play.played in
    let now = c.play-turn.new.self.berth.value in
    record {
      done = played_then _ _ (ok_or c.again.result Worn) p.0 c.args.visit.berth.value now now None c.requires.own p.2 (p.3, p.4) p.5 (refl, refl, refl)
          (λ h settled. (rw play.ticket at c.again.ensures.done) h) p.6 (due_as c.again.result _ _ c.again.ensures.due (rw play.outcome at c.in-Again.is));
    }

pub returns-in-Quiet : goal.returns-in-Quiet
returns-in-Quiet g c =
    let play = c.play-turn.ensures in
    let p = play.played in
    let now = c.play-turn.new.self.berth.value in
    let rest = c.rest.ensures.done in
    record {
      done = played_then _ _ (Ok worked.Quiet) p.0 c.args.visit.berth.value now rest.0 (Some (now, rest.0))
          c.requires.own p.2 (p.3, p.4) p.5 (refl, refl, refl) (rw play.ticket at rest.4) p.6 (refl, rest.3, rw rest.3 (rw play.outcome at c.in-Quiet.is));
    }
