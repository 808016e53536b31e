use Rattle.world.{specs.CoreLaws.CoreLaws, proofs.Headline.support}
use Rattle.script.proofs.running.every_run_is_sound.Goals as goal

pub returns : goal.returns
returns c =
    let core : CoreLaws = record {
      place = c.answers_keep_place.ensures;
      failures = c.failures_are_told.ensures;
      rest = c.live_pairs_rest.ensures;
      overdue = c.only_overdue_pairs_expire.ensures;
    } in
    λ l events st ran. record {
      headline = c.every_run_holds.ensures l events st ran;
      support = support core l events st ran;
    }
