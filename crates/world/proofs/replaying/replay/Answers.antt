use Rattle.world.proofs.Headline.{◌≡◌, Some, arith, common_steps, opening, run, HeadlineHolds, CoreLaws, headline, support}
use Rattle.world.proofs.replaying.replay.Goals as goal

pub returns : goal.returns
returns c =
    let laws : CoreLaws = c.rests_on_core.ensures in
    let l = c.args.limits in
    let events = c.args.events.now in
    let all : run (opening l) events ≡ Some c.play.new.self = grind (arith, common_steps) in
    let holds : HeadlineHolds l events c.play.new.self = headline laws l events _ all in
    record {
      world = all;
      bytes = holds.bytes;
      closed = holds.closed;
      own = holds.own;
      failures = holds.failures;
      due = holds.due;
      listener = holds.listener;
      support = support laws l events _ all;
      fails = tt;
    }
