use Rattle.rounds.proofs.{Acts.{own_sweep, swept_by}, Rounds.between_posted}
use Rattle.rounds.proofs.sweeping.keep_time.Goals as goal

pub sweep-requires-clause-sized : goal.sweep-requires-clause-sized
sweep-requires-clause-sized g c = rw c.table.ensures.table c.requires.between.sized

pub sweep-requires-clause-room : goal.sweep-requires-clause-room
sweep-requires-clause-room g c = rw c.table.ensures.table c.requires.room

pub returns : goal.returns
returns g c =
    let second = c.set_second.ensures in
    let swept = swept_by c.args.timing.now.limit c.args.poller.now c.set_second.new.self _ c.is_due-due.ensures second in
    record {
      between = between_posted c.requires.between c.sweep.ensures.posted (rw second);
      poller = rw second;
      posts = record {
        made = rw swept (rw c.table.ensures.table at c.sweep.ensures.made);
        posted = rw swept (rw c.table.ensures.table at c.sweep.ensures.posted);
        own = own_sweep c.args.poller.now.part c.args.poller.now c.set_second.new.self (rw c.table.ensures.table at c.table.ensures.own);
        queues = assumption;
      };
      told = rw second c.moment.ensures.told;
      swept = rw (second, c.is_due-due.ensures);
    }
