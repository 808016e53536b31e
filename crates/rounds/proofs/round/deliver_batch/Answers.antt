use Rattle.rounds.proofs.Acts.{own_reports}
use Rattle.rounds.proofs.round.deliver_batch.Goals as goal

pub deliver-requires-clause-sized : goal.deliver-requires-clause-sized
deliver-requires-clause-sized g c = rw c.table-table.ensures.table c.requires.between.sized

pub deliver-requires-clause-room : goal.deliver-requires-clause-room
deliver-requires-clause-room g c = rw c.batch-batch.ensures.batch c.requires.room

pub returns-in-Ok-clause-posts : goal.returns-in-Ok-clause-posts
returns-in-Ok-clause-posts g c = record {
  made = rw (c.table-table.ensures.table, c.batch-batch.ensures.batch) at c.deliver.ensures.made;
  posted = rw (c.table-table.ensures.table, c.batch-batch.ensures.batch) at c.deliver.ensures.delivered;
  own = own_reports _ _ c.args.poller.now.batch (rw c.table-table.ensures.table at c.table-table.ensures.own);
  queues = assumption;
}

pub returns-in-Err-clause-posts : goal.returns-in-Err-clause-posts
returns-in-Err-clause-posts g c = record {
  made = rw (c.table-table.ensures.table, c.batch-batch.ensures.batch) at c.deliver.ensures.made;
  posted = rw (c.table-table.ensures.table, c.batch-batch.ensures.batch) at c.deliver.ensures.delivered;
  own = own_reports _ _ c.args.poller.now.batch (rw c.table-table.ensures.table at c.table-table.ensures.own);
  queues = assumption;
}
