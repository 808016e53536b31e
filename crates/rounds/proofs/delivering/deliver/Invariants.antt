use Rattle.std.proofs.Common.{take}
use Rattle.rounds.specs.Acts.{ArePosted, PostsMade, all_reported}
use Rattle.rounds.proofs.delivering.deliver.Given as goal

-- the reports so far are delivered
abbrev pub invariant-loop-number : goal.invariant-loop-number
invariant-loop-number g l = record {
  made : PostsMade g.A.Acts.made (all_reported l.table (take l.number-index l.batch)) l.initial.acts l.acts;
  delivered : ArePosted (all_reported l.table (take l.number-index l.batch)) l.initial.seat l.seat l.initial.hand l.hand;
}
