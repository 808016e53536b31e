use Rattle.rounds.specs.Acts.{ArePosted, PostsMade, opened_below}
use Rattle.rounds.proofs.sweeping.sweep.Given as goal

-- the slots so far have their notes
abbrev pub invariant-loop-slot : goal.invariant-loop-slot
invariant-loop-slot g l = record {
  made : PostsMade g.A.Acts.made (opened_below l.table l.slot) l.initial.acts l.acts;
  posted : ArePosted (opened_below l.table l.slot) l.initial.seat l.seat l.initial.hand l.hand;
}
