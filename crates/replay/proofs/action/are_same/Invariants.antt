-- The actions before the place are the same.
use Rattle.std.proofs.Common.{◌≡◌, take}
use Rattle.replay.proofs.action.are_same.Given as goal

abbrev pub invariant-loop-place : goal.invariant-loop-place
invariant-loop-place l = take l.place l.run ≡ take l.place l.records
