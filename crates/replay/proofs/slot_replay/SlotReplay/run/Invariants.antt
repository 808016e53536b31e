-- The records before the rest are those of connections that were played.
use Rattle.std.{proofs.Common.{◌≡◌, ◌++◌, List, length}, specs.Prelude.All}
use Rattle.record_reader.specs.declared.recording.Numbered.{Numbered}
use Rattle.replay.specs.Traces.{IsConnection, joined_acts}
use Rattle.replay.proofs.slot_replay.SlotReplay.run.Given as goal

abbrev pub invariant-loop-rest : goal.invariant-loop-rest
invariant-loop-rest l =
    (done : List (List Numbered)) × (joined_acts done ++ l.rest ≡ l.fn.records) × All (IsConnection l.fn.recording.header l.fn.recording.failed) done

abbrev pub decreases-loop-rest : goal.decreases-loop-rest
decreases-loop-rest l = length l.rest
