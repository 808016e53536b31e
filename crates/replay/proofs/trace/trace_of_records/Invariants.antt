-- What the records are, is what was found of those before the place, and then what those from it on are.
use Rattle.std.proofs.Common.{◌≡◌, ◌++◌, drop}
use Rattle.replay.specs.Traces.{trace_after, trace_of_records}
use Rattle.replay.proofs.trace.trace_of_records.Given as goal

abbrev pub invariant-loop-place : goal.invariant-loop-place
invariant-loop-place l = trace_of_records l.records ≡ l.trace.items ++ trace_after l.last (drop l.place l.records)
