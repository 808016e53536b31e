use Rattle.std.proofs.Common.{rules, append-nil}
use Rattle.replay.proofs.{Traces.one_record, trace.trace_of_records.Goals.{in-Some+in_ok-push, in_default}}
use Rattle.replay.proofs.trace.trace_of_records.Goals as goal

pub loop-place-preserved : goal.loop-place-preserved
loop-place-preserved c =
    one_record c.args.records.now c.loop-place.place c.index-records-place.result c.loop-place.last c.action_of.result c.loop-place.trace.items
    c.match-action_of.trace.items c.loop-place-test.true c.loop-place.invariant c.action_of.ensures
    (elim c.match-action_of.branch [
      | in-Some+in_ok-push w ↦ rw w.in-Some.is (search rules)
      | in_default w ↦ rw w.in_default.is (search (rules, append-nil))
    ])
