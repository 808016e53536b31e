use Rattle.std.proofs.Common.{drop}
use Rattle.recorder.specs.Records.{each_report, PutsActs}
use Rattle.recorder.proofs.recorder.Recorder.record_reports.Given as goal

-- whatever puts the reports that are left has put all
abbrev pub invariant-loop-number : goal.invariant-loop-number
invariant-loop-number g l =
    (new : _) → PutsActs g.S.Sink.did l.before l.after (each_report l.poller (drop l.number-index l.numbers)) l.self.sink new
    → PutsActs g.S.Sink.did l.before l.after (each_report l.poller l.numbers) l.initial.self.sink new
