use Rattle.std.{proofs.Common.{sym, subst, List, ◌≡◌, ◌++◌}, specs.Prelude.{All, take}}
use Rattle.record_reader.specs.declared.recording.Numbered.{Numbered}
use Rattle.replay.{specs.Traces.{IsConnection, joined_acts}, proofs.Traces.one_more}
use Rattle.replay.proofs.slot_replay.SlotReplay.run.Goals as goal

pub loop-rest-preserved : goal.loop-rest-preserved
loop-rest-preserved c =
    let P : List Numbered → Type 0 = IsConnection c.args.recording.now.header c.args.recording.now.failed in
    let played : P (take c.connection_len.result c.loop-rest.rest.now) = subst P c.split_at.ensures.front c.in_ok-replay_connection.ensures.runs in
    subst (λ (next : List Numbered). (done : List (List Numbered)) × (joined_acts done ++ next ≡ c.args.records.now) × All P done) (sym c.split_at.ensures.back)
    (one_more P c.args.records.now c.loop-rest.rest.now c.connection_len.result c.loop-rest.invariant played)
