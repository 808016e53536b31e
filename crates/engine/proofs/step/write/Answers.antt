use Rattle.std.proofs.Common.{refl, ◌≤◌, arith}
use Rattle.relay_core.specs.Replies.{Failed, Wrote}
use Rattle.engine.{specs.Wires.Took, proofs.Runs.{bytes_written, erred, nothing_read, none_written, stays_at, unmoved}}
use Rattle.engine.proofs.step.write.Goals as goal

pub returns-in-Ok-eq0 : goal.returns-in-Ok-eq0
returns-in-Ok-eq0 g c =
    let e = c.in-Ok-eq0.ensures in
    let none = c.in-Ok-eq0.field-0-test in
    unmoved (Took _) (Failed _) (none, refl) e.did refl (rw c.offer_all.ensures.same at c.answer.ensures.value) refl refl e.kept
    (none_written _ _ _ _ none e.bytes) (e.counts.none none c.requires.possible) (stays_at e.counts.same_blocks)

pub returns-in-Ok : goal.returns-in-Ok
returns-in-Ok g c =
    let e = c.in-Ok.ensures in
    let some : 1 ≤ c.in-Ok.count = omega arith in
    let wrote = bytes_written c.args.pair.now c.args.side _ some e.most in
    record {
      reply = Wrote c.in-Ok.count;
      fit = wrote.0;
      run = rw c.offer_all.ensures.same at c.answer-in-Ok.ensures.value;
      served = record {
        read = nothing_read _ _ e.kept;
        written = rw wrote.1 e.bytes;
        faults = stays_at (e.counts.some some);
        blocks = stays_at e.counts.same_blocks;
        made = record { given = Took _; told = refl; did = e.did };
      };
    }

pub returns-in-Err : goal.returns-in-Err
returns-in-Err g c =
    let e = c.in-Err.ensures in
    erred _ _ refl (rw c.offer_all.ensures.same at c.answer-in-Err.ensures.value) e.kept e.bytes c.faults-faults.ensures c.blocks-blocks.ensures c.error_answer.ensures e.did
