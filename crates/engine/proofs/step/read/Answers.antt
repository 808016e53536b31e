use Rattle.std.proofs.{Common.{ℕ, List, refl, take, arith}, lemmas.List.{take-append-le, length-take, length-take-le}}
use Rattle.relay_core.specs.Replies.{Bytes, End}
use Rattle.engine.{specs.Wires.Brought, proofs.Runs.{bytes_read, erred, none_read, nothing_written, stays_at, unmoved}}
use Rattle.engine.proofs.step.read.Goals as goal

pub returns-in-Ok-eq0 : goal.returns-in-Ok-eq0
returns-in-Ok-eq0 g c =
    let e = c.in-Ok-eq0.ensures in
    let none = c.in-Ok-eq0.field-0-test in
    let whole = length-take-le c.args.most c.args.buffer.now (omega (arith, c.requires.possible.limited)) in
    unmoved (Brought _) End (rw none refl) (rw whole at e.did) refl c.answer.ensures.value refl refl (none_read _ _ _ _ none e.bytes) e.kept
    (stays_at e.counts.0) (stays_at e.counts.1)

pub returns-in-Ok : goal.returns-in-Ok
returns-in-Ok g c =
    let e = c.in-Ok.ensures in
    let whole = length-take-le c.args.most c.args.buffer.now (omega (arith, c.requires.possible.limited)) in
    let n : ℕ = c.in-Ok.count in
    let read : List ℕ = c.read.new.buffer in
    let got = bytes_read c.args.pair.now c.args.side n c.args.most read (omega arith) (omega (arith, e.most)) (omega (arith, e.most, c.read.auto.buffer, length-take {A = ℕ})) in
    record {
      reply = Bytes (take n read);
      fit = got.0;
      run = rw (take-append-le n read _ (omega (arith, e.most))) at c.answer-in-Ok.ensures.value;
      served = record {
        read = rw got.1 e.bytes;
        written = nothing_written _ _ e.kept;
        faults = stays_at e.counts.0;
        blocks = stays_at e.counts.1;
        made = record { given = Brought (take n read); told = refl; did = rw whole at e.did };
      };
    }

pub returns-in-Err : goal.returns-in-Err
returns-in-Err g c =
    let e = c.in-Err.ensures in
    let whole = length-take-le c.args.most c.args.buffer.now (omega (arith, c.requires.possible.limited)) in
    erred _ _ refl c.answer-in-Err.ensures.value e.bytes e.kept c.faults-faults.ensures c.blocks-blocks.ensures c.error_answer.ensures (rw whole at e.did)
