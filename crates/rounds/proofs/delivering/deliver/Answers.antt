use Rattle.std.proofs.{Common.{take, arith}, lemmas.List.{length-take, take_more, Elements.filter_map-append}}
use Rattle.rounds.{specs.Acts.connection_reported, proofs.Acts.{room_left, in_order, posted_both, holds_nothing_still, filter_le}}
use Rattle.rounds.proofs.delivering.deliver.Goals as goal

pub post_note-requires-clause-room : goal.post_note-requires-clause-room
post_note-requires-clause-room g c =
    let before = take c.loop-number.number-index c.args.batch.now in
    omega (arith, room_left c.loop-number.invariant.delivered, filter_le (connection_reported c.args.table.now) before, length-take c.loop-number.number-index c.args.batch.now)

pub loop-number-preserved : goal.loop-number-preserved
loop-number-preserved g c =
    rw (take_more c.args.batch.now c.loop-number.number-index 0 c.loop-number-test.true, filter_map-append (connection_reported c.args.table.now))
    (record {
      made = in_order _ _ _ _ _ _ c.loop-number.invariant.made (rw c.connection.ensures.value at c.post_note.ensures.made);
      delivered = posted_both c.loop-number.invariant.delivered (rw c.connection.ensures.value at c.post_note.ensures.posted);
    })

pub post_note-requires-clause-idle : goal.post_note-requires-clause-idle
post_note-requires-clause-idle g c = holds_nothing_still c.loop-number.invariant.delivered c.requires.idle

pub returns-clause-idle : goal.returns-clause-idle
returns-clause-idle g c = holds_nothing_still c.loop-number.invariant.delivered c.requires.idle

pub returns-in_err-refuse_worn-clause-idle : goal.returns-in_err-refuse_worn-clause-idle
returns-in_err-refuse_worn-clause-idle g c = holds_nothing_still c.loop-number.invariant.delivered c.requires.idle
