use Rattle.std.proofs.Common.{◌≡◌, length, arith, refl}
use Rattle.rounds.proofs.Acts.{in_order, posted_none, posted_both, room_left, holds_nothing_still, below_more, few_below}
use Rattle.rounds.proofs.sweeping.sweep.Goals as goal

pub loop-slot-init : goal.loop-slot-init
loop-slot-init g c = record { made = refl; posted = posted_none c.args.seat.now c.args.hand.now }

-- each slot takes at most one ticket in hand
pub post_note-requires-clause-room : goal.post_note-requires-clause-room
post_note-requires-clause-room g c = omega (arith, room_left c.loop-slot.invariant.posted, few_below c.args.table.now c.loop-slot.slot)

pub post_note-requires-clause-idle : goal.post_note-requires-clause-idle
post_note-requires-clause-idle g c = holds_nothing_still c.loop-slot.invariant.posted c.requires.idle

pub loop-slot-preserved : goal.loop-slot-preserved
loop-slot-preserved g c = rw (below_more c.args.table.now c.loop-slot.slot) (record {
  made = in_order _ _ _ _ _ _ c.loop-slot.invariant.made (rw c.last_in.ensures.opened at c.post_note.ensures.made);
  posted = posted_both c.loop-slot.invariant.posted (rw c.last_in.ensures.opened at c.post_note.ensures.posted);
})

pub returns-then-not-due : goal.returns-then-not-due
returns-then-not-due g c = rw c.if-not-due.true (record { made = refl; posted = posted_none c.args.seat.now c.args.hand.now })

pub returns : goal.returns
returns g c =
    let all : c.loop-slot.slot ≡ length c.args.table.now = omega (arith, c.loop-slot-test.false, c.loop-slot.auto.slot-end) in
    rw c.if-not-due.false (rw all at c.loop-slot.invariant)
