use Rattle.std.proofs.{Common.{arith, ap, sym, ◌∙◌, refl}, lemmas.Bool.false≢true}
use Rattle.shared.specs.Hands.{HandState}
use Rattle.turns.proofs.{Turns.{OneMoved, kept_moves, passed_moves, shared_more, shared_all}, own_turns.share_tickets.Goals.{in-Some-stays, in_default-stays}}
use Rattle.turns.proofs.own_turns.share_tickets.Goals as goal

pub loop-ticket-preserved : goal.loop-ticket-preserved
loop-ticket-preserved g c =
    let so_far = c.loop-ticket.invariant in
    let moved : OneMoved c.loop-ticket.full c.match-stays.full c.loop-ticket.kept c.loop-ticket.heavy c.in-Some.ticket c.loop-ticket.own c.take_ticket.new.self c.match-stays.kept c.match-stays.own =
    elim c.match-stays.branch [
      | in-Some-stays w ↦ kept_moves w.full-is (w.in-Some-stays.ensures.light refl) w.kept-is w.own-is w.keep.ensures.kept refl refl refl
      | in_default-stays w ↦ passed_moves w.put_ticket.result (w.full-is ∙ w.or-full.ensures) (λ s. false≢true (w.in_default-stays.ensures.stays s)) w.kept-is w.own-is
          w.put_ticket.ensures.passed w.put_ticket.ensures.seat w.put_ticket.ensures.free
    ] in
    let hand = rw c.take_ticket.ensures.left at moved.hand in
    record {
      shared = rw (c.stays.ensures.marks, moved.hand) (shared_more so_far.shared moved.still (omega arith) (sym c.take_ticket.ensures.value ∙ c.in-Some.is)
          (ap (λ (h : HandState). h.tickets) c.take_ticket.ensures.left) moved.one);
      few = let more = moved.few in let few = so_far.few in omega arith;
      took = moved.took ∙ so_far.took;
      seat = moved.seat ∙ so_far.seat;
      free = moved.free ∙ so_far.free;
      slots = ap (λ (h : HandState). h.slots) hand ∙ so_far.slots;
      capacity = ap (λ (h : HandState). h.capacity) hand ∙ so_far.capacity;
      idle = rw moved.seat so_far.idle;
    }

pub returns : goal.returns
returns g c =
    let so_far = c.loop-ticket.invariant in
    record {
      shared = record { tickets = shared_all so_far.shared (omega arith); took = so_far.took; seat = so_far.seat; free = so_far.free; slots = so_far.slots; capacity = so_far.capacity };
    }
