use Rattle.std.{proofs.Common.{◌≡◌, ap, arith, length}, specs.Arc.arc_value}
use Rattle.claims.specs.Seats.{fresh_seat}
use Rattle.threads.{specs.Divided.IsEndOf, proofs.Divided.{all_left, all_made, all_pushed, end_of_left, left_of_left, threads_more}}
use Rattle.threads.proofs.dividing.pollers_of.Goals as goal

pub loop-poller-init : goal.loop-poller-init
loop-poller-init g c =
    let none = c.in_ok-threads.ensures.items in
    record {
      fresh = c.requires;
      numbered = rw none;
      own = λ k d below. absurd (omega (arith, ap length none));
      ends = all_left _;
      left = omega (arith, c.in_ok-threads.ensures.len);
      room = rw c.len.ensures at c.in_ok-threads.ensures.capacity;
    }

pub loop-poller-preserved : goal.loop-poller-preserved
loop-poller-preserved g c =
    let was = c.loop-poller.invariant in
    let pushed = c.push_reserved.ensures.items in
    let made = c.in_ok-thread.ensures in
    record {
      fresh = made.fresh;
      numbered = threads_more _ _ _ _ _ _ _ c.len-in-Some.result _ pushed c.in-Some.ensures.items
          (omega (arith, c.len-in-Some.ensures, c.pop.new.self.ok.0))
          (rw (made.made.0, made.made.1)) was.numbered;
      own = all_pushed (λ thread. (thread.own.seat ≡ fresh_seat (arc_value c.args.shared.now).claims) × IsEndOf c.args.rest.now.free thread.number thread.own.free)
          _ pushed was.own (made.seat, end_of_left _ _ _ _ was.ends made.slots);
      ends = left_of_left was.ends made.left;
      left = omega (arith, c.push_reserved.ensures.len, c.in-Some.ensures.cases, was.left);
      room = rw c.push_reserved.ensures.capacity was.room;
    }

pub thread_of-requires : goal.thread_of-requires
thread_of-requires g c = c.loop-poller.invariant.fresh

pub returns : goal.returns
returns g c =
    let was = c.loop-poller.invariant in
    let pollers = all_made _ _ c.loop-poller.pollers.items (omega (arith, c.in_default.ensures.cases.0, c.loop-poller.pollers.ok.0)) was.numbered in
    record { fresh = was.fresh; pollers = pollers; own = was.own; left = was.ends }
