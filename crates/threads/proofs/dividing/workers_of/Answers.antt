use Rattle.std.{proofs.Common.{◌≡◌, refl, ◌∷◌, ap, length, arith}, specs.Arc.arc_value}
use Rattle.claims.{proofs.Seats.{fresh_holds_nothing}, specs.Seats.{fresh_seat}}
use Rattle.threads.{specs.Divided.{HasOneOfEach, ends_of}, proofs.Divided.{all_left, all_pushed, left_of_left, numbers_more, one_of_all, one_of_each}}
use Rattle.threads.proofs.dividing.workers_of.Goals as goal

pub invariant_of-worker : goal.invariant_of-worker
invariant_of-worker g c =
    let owned = c.in_ok-shared.ensures in record { same = rw (owned.own, owned.shared); idle = fresh_holds_nothing _ _ owned.own }

pub loop-index-preserved : goal.loop-index-preserved
loop-index-preserved g c =
    let was = c.loop-index.invariant in
    let pushed = c.push_reserved.ensures.items in
    let others = c.in_ok-others.ensures in
    let owned = c.in_ok-shared.ensures in
    let ends = left_of_left was.ends others.left in
    record {
      fresh = owned.fresh;
      numbers = numbers_more _ _ _ _ _ _ pushed refl was.numbers;
      own = all_pushed (λ worker. (worker.owned.own.seat ≡ fresh_seat (arc_value c.args.shared.now).claims) × HasOneOfEach c.args.rest.now.free (ends_of worker.owned))
          _ pushed was.own (owned.own, one_of_all was.ends (c.in_ok-shared.own.free ∷ c.in_ok-others.others.items) (one_of_each _ _ others.ends others.left owned.slots));
      ends = left_of_left ends owned.left;
      len = rw (c.push_reserved.ensures.len, was.len);
      room = rw c.push_reserved.ensures.capacity was.room;
    }

pub loop-index-init : goal.loop-index-init
loop-index-init g c =
    let none = c.in_ok-made.ensures.items in
    record {
      fresh = c.requires;
      numbers = rw none;
      own = λ k d below. absurd (omega (arith, ap length none));
      ends = all_left _;
      len = c.in_ok-made.ensures.len;
      room = c.in_ok-made.ensures.capacity;
    }

pub returns : goal.returns
returns g c =
    let was = c.loop-index.invariant in
    let all : c.loop-index.index ≡ c.args.workers = omega (arith, c.loop-index-test.false, c.loop-index.auto.index-end) in
    record { numbers = rw all at was.numbers; own = was.own }

pub next_own-requires : goal.next_own-requires
next_own-requires g c = rw c.in_ok-others.ensures.parts c.loop-index.invariant.fresh
