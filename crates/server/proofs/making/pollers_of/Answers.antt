use Rattle.std.{proofs.{Common.{◌≡◌, [], ◌∷◌, arith, rules, append_assoc, append-nil}, lemmas.List.nil_from_length}, specs.Vec.Iter.{into_iter_items}}
use Rattle.server.proofs.making.pollers_of.Goals as goal

pub loop-front-init : goal.loop-front-init
loop-front-init g c =
    let all : into_iter_items c.into_iter-front-iterator.result ≡ c.args.fronts.items = search rules in
    record { left = search rules; begun = rw (c.in_ok-pollers.ensures.items, all) }

pub loop-front-preserved : goal.loop-front-preserved
loop-front-preserved g c =
    let was = c.loop-front.invariant in
    let next : into_iter_items c.loop-front.front-iterator ≡ c.in-Some.front ∷ into_iter_items c.next.new.self = c.in-Some.ensures.steps.0 in
    record {
      left = omega (arith, c.in-Some.ensures.steps.1, was.left);
      begun = rw (c.in_ok-push.ensures.items, append_assoc, c.in_ok-poller_of.ensures) (rw next at was.begun);
    }

pub returns : goal.returns
returns g c =
    let was = c.loop-front.invariant in
    let none : into_iter_items c.loop-front.front-iterator ≡ [] = nil_from_length _ (omega (arith, c.loop-front.front-iterator.rest.ok.0, c.in-None.ensures.steps.0)) in
    rw (none, append-nil) at was.begun

pub poller_of-requires : goal.poller_of-requires
poller_of-requires g c = record { number = omega (arith, c.in-Some.ensures.steps.1, c.loop-front.invariant.left) }
