use Rattle.std.{proofs.{Common.{◌≡◌, [], ◌∷◌, arith, rules}, lemmas.List.nil_from_length}, specs.Vec.Iter.{into_iter_items}}
use Rattle.threads.proofs.Served.{next_of_first}
use Rattle.threads.proofs.joining.Joins.start.Goals as goal

pub loop-part-init : goal.loop-part-init
loop-part-init g c =
    let all : into_iter_items c.into_iter-part-iterator.result ≡ c.args.parts.items = search rules in
    record { room = search rules; started = rw c.requires.0 all }

pub loop-part-preserved : goal.loop-part-preserved
loop-part-preserved g c =
    let was = c.loop-part.invariant in
    let next : into_iter_items c.loop-part.part-iterator ≡ c.in-Some.part ∷ into_iter_items c.next.new.self = c.in-Some.ensures.steps.0 in
    record {
      room = search rules;
      started = rw c.push_reserved.ensures.items (next_of_first _ _ _ _ _ _ (rw next at was.started) (search rules));
    }

pub returns-in-Err-clause-started : goal.returns-in-Err-clause-started
returns-in-Err-clause-started g c = (_, c.loop-part.invariant.started, λ not. search rules)

pub returns-clause-started : goal.returns-clause-started
returns-clause-started g c =
    let none : into_iter_items c.loop-part.part-iterator ≡ [] = nil_from_length _ (omega (arith, c.loop-part.part-iterator.rest.ok.0, c.in-None.ensures.steps.0)) in
    (_, c.loop-part.invariant.started, λ _. none)
