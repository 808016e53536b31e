use Rattle.std.{proofs.{Common.{◌≡◌, [], ◌∷◌, arith, rules}, lemmas.List.nil_from_length}, specs.Vec.Iter.{into_iter_items}}
use Rattle.threads.proofs.Served.{next_of_first}
use Rattle.threads.proofs.joining.Joins.join.Goals as goal

pub loop-handle-init : goal.loop-handle-init
loop-handle-init g c =
    let all : into_iter_items c.into_iter-handle-iterator.result ≡ c.args.self.handles.items = search rules in
    record { room = search rules; joined = rw c.args.self.none all }

pub loop-handle-preserved : goal.loop-handle-preserved
loop-handle-preserved g c =
    let was = c.loop-handle.invariant in
    let next : into_iter_items c.loop-handle.handle-iterator ≡ c.in-Some.handle ∷ into_iter_items c.next.new.self = c.in-Some.ensures.steps.0 in
    record {
      room = search rules;
      joined = rw c.push_reserved.ensures.items (next_of_first _ _ _ _ _ _ (rw next at was.joined) c.join.ensures);
    }

pub returns : goal.returns
returns g c =
    let none : into_iter_items c.loop-handle.handle-iterator ≡ [] = nil_from_length _ (omega (arith, c.loop-handle.handle-iterator.rest.ok.0, c.in-None.ensures.steps.0)) in
    rw none at c.loop-handle.invariant.joined
