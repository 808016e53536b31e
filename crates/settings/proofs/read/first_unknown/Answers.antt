use Rattle.std.{proofs.lemmas.Map.Iter.{rest_more, rest_all}, specs.Map.Iter.deref}
use Rattle.settings.proofs.Unknown.{all_left, left_known, none_left, first_unnamed}
use Rattle.settings.proofs.read.first_unknown.Goals as goal

pub loop-name-init : goal.loop-name-init
loop-name-init c =
    rw (c.into_iter-name-iterator.ensures.into_iter_gives, c.keys-name-items.ensures.rest) (all_left c.args.document.now.entries c.keys-name-items.ensures.ordered)

pub returns-then-is_none-clause-some : goal.returns-then-is_none-clause-some
returns-then-is_none-clause-some c =
    let left = rest_more deref c.loop-name.name-iterator c.next.new.self c.next.result c.in-Some.name c.in-Some.is c.next.ensures.steps in
    first_unnamed _ _ _ c.as_str.result.now c.named.result c.as_str.ensures.value c.if-is_none.ensures c.named.ensures.none (rw left at c.loop-name.invariant)

pub loop-name-preserved : goal.loop-name-preserved
loop-name-preserved c =
    let left = rest_more deref c.loop-name.name-iterator c.next.new.self c.next.result c.in-Some.name c.in-Some.is c.next.ensures.steps in
    left_known _ _ _ c.as_str.result.now c.named.result c.as_str.ensures.value c.if-is_none.ensures c.named.ensures.named (rw left at c.loop-name.invariant)

pub returns-clause-none : goal.returns-clause-none
returns-clause-none c =
    let left = rest_all deref c.loop-name.name-iterator c.next.new.self c.next.result c.in-None.is c.next.ensures.steps in
    none_left _ (rw left at c.loop-name.invariant)
