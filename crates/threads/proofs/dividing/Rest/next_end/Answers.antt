use Rattle.std.proofs.Common.{◌<◌, length, refl, arith}
use Rattle.threads.proofs.Divided.{all_left, end_of_last, taken_last}
use Rattle.threads.proofs.dividing.Rest.next_end.Goals as goal

pub returns-in_err-get_mut-clause-left : goal.returns-in_err-get_mut-clause-left
returns-in_err-get_mut-clause-left c = rw (← c.self.view_is) (all_left _)

pub returns-clause-left : goal.returns-clause-left
returns-clause-left c = rw (← c.self.view_is) (taken_last (λ ends. ends.items) _ _ _ c.pop.ensures.items _ _ c.in_ok-get_mut.ensures.value)

pub returns-clause-end : goal.returns-clause-end
returns-clause-end c =
    let within : c.args.poller < length c.self.inside.free.items = omega (arith, c.self.inside.free.ok.0, c.in_ok-get_mut.ensures.variant.0 refl) in
    rw (← c.self.view_is) (end_of_last (λ ends. ends.items) _ _ c.in_ok-get_mut.field-0.now _ _ within c.in_ok-get_mut.ensures.value c.pop.ensures.items)
