use Rattle.std.proofs.Common.{rules, sym, append-nil, Some, None, ◌≡◌, ◌∙◌}
use Rattle.replay.proofs.Traces.{one_event}
use Rattle.replay.proofs.history.History.put.Goals as goal

pub invariant_of-self-in-Some : goal.invariant_of-self-in-Some
invariant_of-self-in-Some c =
    one_event c.self.inside.limits c.self.inside.events.items c.push_reserved.new.self.items c.self.inside.world c.step.new.self c.self.inside.trace.items c.push_reserved-in-Some.new.self.items
    c.args.event (Some c.in-Some.action) c.self.invariant c.in_default-step.ensures.event (sym c.action_in-action.ensures ∙ c.in-Some.is) (search rules) (search rules)

pub invariant_of-self-in_default-action : goal.invariant_of-self-in_default-action
invariant_of-self-in_default-action c =
    let same : c.reserve-2.new.self.items ≡ c.self.inside.trace.items = search rules in
    one_event c.self.inside.limits c.self.inside.events.items c.push_reserved.new.self.items c.self.inside.world c.step.new.self c.self.inside.trace.items c.reserve-2.new.self.items
    c.args.event None c.self.invariant c.in_default-step.ensures.event (sym c.action_in-action.ensures ∙ c.in_default-action.is) (search rules) (same ∙ sym (append-nil c.self.inside.trace.items))
