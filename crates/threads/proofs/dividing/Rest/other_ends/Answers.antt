use Rattle.std.proofs.{Common.{◌<◌, ◌≤◌, ◌∙◌, length, arith, rules}, lemmas.List.{drop_all, length-map}}
use Rattle.threads.proofs.Divided.{all_left, left_of_left, one_end_more}
use Rattle.threads.proofs.dividing.Rest.other_ends.Goals as goal

pub loop-poller-init : goal.loop-poller-init
loop-poller-init c = record { parts = search rules; ends = rw c.in_ok-ends.ensures.items; left = all_left _ }

pub loop-poller-preserved : goal.loop-poller-preserved
loop-poller-preserved c =
    let was = c.loop-poller.invariant in
    let within : c.loop-poller.poller < length c.args.self.now.free =
    rw (← c.self.view_is, length-map) (omega (arith, c.loop-poller-test.true, c.len-pollers.ensures, c.self.inside.free.ok.0)) in
    record {
      parts = c.next_end.ensures.parts ∙ was.parts;
      ends = one_end_more _ _ _ _ c.in_ok-push-in-Some.ensures.items within was.left c.in-Some.ensures.end was.ends;
      left = left_of_left was.left c.next_end.ensures.left;
    }

pub returns-clause-ends : goal.returns-clause-ends
returns-clause-ends c =
    let past : length c.args.self.now.free ≤ c.loop-poller.poller =
    rw (← c.self.view_is, length-map) (omega (arith, c.loop-poller-test.false, c.len-pollers.ensures, c.self.inside.free.ok.0)) in
    rw (drop_all _ _ past) at c.loop-poller.invariant.ends
