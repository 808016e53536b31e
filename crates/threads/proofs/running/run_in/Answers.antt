use Rattle.std.{proofs.{Common.{arith, sym}, lemmas.List.nil_from_length}, specs.Prelude.option_to_list}
use Rattle.threads.proofs.Served.{ran_to_ends}
use Rattle.threads.proofs.running.run_in.Goals as goal

pub returns : goal.returns
returns g c =
    let enough = c.few_started-few.ensures in
    let first = c.run_first-first.ensures in
    let is = c.join.ensures.others in
    record {
      others = c.pop-first.new.self.items;
      first = option_to_list c.pop-first.result;
      pollers_are = sym c.pop-first.ensures.items;
      workers_ran = rw is.0 (ran_to_ends _ _ _ _ _ _ _ _ (λ w h e of kept. rw (of.0, of.1) at kept) enough c.start-crew.ensures.workers c.join.ensures.workers);
      others_ran = rw is.0 (ran_to_ends _ _ _ _ _ _ _ _ (λ p h e of kept. rw (of.0, of.1) at kept) enough c.start-crew.ensures.pollers c.join.ensures.pollers);
      first_ran = rw is.1 first.ran;
      has_first = λ none. nil_from_length c.args.pollers.items
          (let gone = rw (first.none (rw is.1 at none)) at c.pop-first.ensures.cases in omega (arith, gone.0, c.args.pollers.ok.0));
    }
