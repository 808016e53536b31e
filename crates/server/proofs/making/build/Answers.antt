use Rattle.std.proofs.{Common.arith, lemmas.List.length-replicate}
use Rattle.server.proofs.making.build.Goals as goal

pub frees_of-requires : goal.frees_of-requires
frees_of-requires g c = omega (arith, c.args.settings.now.workers_range.1)

pub shared_of-requires : goal.shared_of-requires
shared_of-requires g c = record {
  threads = (omega (arith, c.args.settings.now.workers_range.0), omega (arith, c.args.settings.now.workers_range.1, c.pollers.ensures.few));
}

pub invariant_of-result : goal.invariant_of-result
invariant_of-result g c = record { seats = record { each = rw (c.in_ok-shared.ensures.seats, length-replicate) } }

pub returns-clause-light : goal.returns-clause-light
returns-clause-light g c = rw c.pollers-2.ensures.parts at c.in_ok-shared.ensures.light
