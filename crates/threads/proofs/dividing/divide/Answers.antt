use Rattle.std.{proofs.{Common.{◌≡◌, ℕ, ◌∙◌, ap, arith, get_or, map}, lemmas.{List.Elements.All-map, Simd.map-map}}, specs.{Arc.arc_value, List.range_with_len}}
use Rattle.claims.specs.Seats.{fresh_seat}
use Rattle.threads.{specs.{Divided.{HasOneOfEach, IsEndOf, ends_of}, Served.{PollerPart, WorkerPart, poller_part, worker_part}}, proofs.Divided.{one_of_all}}
use Rattle.threads.proofs.dividing.divide.Goals as goal

pub returns : goal.returns
returns g c =
    let pollers = c.in_ok-pollers.ensures in
    let workers = c.in_ok-workers.ensures in
    let ends = map (λ ends. ends.items) c.args.server.free.items in
    rw (← c.in_ok-shared.ensures.ok) (record {
      pollers_are = map-map (λ (p : PollerPart). (p.number, p.poller)) (λ p. poller_part p.number p.poller p.own) _ ∙ pollers.pollers;
      pollers_own = All-map (λ (p : PollerPart). (p.own.seat ≡ fresh_seat (arc_value c.in_ok-shared.shared).claims) × IsEndOf ends p.number p.own.free)
          (λ p. poller_part p.number p.poller p.own) _ pollers.own;
      workers_are = map-map (λ (w : WorkerPart). w.number) (λ w. worker_part w.number w.owned) _
          ∙ (workers.numbers ∙ ap (λ (n : ℕ). range_with_len n c.args.server.workers) (omega (arith, c.len-first.ensures, c.args.server.pollers.ok.0)));
      workers_own = All-map (λ (w : WorkerPart). (w.owned.own.seat ≡ fresh_seat (arc_value c.in_ok-shared.shared).claims) × HasOneOfEach ends (ends_of w.owned))
          (λ w. worker_part w.number w.owned) _ (λ k d below. let own = workers.own k d below in (own.0, one_of_all pollers.left (ends_of (get_or c.in_ok-workers.workers.items k d).owned) own.1));
    })
