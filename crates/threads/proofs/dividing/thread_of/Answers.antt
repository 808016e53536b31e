use Rattle.std.proofs.Common.{ap, length, sym, ◌∙◌}
use Rattle.claims.proofs.Seats.{fresh_holds_nothing}
use Rattle.threads.proofs.dividing.thread_of.Goals as goal

pub invariant_of-result : goal.invariant_of-result
invariant_of-result g c =
    let owned = c.in_ok-shared.ensures in
    record {
      same = rw (owned.own, owned.shared);
      idle = fresh_holds_nothing _ _ owned.own;
      sized = sym (ap length c.table.ensures.table) ∙ c.if-table-slots.false ∙ c.slots-slots.ensures ∙ ap (λ shared. shared.claims.words) (c.deref.ensures ∙ sym owned.shared);
    }
