use Rattle.std.proofs.Common.{rules, refl}
use Rattle.record_reader.proofs.{Beginnings.stays_same, beginning.Beginning.keeps.Goals.{then-self-record, else-self-record}}
use Rattle.record_reader.proofs.beginning.Beginning.keeps.Goals as goal

pub returns-then-stays-clause-stays : goal.returns-then-stays-clause-stays
returns-then-stays-clause-stays c =
    λ kept knows inside. (
      elim c.if-self-record.branch [
        | then-self-record w ↦ stays_same c.args.self.now kept c.args.record.now _ _ knows inside (search rules) w.follows-stays.ensures w.stays-is
        | else-self-record w ↦ search rules
      ],
      rw c.if-stays.true (c.note.ensures.known kept c.args.record.now refl knows inside),
    )
