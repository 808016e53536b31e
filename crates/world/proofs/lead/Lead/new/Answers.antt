use Rattle.world.proofs.Headline.{◌-◌, Some, length, ap, arith, replicate, take-append_seam, for_all, is_padded, List, ℕ}
use Rattle.world.proofs.lead.Lead.new.Goals as goal

pub invariant_of-result : goal.invariant_of-result
invariant_of-result c = rw c.padded.ensures (is_padded c.args.bytes.now (omega arith))

pub returns-clause-short : goal.returns-clause-short
returns-clause-short c = λ within. rw c.padded.ensures (ap (λ (bytes : List ℕ). Some (for_all bytes)) (take-append_seam c.args.bytes.now (replicate (107 - length c.args.bytes.now) 0)))
