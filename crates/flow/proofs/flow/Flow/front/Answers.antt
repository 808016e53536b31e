use Rattle.std.proofs.{Common.{◌≡◌, ℕ, ◌≤◌, length, refl, arith}, lemmas.Grind.common_steps}
use Rattle.flow.{specs.Stream.{Stream, front}, proofs.Front.{front-lead, with_front-lead, with_front-unwritten}}
use Rattle.flow.proofs.flow.Flow.front.Goals as goal

-- The lead is what is lent while it is there.
pub returns-then-not-is_empty : goal.returns-then-not-is_empty
returns-then-not-is_empty c =
    let s : Stream = c.args.self.now in
    let n : ℕ = c.self.inside.lead.len in
    let is : n ≡ length s.lead = grind (arith, common_steps) in
    let some : 1 ≤ n = grind (arith, common_steps) in
    let lead : front s ≡ s.lead = front-lead s (omega arith) in (
      (refl, λ w. rw (with_front-lead s n w is some, ← c.self.view_is) refl),
      record {
        lends = tt;
        value = cc;
        unwritten = with_front-unwritten s (omega arith);
      },
    )
