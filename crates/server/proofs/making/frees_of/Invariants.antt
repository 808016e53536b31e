use Rattle.std.{proofs.Common.{◌≡◌, ℕ, ◌∷◌, map, replicate}, specs.List.range_with_len}
use Rattle.queues.specs.Steps.{unused, opened}
use Rattle.sizes.specs.Splits.{part_of}
use Rattle.server.proofs.making.frees_of.Given as goal

abbrev pub invariant-loop-number : goal.invariant-loop-number
invariant-loop-number g l = map (λ ends. ends.items) l.frees.items
    ≡ map (λ (number : ℕ). opened (part_of l.split.slots l.split.size number).first (part_of l.split.slots l.split.size number).slots
    ∷ replicate l.workers (unused (part_of l.split.slots l.split.size number).slots)) (range_with_len 0 l.number)
