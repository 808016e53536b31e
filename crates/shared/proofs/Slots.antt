-- A slot's heavy marks.
use Rattle.std.proofs.{Common.{◌≡◌, ℕ, ◌-◌, List, slice_index, slice_set, sym, ap, ◌∙◌, arith}, lemmas.List.set-get_or}
use Rattle.shared.specs.Heavy.{looked_at}

-- a look at a ticket of a slot without a mark takes none away
pub looked_at_light : (heavy : List ℕ) (slot : ℕ) → slice_index heavy slot ≡ 0 → heavy ≡ looked_at slot heavy
looked_at_light heavy slot light =
    let none : slice_index heavy slot - 1 ≡ slice_index heavy slot = omega arith in
    sym (ap (λ (n : ℕ). slice_set heavy slot n) none ∙ set-get_or heavy slot 0)
