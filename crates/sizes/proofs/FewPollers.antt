-- Pollers are few: their square is no more than the slots.
use Rattle.std.proofs.{Common.{◌≡◌, ◌⊎◌, ℕ, ◌*◌, ◌/◌, ◌≤◌, min, max, subst, sym, arith, inl, inr}, Math.Nat.{div-mul-le_self, mul-le-mul_right}}
use Rattle.sizes.specs.Pollers.{pollers_for}
use mathlib.Core.Logic.{dite}
use native.Mathlib.Decide.{ℕ_discrete}

wide : (most workers slots : ℕ) → most * 64 ≤ slots → (max (min most workers) 1 ≡ 1) ⊎ (64 * max (min most workers) 1 ≤ slots)
wide most workers slots room = dite (ℕ_discrete (max (min most workers) 1) 1) (λ one. inl one) (λ more. inr (grind arith))

square_le : (slots p : ℕ) → 1 ≤ slots → p ≤ 16 → (p ≡ 1) ⊎ (64 * p ≤ slots) → p * p ≤ slots
square_le slots p some few (inl one) = subst (λ (n : ℕ). n * n ≤ slots) (sym one) some
square_le slots p some few (inr room) = let most : p * p ≤ 16 * p = mul-le-mul_right p few in omega arith

pub are_few : (slots workers : ℕ) → 1 ≤ slots → 1 ≤ workers → workers ≤ 16 → pollers_for slots workers * pollers_for slots workers ≤ slots
are_few slots workers some least few =
    square_le slots (pollers_for slots workers) some (grind arith) (wide (slots / 64) workers slots (div-mul-le_self slots 64))
