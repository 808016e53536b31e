-- How many parts the slots are dealt in.
use Rattle.std.proofs.{Common.{◌≡◌, ℕ, ◌-◌, arith, ◌+◌, ◌*◌, ◌/◌, ◌<◌, ◌≤◌}, Math.Nat.{div-mul-le_self, lt-div-mul-add, div-lt_iff_lt-mul}}
use Rattle.sizes.specs.Splits.{parts_of}

-- parts of this size are no more than the pollers that they are made for
below : (slots pollers : ℕ) → 1 ≤ pollers → (slots - 1) / ((slots - 1) / pollers + 1) < pollers
below slots pollers some =
    let q : ℕ = (slots - 1) / pollers in
    let high : slots - 1 < q * pollers + pollers = lt-div-mul-add some in
    (div-lt_iff_lt-mul (omega arith)).1 (grind arith)

pub parts_le : (slots pollers : ℕ) → 1 ≤ pollers → parts_of slots ((slots - 1) / pollers + 1) ≤ pollers
parts_le slots pollers some = let most = below slots pollers some in omega arith

-- and as many, if they are few
pub parts_of_size : (slots pollers : ℕ) → 1 ≤ pollers → pollers * pollers ≤ slots → parts_of slots ((slots - 1) / pollers + 1) ≡ pollers
parts_of_size slots pollers some square =
    let q : ℕ = (slots - 1) / pollers in
    let low : q * pollers ≤ slots - 1 = div-mul-le_self (slots - 1) pollers in
    let high : slots - 1 < q * pollers + pollers = lt-div-mul-add some in
    let wide : pollers ≤ q + 1 = grind arith in
    let most : (slots - 1) / (q + 1) < pollers = below slots pollers some in
    let least : ((slots - 1) / (q + 1) < pollers - 1) → ⊥ = λ less. (let few : slots - 1 < (pollers - 1) * (q + 1) = (div-lt_iff_lt-mul (omega arith)).0 less in grind arith) in
    grind arith
