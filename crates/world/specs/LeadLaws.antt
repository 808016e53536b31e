-- What holds of each lead's array. Only for proofs.
use Rattle.std.{proofs.{Common.{◌≡◌, ◌≤◌, ℕ, ◌+◌, ◌-◌, List, ◌++◌, length, take, drop, refl, sym, arith, length-append, ap}, lemmas.List.{length-replicate, length-take-le, drop-replicate}, Math.Seq.take-append_seam}, specs.Prelude.replicate}
use Rattle.world.specs.{Leads.{IsPadded, padded}, declared.lead.Lead.TheInside.Inside}

inside : (n m : ℕ) (xs ys : List ℕ) → n ≡ m → xs ≡ ys → ◌≡◌ {A = Inside} (record { bytes = xs; len = n }) (record { bytes = ys; len = m })
inside n m xs ys e f = rw (e, f) refl

-- the bytes alone determine the array and the length
pub given_back : (len : ℕ) (bytes : List ℕ) (p : IsPadded len bytes)
    → ◌≡◌ {A = Inside} (record { bytes = padded (take len bytes); len = length (take len bytes) }) (record { bytes = bytes; len = len })
given_back len bytes p =
    let room : len ≤ length bytes = (let whole : length bytes ≡ 107 = p.whole in let within : len ≤ 107 = p.within in omega arith) in
    inside (length (take len bytes)) len (padded (take len bytes)) bytes (length-take-le len bytes room) (sym p.zeros)

-- at most 107 bytes, with zeros after them, are a lead's array
pub is_padded : (bytes : List ℕ) → length bytes ≤ 107 → IsPadded (length bytes) (padded bytes)
is_padded bytes within = record {
  whole = (let all : length (padded bytes) ≡ length bytes + length (replicate {A = ℕ} (107 - length bytes) 0) =
      length-append bytes (replicate (107 - length bytes) 0) in
      let rest : length (replicate {A = ℕ} (107 - length bytes) 0) ≡ 107 - length bytes = length-replicate {A = ℕ} (107 - length bytes) 0 in
      omega arith);
  within = within;
  zeros = ap padded (sym (take-append_seam bytes (replicate (107 - length bytes) 0)));
}

-- bytes that are written over zeros have zeros after them
pub written_over : (bytes : List ℕ) → bytes ++ drop (length bytes) (replicate 107 0) ≡ padded bytes
written_over bytes = ap (λ (rest : List ℕ). bytes ++ rest) (drop-replicate (length bytes) 107 0)
