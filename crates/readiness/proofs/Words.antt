-- Which word stands where.
use Rattle.std.proofs.{Common.{◌≡◌, ℕ, ◌+◌, ◌++◌, [], ◌∷◌, true, nat_lt, length, slice_index_or, List, Some, refl, ◌∙◌, arith, ltb-true}, lemmas.List.FromFn.{get_or-map-range_with_len, map-range_with_len_more}}
use Rattle.token.specs.declared.side.Side.TheVariants.{Client, Target}
use Rattle.readiness.specs.Words.{WordName, both_of, end_word, words_of}

-- one slot more
pub one_more : (n : ℕ) → words_of (n + 1) ≡ words_of n ++ both_of n ∷ []
one_more n = map-range_with_len_more both_of 0 n n (omega arith)

-- what stands there are the words of that slot
pub found : (ends : List (WordName × WordName)) (n slot : ℕ) (both : WordName × WordName) → n ≡ length ends → ends ≡ words_of n → true ≡ nat_lt slot (length ends)
    → both ≡ slice_index_or ends slot both → (Some both.0 ≡ end_word n slot Client) × (Some both.1 ≡ end_word n slot Target)
found ends n slot both len named inside is =
    let within : nat_lt slot n ≡ true = cc in
    let same : both ≡ both_of slot = rw named at is ∙ get_or-map-range_with_len both_of 0 n slot slot both (ltb-true slot n within) (omega arith) in
    rw same (rw within (refl, refl))
