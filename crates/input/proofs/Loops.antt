-- What a text is by its pieces and digits, and what a loop of reads keeps: the text is what the reader has given.
use Rattle.std.{proofs.{Common.{◌≡◌, ℕ, ◌+◌, List, [], ◌∷◌, Some, None, Bool, true, false, cond, take, drop, arith, subst, refl, ◌<◌, ◌≤◌, ◌^◌, ◌&&◌, length, get_or, ap, ◌∙◌, drop_of_length-le, ◌≢◌, ◌++◌, Option, sym, append-nil, length-append}, lemmas.{Bool.{ltb-true, ltb-false, le-ltb, lt-ltb}, Option.cond_some, List.{drop_more, take_all, Sums.fails_before_first, Splits.{slice_split_first, slice_split_none}}}, KnownBytes.Consumes-trans, Math.Seq.take-append_seam}, specs.{List.{slice_split, position, list_all}, Prelude.{fold, IfSome}, Io.KnownBytes.{Consumes, IsAtEnd}}}
use Rattle.input.specs.Texts.{is_digit, is_plain, value_of, with_digit, number_of, TakesAtMost, TakesSome, ReadsOn, Stops}

-- What stands before and after the first separator.

-- a choice of nothing was no choice of something
nothing_chosen : (b : Bool) (n : ℕ) → cond b (Some n) None ≡ None → b ≡ false
nothing_chosen true n none = absurd (cc)
nothing_chosen false n none = refl

pub split_at_first : (p : ℕ → Bool) (xs : List ℕ) (at : ℕ) → position p xs ≡ Some at → slice_split p xs ≡ take at xs ∷ slice_split p (drop (at + 1) xs)
split_at_first p xs at found =
    let (inside, is) = cond_some _ _ _ found in
    subst (λ (i : ℕ). slice_split p xs ≡ take i xs ∷ slice_split p (drop (i + 1) xs)) is (slice_split_first p xs 0 (ltb-true _ _ inside))

pub split_nowhere : (p : ℕ → Bool) (xs : List ℕ) → position p xs ≡ None → slice_split p xs ≡ xs ∷ []
split_nowhere p xs none =
    let past = ltb-false _ _ (nothing_chosen _ _ none) in
    slice_split_none p xs (λ k d below. fails_before_first p xs k d (omega (arith, past, below)))

-- Which texts are no numbers.

-- the value grows with each digit
value_grows : (n : ℕ) (digits : List ℕ) → n ≤ fold with_digit n digits
value_grows n [] = omega arith
value_grows n (digit ∷ digits) = omega (arith, value_grows (with_digit n digit) digits)

none_at_last : (plain digits : Bool) (n : ℕ) → cond (plain && (digits && false)) (Some n) None ≡ None
none_at_last true true n = refl
none_at_last true false n = refl
none_at_last false digits n = refl

module _ (text : List ℕ) (value i : ℕ) (is : value_of text ≡ fold with_digit value (drop i text)) where
  -- a digit that takes the value to 2^64 or past it
  pub too_large_at : i < length text → 2 ^ 64 ≤ with_digit value (get_or text i 0) → number_of text ≡ None
  too_large_at within large =
      let next = is ∙ ap (fold with_digit value) (drop_more text i 0 within) in
      let grows = value_grows (with_digit value (get_or text i 0)) (drop (i + 1) text) in
      rw (le-ltb (value_of text) (2 ^ 64) (omega (arith, next, large, grows))) (none_at_last (is_plain text) (list_all is_digit text) (value_of text))

  -- digits to the end, whose value fits
  pub whole_number : length text ≤ i → is_plain text ≡ true → list_all is_digit text ≡ list_all is_digit (drop i text) → value < 2 ^ 64 → Some value ≡ number_of text
  whole_number past plain digits fits =
      let ended = drop_of_length-le text past in
      rw (plain, digits ∙ ap (list_all is_digit) ended, is ∙ ap (fold with_digit value) ended, lt-ltb value (2 ^ 64) fits) refl

pub record Reads (most : ℕ) (first now : Option (List ℕ)) (text : List ℕ) (reads : ℕ) : Type 0 where
  pub consumed : Consumes first now text
  pub many : reads ≤ length text
  pub few : length text ≤ most

-- a text as long as is wanted
full_front : (most : ℕ) (a b : Option (List ℕ)) (text : List ℕ) → Consumes a b text → length text ≡ most → IfSome a (λ input. text ≡ take most input)
full_front most None b text p full = tt
full_front most (Some input) None text p full = absurd p
full_front most (Some input) (Some rest) text p full = rw (p, sym full) (sym (take-append_seam text rest))

-- all of the input
whole : (most : ℕ) (a c : Option (List ℕ)) (text : List ℕ) → Consumes a c text → IsAtEnd c → length text ≤ most → IfSome a (λ input. text ≡ take most input)
whole most None c text p none few = tt
whole most (Some input) None text p none few = absurd p
whole most (Some input) (Some rest) text p none few = rw (p ∙ ap (λ (xs : List ℕ). text ++ xs) none ∙ append-nil text) (sym (take_all most text few))

module _ (most : ℕ) (a b c : Option (List ℕ)) (text : List ℕ) (reads : ℕ) (r : Reads most a b text reads) where
  pub filled : most ≤ length text → IfSome a (λ input. text ≡ take most input)
  filled long = full_front most a b text r.consumed (omega (arith, long, r.few))

  pub taken_last : Stops most b c text → TakesAtMost most a c
  taken_last stop = (text ++ stop.bytes, (Consumes-trans a b c text stop.bytes r.consumed stop.consumed, omega (arith, stop.few, length-append text stop.bytes)))

  -- the last read took some
  pub taken_some : TakesSome b c → TakesSome a c
  taken_some (bytes, (consumed, some)) = (text ++ bytes, (Consumes-trans a b c text bytes r.consumed consumed, omega (arith, some, length-append text bytes)))

  -- one more read
  module _ (more : List ℕ) (n : ℕ) (on : ReadsOn most b c text more n) (few : length more ≤ most) where
    gone : Consumes a c more
    gone = rw on.appended (Consumes-trans a b c text on.bytes r.consumed on.consumed)

    pub more_read : n ≢ 0 → Reads most a c more (reads + 1)
    more_read some = record { consumed = gone; many = omega (arith, r.many, on.count, ap length on.appended, length-append text on.bytes, some); few = few }

    pub ended : n ≡ 0 → length text < most → IfSome a (λ input. more ≡ take most input)
    ended none room = whole most a c more gone (on.at_end none room) few

    pub taken_more : TakesAtMost most a c
    taken_more = (more, (gone, few))
