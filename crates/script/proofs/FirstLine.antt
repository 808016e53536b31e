-- The lines of a text, which are read one by one.
use Rattle.std.proofs.Common.{◌≡◌, ℕ, true, List, [], ◌∷◌, ◌++◌, Option, Some, Result, Ok, Err, refl, ◌∙◌, append_assoc}
use Rattle.script.specs.{declared.fault.Fault.Fault, Faults.and_then, Scripts.{lines_as, starts_with}}
use Rattle.script_text.specs.Texts.{NumberedLine}

-- one more was read: `seen` is what the items so far say
more : {Y : Type 0} (seen : List Y) (y : Y) (r : Result (List Y) Fault)
    → and_then (λ rest. Ok (seen ++ rest)) (and_then (λ rest. Ok (y ∷ rest)) r) ≡ and_then (λ rest. Ok ((seen ++ (y ∷ [])) ++ rest)) r
more seen y (Ok rest) = rw (append_assoc seen (y ∷ []) rest) refl
more seen y (Err fault) = refl

module _ {X : Type 0} (read : List ℕ → Option X) (ls : List NumberedLine) (l : NumberedLine) (rest : List NumberedLine) (x : X) (is : ls ≡ l ∷ rest)
    (said : read l.text ≡ Some x) where
  -- the first line that is left was read
  pub first_read : starts_with read ls ≡ true
  first_read = rw (is, said) refl

  pub more_read : {Y : Type 0} (numbered : ℕ → X → Y) (all : Result (List Y) Fault) (seen now : List Y) → all ≡ and_then (λ left. Ok (seen ++ left)) (lines_as read numbered ls)
      → now ≡ seen ++ (numbered l.number x ∷ []) → all ≡ and_then (λ left. Ok (now ++ left)) (lines_as read numbered rest)
  more_read numbered all seen now so_far added = so_far ∙ rw (is, said, added) (more seen _ (lines_as read numbered rest))
