-- How a text is cut into pieces, and which texts are numbers.
use Rattle.std.specs.{Prelude.{◌≡◌, ℕ, ◌+◌, ◌<◌, ◌≤◌, List, ◌++◌, length, Option, ◌-◌, ◌*◌, ◌^◌, ◌==◌, nat_lt, nat_le, Bool, true, false, not, ◌&&◌, if◌then◌else◌, [], ◌∷◌, fold, Some, None}, Io.KnownBytes.{Consumes, IsAtEnd}, List.{slice_split, list_all}}

-- What reads take from a reader whose bytes are known. `ReadsOn` and `Stops` are for proofs alone.

-- the reads took at most `most` bytes
abbrev pub TakesAtMost : ℕ → Option (List ℕ) → Option (List ℕ) → Type 0
TakesAtMost most old new = (bytes : List ℕ) × (Consumes old new bytes × (length bytes ≤ most))

-- the reads took at least one byte
abbrev pub TakesSome : Option (List ℕ) → Option (List ℕ) → Type 0
TakesSome old new = (bytes : List ℕ) × (Consumes old new bytes × (0 < length bytes))

-- one read appended n bytes to a text; n is 0 only at the end of the input, or if the text was full
pub record ReadsOn (most : ℕ) (before after : Option (List ℕ)) (old new : List ℕ) (n : ℕ) : Type 0 where
  pub bytes : List ℕ
  pub consumed : Consumes before after bytes
  pub appended : new ≡ old ++ bytes
  pub count : length bytes ≡ n
  pub at_end : n ≡ 0 → length old < most → IsAtEnd after

-- one read took no more bytes than the text had room for, and they are lost
pub record Stops (most : ℕ) (before after : Option (List ℕ)) (old : List ℕ) : Type 0 where
  pub bytes : List ℕ
  pub consumed : Consumes before after bytes
  pub few : length old + length bytes ≤ most

-- the pieces between separators
abbrev pub pieces_of : ℕ → List ℕ → List (List ℕ)
pieces_of separator text = slice_split (λ byte. byte == separator) text

-- the pieces of what is left of a text; none if nothing is left
abbrev pub pieces_left : ℕ → Option (List ℕ) → List (List ℕ)
pieces_left separator None = []
pieces_left separator (Some rest) = pieces_of separator rest

-- decimal digits
abbrev pub is_digit : ℕ → Bool
is_digit byte = nat_le 48 byte && nat_le byte 57

-- n with this digit (its ASCII code) at the end
abbrev pub with_digit : ℕ → ℕ → ℕ
with_digit n digit = n * 10 + (digit - 48)

-- the value of decimal digits, the highest first
abbrev pub value_of : List ℕ → ℕ
value_of digits = fold with_digit 0 digits

-- the text is not empty, and has no leading zero unless it is a single 0
abbrev pub is_plain : List ℕ → Bool
is_plain [] = false
is_plain (digit ∷ []) = true
is_plain (digit ∷ next ∷ digits) = not (digit == 48)

-- the number that a text stands for in decimal digits without leading zeros, if it is below 2^64
abbrev pub number_of : List ℕ → Option ℕ
number_of text =
    if is_plain text && (list_all is_digit text && nat_lt (value_of text) (2 ^ 64)) then Some (value_of text) else None
