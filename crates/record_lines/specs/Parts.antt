-- The texts of the files of a recording, where they are known: the last file is the first of the list.
use Rattle.std.specs.Prelude.{◌≡◌, ℕ, List, [], ◌∷◌, ◌++◌, Option, Some, None}

-- the texts are known to be these
abbrev pub Are : Option (List (List ℕ)) → List (List ℕ) → Type 0
Are (Some texts) expected = texts ≡ expected
Are None expected = Unit {0}

-- these bytes are at the end of the last text
abbrev pub add_to : List ℕ → List (List ℕ) → List (List ℕ)
add_to bytes [] = bytes ∷ []
add_to bytes (text ∷ texts) = (text ++ bytes) ∷ texts

abbrev pub AddsParts : List ℕ → Option (List (List ℕ)) → Option (List (List ℕ)) → Type 0
AddsParts bytes (Some old) new = Are new (add_to bytes old)
AddsParts bytes None new = new ≡ None

abbrev pub Begins : Option (List (List ℕ)) → Option (List (List ℕ)) → Type 0
Begins (Some old) new = Are new ([] ∷ old)
Begins None new = new ≡ None

abbrev pub PartsStay : Option (List (List ℕ)) → Option (List (List ℕ)) → Type 0
PartsStay (Some old) new = Are new old
PartsStay None new = new ≡ None
