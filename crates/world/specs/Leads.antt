-- Which lead each connection has, and how one lies in its array.
use Rattle.std.specs.Prelude.{◌≡◌, ℕ, ◌-◌, ◌≤◌, List, [], ◌++◌, length, take, replicate, get_or}

-- `own` has leads by slot and then by generation. A connection that is not listed there has the lead `others`
pub record LeadTable : Type 0 where
  pub own : List (List (List ℕ))
  pub others : List ℕ

-- all connections have this lead
abbrev pub for_all : List ℕ → LeadTable
for_all bytes = record { own = []; others = bytes }

-- the lead of the connection of generation g in slot s
abbrev pub lead_at : LeadTable → ℕ → ℕ → List ℕ
lead_at l s g = get_or (get_or l.own s []) g l.others

-- the bytes, and then zeros up to the array's length
abbrev pub padded : List ℕ → List ℕ
padded bytes = bytes ++ replicate (107 - length bytes) 0

-- the first `len` bytes of the array are the lead's, and the others 0
pub record IsPadded (len : ℕ) (bytes : List ℕ) : Type 0 where
  pub whole : length bytes ≡ 107
  pub within : len ≤ 107
  pub zeros : bytes ≡ padded (take len bytes)
