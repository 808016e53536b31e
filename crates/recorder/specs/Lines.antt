-- Which line of a recording is in which of its files. In each list the last one comes first.
use Rattle.std.specs.Prelude.{◌≡◌, ◌≤◌, ℕ, Bool, true, false, List, [], ◌∷◌, ◌++◌, length, max, codes, Option, Some}
use Rattle.record_lines.specs.{Parts.Are, Texts.{header_text, record_text}, declared.{act.{Record.Record, Act.{Act, TheVariants.Full}}, header.Header.Header}}

abbrev pub header_line : Header → List ℕ
header_line header = header_text header ++ codes "\n"

abbrev pub record_line : Record → List ℕ
record_line r = record_text r ++ codes "\n"

abbrev pub joined : List (List Record) → List Record
joined [] = []
joined (part ∷ before) = part ++ joined before

-- the greatest count of these records
abbrev pub greatest_of : List Record → ℕ
greatest_of [] = 0
greatest_of (r ∷ records) = max (greatest_of records) r.after

-- the first line of a file after these: it names the greatest count in them
abbrev pub first_line : Header → List (List Record) → List ℕ
first_line header [] = header_line header
first_line header (part ∷ before) = header_line (record header { from = Some (greatest_of (part ++ joined before)) })

-- the text of a file of these records after others
abbrev pub part_text : Header → List (List Record) → List Record → List ℕ
part_text header before [] = first_line header before
part_text header before (r ∷ part) = part_text header before part ++ record_line r

abbrev pub texts_of : Header → List (List Record) → List (List ℕ)
texts_of header [] = []
texts_of header (part ∷ before) = part_text header before part ∷ texts_of header before

abbrev pub Fit : ℕ → List (List ℕ) → Type 0
Fit most [] = Unit {0}
Fit most (text ∷ texts) = (length text ≤ most) × Fit most texts

abbrev pub is_full : Act → Bool
is_full Full = true
is_full act = false

-- whether the last of these records says that others were lost
abbrev pub ends_short : List Record → Bool
ends_short [] = false
ends_short (r ∷ records) = is_full r.act

-- nothing of a file stands after such a record
abbrev pub EndsThere : List Record → Type 0
EndsThere [] = Unit {0}
EndsThere (r ∷ part) = (ends_short part ≡ false) × EndsThere part

abbrev pub EachEndsThere : List (List Record) → Type 0
EachEndsThere [] = Unit {0}
EachEndsThere (part ∷ before) = EndsThere part × EachEndsThere before

-- The files with these texts, if they are known, hold the lines of these records and no others, each once and in order. Each
-- begins with its first line, has at most `most` bytes, and ends where records were lost. The last one has `size`, and no
-- record a greater count; `over`: it ends there
pub record HoldsLines (header : Header) (most : ℕ) (records : List Record) (texts : Option (List (List ℕ)))
    (size greatest : ℕ) (over : Bool) : Type 0 where
  pub last : List Record
  pub before : List (List Record)
  pub all : last ++ joined before ≡ records
  pub written : Are texts (texts_of header (last ∷ before))
  pub fit : Fit most (texts_of header (last ∷ before))
  pub long : length (part_text header before last) ≡ size
  pub highest : greatest_of records ≡ greatest
  pub lost : EachEndsThere (last ∷ before)
  pub end : ends_short last ≡ over
