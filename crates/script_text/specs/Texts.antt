-- How a script is cut into lines and words, and how numbers and bytes are written in it.
use Rattle.std.specs.{Prelude.{ℕ, ◌+◌, ◌==◌, nat_lt, nat_le, Bool, true, ◌&&◌, ◌||◌, if◌then◌else◌, List, [], ◌∷◌, length, Option, Some, None, take, drop, option_and_then, ◌≡◌, false, codes, IsSome, option_map, Result, Ok, Err}, List.list_all, Str.bytes_eq, Result.result_ok}
use Rattle.hex.specs.Hex.{decode_of}
pub use Rattle.input.specs.Texts.{is_digit, is_plain, number_of, pieces_left, pieces_of, value_of, with_digit}
use Rattle.script_text.specs.declared.readers.NotRead.{NotRead}
use Rattle.script_text.specs.declared.readers.NotRead.TheVariants as not_read

-- Lines end at LF, and the last may lack it. Words are separated by single spaces, and by no other byte.
abbrev pub lines_of : List ℕ → List (List ℕ)
lines_of text = pieces_of 10 text

abbrev pub words_between : List ℕ → List (List ℕ)
words_between line = pieces_of 32 line

-- a line, with its number in the text
pub record NumberedLine : Type 0 where
  pub number : ℕ
  pub text : List ℕ

-- a line says nothing, and is skipped, if it is empty or begins with #
abbrev pub says_nothing : List ℕ → Bool
says_nothing [] = true
says_nothing (byte ∷ bytes) = byte == 35

-- the lines that say something, if the first of all lines has the number n: skipped lines count, too
abbrev pub telling_lines : ℕ → List (List ℕ) → List NumberedLine
telling_lines n [] = []
telling_lines n (text ∷ texts) =
    if says_nothing text then telling_lines (n + 1) texts
    else (record { number = n; text = text }) ∷ telling_lines (n + 1) texts

-- the number that a text stands for, if it is below a bound
abbrev pub number_below : ℕ → List ℕ → Option ℕ
number_below bound text = option_and_then (λ n. if nat_lt n bound then Some n else None) (number_of text)

-- the number after a key, which ends with its =
abbrev pub value_after : List ℕ → List ℕ → Option ℕ
value_after key word = if bytes_eq (take (length key) word) key then number_of (drop (length key) word) else None

-- digits of lower-case hexadecimal
abbrev pub is_lower_hex : ℕ → Bool
is_lower_hex byte = is_digit byte || (nat_le 97 byte && nat_le byte 102)

-- 1 to 2,048 digits of lower-case hexadecimal; an odd number of digits stands for no bytes, below
abbrev pub is_hex_text : List ℕ → Bool
is_hex_text text = nat_lt 0 (length text) && (nat_le (length text) 2048 && list_all is_lower_hex text)

-- the bytes that a text stands for in lower-case hexadecimal, 1 to 1,024 of them
abbrev pub hex_bytes : List ℕ → Option (List ℕ)
hex_bytes text = if is_hex_text text then result_ok (decode_of text) else None

-- the bytes after a key, which ends with its =
abbrev pub bytes_after : List ℕ → List ℕ → Option (List ℕ)
bytes_after key word = if bytes_eq (take (length key) word) key then hex_bytes (drop (length key) word) else None

-- How a line is read: word by word, from left to right. Part of the promises down to `full_of`; the rest is what the
-- calls that read a word or a line say.

-- what was read, and the words after it
pub record Found (X : Type 0) : Type 0 where
  pub value : X
  pub words : List (List ℕ)

-- what the first word says
abbrev pub first_as : {X : Type 0} → (List ℕ → Option X) → List (List ℕ) → Option (Found X)
first_as read [] = None
first_as read (word ∷ words) = option_map (λ x. record { value = x; words = words }) (read word)

-- what the words after the first one say, given what the first one says
abbrev pub word_then : {X Y : Type 0} → (List ℕ → Option X) → (X → List (List ℕ) → Option Y) → List (List ℕ) → Option Y
word_then read next words = option_and_then (λ found. next found.value found.words) (first_as read words)

-- no word is left
abbrev pub line_end : List (List ℕ) → Option (Unit {0})
line_end [] = Some tt
line_end (word ∷ words) = None

-- a value, if no word is left
abbrev pub if_last : {X : Type 0} → X → List (List ℕ) → Option X
if_last x words = option_map (λ _. x) (line_end words)

-- ` full` or nothing: whether a write left no room
abbrev pub full_of : List (List ℕ) → Option Bool
full_of [] = Some false
full_of (word ∷ words) = if bytes_eq word (codes "full") then if_last true words else None

-- The call read what is defined, or refused since nothing is.
abbrev pub ReadsDefined : {X E : Type 0} → Option X → Result X E → Type 0
ReadsDefined defined (Ok x) = defined ≡ Some x
ReadsDefined defined (Err wrong) = defined ≡ None

-- `ReadsDefined`, for the first of some words; `left` are the words after it.
abbrev pub Takes : {X E : Type 0} → Option (Found X) → Result X E → List (List ℕ) → Type 0
Takes defined (Ok x) left = defined ≡ Some (record { value = x; words = left })
Takes defined (Err wrong) left = defined ≡ None

-- `ReadsDefined` for a whole line, of which `left` is not read yet, and must be empty.
abbrev pub ReadsLine : {X E : Type 0} → Option X → Result X E → List (List ℕ) → Type 0
ReadsLine defined (Ok x) left = defined ≡ if_last x left
ReadsLine defined (Err wrong) left = defined ≡ None

-- `ReadsDefined` for a call that needs memory: memory runs out only for what can be read. A value is compared as `view` sees
-- it.
abbrev pub ReadsBy : {X Y : Type 0} → (Y → X) → Option X → Result Y NotRead → Type 0
ReadsBy view defined (Ok x) = defined ≡ Some (view x)
ReadsBy view defined (Err (not_read.Malformed wrong)) = defined ≡ None
ReadsBy view defined (Err not_read.NoMemory) = IsSome defined
