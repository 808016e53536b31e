-- The line for a settings fault.
use Rattle.std.specs.{Prelude.{ℕ, List, [], ◌++◌, ◌-◌, ◌==◌, ◌&&◌, ◌||◌, Bool, false, not, length, take, drop, codes, if◌then◌else◌, nat_lt, nat_le, encode_utf8}, Char.{is_control, is_whitespace}, Fmt.digits, List.flat_map, Str.chars}
use Rattle.settings.specs.{Table.key_name, declared.faults.SettingsFault.{SettingsFault, TheVariants.{NotToml, UnknownKey, Missing, WrongKind, OutOfRange, BadAddress, NoMemory}}}

-- How a text from outside, such as a key that a person wrote, is shown within a line.

-- a character that nobody sees as itself: a control character, a blank other than the space, and what has no width
-- (U+00AD, U+200B to U+200F, U+202A to U+202E, U+2060 to U+206F, and U+FEFF)
abbrev pub is_unseen : ℕ → Bool
is_unseen c =
    is_control c || ((is_whitespace c && not (c == 32)) || ((c == 173 || c == 65279) ||
    ((nat_le 8203 c && nat_le c 8207) || ((nat_le 8234 c && nat_le c 8238) || (nat_le 8288 c && nat_le c 8303)))))

-- a character that is not seen by its number, as `\u{a}`, and any other as itself
abbrev pub shown_character : ℕ → List ℕ
shown_character c = if is_unseen c then codes "\\u{" ++ (digits 16 false c ++ codes "}") else encode_utf8 c

-- what stands for the characters that are left out of this many: `..` if there are over 64
abbrev pub dots : ℕ → List ℕ
dots count = if nat_lt 64 count then codes ".." else []

-- the first 64 characters, and then `..` if there are more
abbrev pub one_line : List ℕ → List ℕ
one_line text = flat_map shown_character (take 64 (chars text)) ++ dots (length (chars text))

-- the last 64 characters, after `..` if there are more
abbrev pub end_of_line : List ℕ → List ℕ
end_of_line text = dots (length (chars text)) ++ flat_map shown_character (drop (length (chars text) - 64) (chars text))

-- the fault is that a key does not take its value
abbrev pub IsOfValue : SettingsFault → Type 0
IsOfValue (WrongKind key) = Unit {0}
IsOfValue (OutOfRange key) = Unit {0}
IsOfValue (BadAddress key) = Unit {0}
IsOfValue _ = ⊥

-- the line that says what is wrong with this name
abbrev pub line_of : List ℕ → List ℕ → List ℕ
line_of name wrong = codes "settings: " ++ (name ++ (codes ": " ++ wrong))

-- the fault's line, without its line feed; of the file's own text it shows only an unknown key
abbrev pub fault_line : SettingsFault → List ℕ
fault_line NotToml = codes "settings: not toml"
fault_line (UnknownKey key) = line_of (one_line key) (codes "unknown key")
fault_line (Missing key) = line_of (key_name key) (codes "missing")
fault_line (WrongKind key) = line_of (key_name key) (codes "wrong kind")
fault_line (OutOfRange key) = line_of (key_name key) (codes "out of range")
fault_line (BadAddress key) = line_of (key_name key) (codes "bad address")
fault_line NoMemory = codes "out of memory"
