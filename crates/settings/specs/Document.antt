-- What a TOML document sets, by the table of the settings, and what is wrong in one.
use Rattle.std.specs.{Prelude.{◌≡◌, ◌≢◌, ℕ, ◌≤◌, List, [], ◌∷◌, Some, None, Result, Ok, Err, MatchOption, IsSome, pos, ◌⊎◌, ◌++◌}, Ordering.nat_cmp, Cmp.Lexicographic.slice_cmp, declared.cmp.Ordering.TheVariants.Greater, Str.IsUtf8, Fmt.decimal}
use Rattle.toml.specs.{Data.{Data, Members, get_member, as_str, as_integer, as_bool}, Parse.parse_document}
use Rattle.settings.specs.{Addresses.{IsAddress, address_text}, Table.{level_name, truth_name, key_name, Setting, address, number, level, truth, ValueKind, an_address, a_number, a_level, a_truth, Row, row_of, setting, keys}, declared.{table.Key.Key, faults.SettingsFault.{SettingsFault, TheVariants.{Missing, WrongKind, OutOfRange, BadAddress, NotToml, UnknownKey}}, fields.Settings.Settings}}

-- the value is a text, a whole number or a truth value, as the kind asks
abbrev pub HasKind : ValueKind → Data → Type 0
HasKind (an_address lowest) d = IsSome (as_str d)
HasKind (a_number low high) d = IsSome (as_integer d)
HasKind a_level d = IsSome (as_str d)
HasKind a_truth d = IsSome (as_bool d)

-- the value writes this setting, which is in the range of the kind
abbrev pub Writes : ValueKind → Data → Setting → Type 0
Writes (an_address lowest) d (address a) = (as_str d ≡ Some (address_text a)) × IsAddress a × (lowest ≤ a.1)
Writes (a_number low high) d (number n) = (as_integer d ≡ Some (pos n)) × (low ≤ n) × (n ≤ high)
Writes a_level d (level l) = as_str d ≡ Some (level_name l)
Writes a_truth d (truth b) = as_bool d ≡ Some b
Writes _ _ _ = ⊥

-- the fault of a value that has the kind and writes no setting; every truth value writes one
abbrev pub refusal : ValueKind → Key → SettingsFault
refusal (an_address lowest) k = BadAddress k
refusal (a_number low high) k = OutOfRange k
refusal a_level k = OutOfRange k
refusal a_truth k = OutOfRange k

-- the document sets the key to this: by the value that it has for the key, or else by default
abbrev pub Gives : Row → Members → Setting → Type 0
Gives row doc v = MatchOption (get_member (key_name row.key) doc) (row.default ≡ Some v) (λ d. Writes row.kind d v)

-- the value has this fault: it is not of the kind, or it is and writes no setting
abbrev pub Refuses : ValueKind → Key → Data → SettingsFault → Type 0
Refuses kind k d fault =
    ((¬ (HasKind kind d)) × (fault ≡ WrongKind k))
    ⊎ (HasKind kind d × ((v : Setting) → ¬ (Writes kind d v)) × (fault ≡ refusal kind k))

-- the key has this fault in the document: a required key is missing, or its value is refused
abbrev pub Faults : Row → Members → SettingsFault → Type 0
Faults row doc fault =
    MatchOption (get_member (key_name row.key) doc) ((row.default ≡ None) × (fault ≡ Missing row.key))
    (λ d. Refuses row.kind row.key d fault)

-- what was read is the key's setting by the document, or the key's fault
abbrev pub Reads : {X : Type 0} → (X → Setting) → Row → Members → Result X SettingsFault → Type 0
Reads setting row doc (Ok x) = Gives row doc (setting x)
Reads setting row doc (Err fault) = Faults row doc fault

-- the document gives each key its setting in v
abbrev pub GivesEach : Members → (Key → Setting) → Type 0
GivesEach doc v = (k : Key) → Gives (row_of k) doc (v k)

-- the first of these keys that has a fault in the document has this fault
abbrev pub IsFirstFault : List Key → Members → SettingsFault → Type 0
IsFirstFault [] doc fault = ⊥
IsFirstFault (k ∷ ks) doc fault = Faults (row_of k) doc fault ⊎ (((v : Setting) × Gives (row_of k) doc v) × IsFirstFault ks doc fault)

-- the document has this name at its top level, and no key has the name
abbrev pub IsUnknown : Members → List ℕ → Type 0
IsUnknown doc name = IsSome (get_member name doc) × ((k : Key) → name ≢ key_name k)

-- the first unknown name by the order of bytes
abbrev pub IsFirstUnknown : Members → List ℕ → Type 0
IsFirstUnknown doc name = IsUnknown doc name × ((other : List ℕ) → IsUnknown doc other → slice_cmp nat_cmp name other ≢ Greater)

abbrev pub HasNoUnknown : Members → Type 0
HasNoUnknown doc = (name : List ℕ) → ¬ (IsUnknown doc name)

-- The settings of a text, its fault, and how settings are printed.

-- the bytes are UTF-8, and TOML reads them as this document
abbrev pub IsDocument : List ℕ → Members → Type 0
IsDocument text doc = IsUtf8 text × (parse_document text ≡ Some doc)

-- the text has these settings: no unknown key, and each key set by its row of the table
abbrev pub IsSettingsOf : List ℕ → Settings → Type 0
IsSettingsOf text s = (doc : Members) × IsDocument text doc × HasNoUnknown doc × GivesEach doc (setting s)

-- the document's fault: its first unknown key, or if it has none the first fault in the order of the keys
abbrev pub IsFaultOfDocument : Members → SettingsFault → Type 0
IsFaultOfDocument doc fault =
    ((name : List ℕ) × (fault ≡ UnknownKey name) × IsFirstUnknown doc name) ⊎ (HasNoUnknown doc × IsFirstFault keys doc fault)

-- the text has this fault: it is no document, or it is one that has this fault
abbrev pub IsFaultOf : List ℕ → SettingsFault → Type 0
IsFaultOf text fault =
    ((fault ≡ NotToml) × ((doc : Members) → ¬ (IsDocument text doc)))
    ⊎ ((doc : Members) × IsDocument text doc × IsFaultOfDocument doc fault)

-- a setting as it is printed
abbrev pub setting_text : Setting → List ℕ
setting_text (address a) = address_text a
setting_text (number n) = decimal n
setting_text (level l) = level_name l
setting_text (truth b) = truth_name b

-- a line `KEY=VALUE` for each of these keys
abbrev pub lines_text : List Key → Settings → List ℕ
lines_text [] s = []
lines_text (k ∷ ks) s = key_name k ++ 61 ∷ (setting_text (setting s k) ++ 10 ∷ lines_text ks s)

-- a line for each key
abbrev pub settings_text : Settings → List ℕ
settings_text s = lines_text keys s
