-- The settings of a text, and its fault, are those of the file that has the text.
use Rattle.std.{proofs.{Common.{◌≡◌, ℕ, ◌+◌, ◌<◌, ◌≤◌, List, length, take, min, Option, Some, None, ◌∙◌, ap, arith, ◌≢◌, sym, subst}, lemmas.List.{take_all, length-take}}, specs.Prelude.IfSome}
use Rattle.settings.specs.{Document.{IsSettingsOf, IsFaultOf}, declared.{fields.Settings.Settings, faults.SettingsFault.SettingsFault}}
use Rattle.program.specs.{Faults.{most_bytes, FileSets, HasFault, settings_fault}, declared.faults.ConfigFault.ConfigFault}
use Rattle.settings.specs.declared.faults.SettingsFault.TheVariants as settings

-- A front that is shorter than what was asked for is the whole, and no front is longer than the whole.

short_front : (most : ℕ) (text input : List ℕ) → text ≡ take most input → length text < most → text ≡ input
short_front most text input front short =
    let long : length text ≡ min most (length input) = ap length front ∙ length-take most input in
    front ∙ take_all most input (omega (arith, long, short))

pub short_front_of : (most : ℕ) (text : List ℕ) (left : Option (List ℕ)) → length text < most → IfSome left (λ input. text ≡ take most input) → IfSome left (λ input. text ≡ input)
short_front_of most text None short front = tt
short_front_of most text (Some input) short front = short_front most text input front short

long_front : (most : ℕ) (text input : List ℕ) → text ≡ take most input → length text ≤ length input
long_front most text input front =
    let long : length text ≡ min most (length input) = ap length front ∙ length-take most input in
    omega (arith, long)

pub long_front_of : (most : ℕ) (text : List ℕ) (left : Option (List ℕ)) → most < length text → IfSome left (λ input. text ≡ take (most + 1) input)
    → IfSome left (λ input. most < length input)
long_front_of most text None long front = tt
long_front_of most text (Some input) long front = omega (arith, long, long_front (most + 1) text input front)

abbrev IsMemory : SettingsFault → Type 0
IsMemory settings.NoMemory = Unit {0}
IsMemory _ = ⊥

has_fault : (text : List ℕ) (fault : SettingsFault) → length text ≤ most_bytes → (fault ≢ settings.NoMemory → IsFaultOf text fault) → HasFault text (settings_fault fault)
has_fault text settings.NoMemory few is = tt
has_fault text settings.NotToml few is = (few, is (λ e. subst IsMemory (sym e) tt))
has_fault text (settings.UnknownKey name) few is = (few, is (λ e. subst IsMemory (sym e) tt))
has_fault text (settings.Missing key) few is = (few, is (λ e. subst IsMemory (sym e) tt))
has_fault text (settings.WrongKind key) few is = (few, is (λ e. subst IsMemory (sym e) tt))
has_fault text (settings.OutOfRange key) few is = (few, is (λ e. subst IsMemory (sym e) tt))
has_fault text (settings.BadAddress key) few is = (few, is (λ e. subst IsMemory (sym e) tt))

-- the same of a text that was read into a slice
pub has_fault_of : (left : Option (List ℕ)) (text slice : List ℕ) (fault : SettingsFault) (told : ConfigFault) → IfSome left (λ bytes. text ≡ bytes) → length text ≤ most_bytes
    → slice ≡ text → (fault ≢ settings.NoMemory → IsFaultOf slice fault) → told ≡ settings_fault fault → IfSome left (λ bytes. HasFault bytes told)
has_fault_of None text slice fault told same few all is by = tt
has_fault_of (Some bytes) text slice fault told same few all is by = rw (by, ← same, ← all) (has_fault slice fault (rw all few) is)

pub file_sets_of : (left : Option (List ℕ)) (text slice : List ℕ) (s : Settings) → IfSome left (λ bytes. text ≡ bytes) → length text ≤ most_bytes → slice ≡ text
    → IsSettingsOf slice s → IfSome left (λ bytes. FileSets bytes s)
file_sets_of None text slice s same few all is = tt
file_sets_of (Some bytes) text slice s same few all is = rw (← same, ← all) (rw (all) few, is)
