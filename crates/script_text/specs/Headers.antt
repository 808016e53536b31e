-- The header of a script, which says what the script covers, and its sizes. It is the first line that is not skipped.
use Rattle.std.specs.{Prelude.{ℕ, ◌≤◌, nat_lt, nat_le, ◌&&◌, if◌then◌else◌, List, [], ◌∷◌, codes, length, Option, Some, None, option_map, option_and_then}, Str.bytes_eq}
use Rattle.token.specs.Names.{last_generation}
use Rattle.world.specs.{declared.limits.Limits.Limits, Leads.{LeadTable, for_all}, States.IsWithinLimits}
use Rattle.script_text.specs.{declared.header.Header.{Header, TheVariants.{Flow, World}}, Texts.{words_between, value_after, bytes_after, Found, word_then, if_last}}

-- `KEY=N` with N from 1 to `most`
abbrev pub size_of : List ℕ → ℕ → List ℕ → Option ℕ
size_of key most word = option_and_then (λ n. if nat_lt 0 n && nat_le n most then Some n else None) (value_after key word)

-- `gen=G` with G from 0 to 2^47 - 2
abbrev pub generation_before : List ℕ → Option ℕ
generation_before word = option_and_then (λ n. if nat_lt n last_generation then Some n else None) (value_after (codes "gen=") word)

-- `ring=R`, the bytes of a ring
abbrev pub ring_of : List ℕ → Option ℕ
ring_of word = size_of (codes "ring=") 65536 word

-- the bytes that a ring may have
abbrev pub IsRing : ℕ → Type 0
IsRing n = (1 ≤ n) × (n ≤ 65536)

-- `idle=L`, the idle limit in seconds, 1 to 86,400
abbrev pub idle_of : List ℕ → Option ℕ
idle_of word = size_of (codes "idle=") 86400 word

-- its sizes are within their limits
abbrev pub SizesFit : Header → Type 0
SizesFit (Flow ring) = IsRing ring
SizesFit (World limits) = IsWithinLimits limits

-- these bytes for all connections, if a lead may have as many
abbrev pub short_enough : List ℕ → Option LeadTable
short_enough bytes = if nat_le (length bytes) 107 then Some (for_all bytes) else None

-- `lead=HEX`, the bytes that each target is sent before those of its client, 1 to 107 of them
abbrev pub lead_table : List ℕ → Option LeadTable
lead_table word = option_and_then short_enough (bytes_after (codes "lead=") word)

-- what the first word says; if it says no such thing, the word stays, and the value is `otherwise`
abbrev pub found_or : {X : Type 0} → X → List ℕ → List (List ℕ) → Option X → Found X
found_or otherwise word words (Some x) = record { value = x; words = words }
found_or otherwise word words None = record { value = otherwise; words = word ∷ words }

abbrev pub optional_word : {X : Type 0} → (List ℕ → Option X) → X → List (List ℕ) → Found X
optional_word read otherwise [] = record { value = otherwise; words = [] }
optional_word read otherwise (word ∷ words) = found_or otherwise word words (read word)

-- What may come after the sizes, each at most once and in this order: ` gen=G`, the generation at which the slots
-- start, 0 if it is left out; ` idle=L`, the idle limit, 0 for none; ` lead=HEX`, the lead, empty for none.
abbrev pub with_extras : Limits → List (List ℕ) → Option Limits
with_extras sizes words =
    let generation = optional_word generation_before 0 words in
    let idle = optional_word idle_of 0 generation.words in
    let lead = optional_word lead_table (for_all []) idle.words in
    if_last (record sizes { generation = generation.value; idle = idle.value; lead = lead.value }) lead.words

-- `slots=S workers=W ring=R budget=B`, and the rest
abbrev pub limits_of : List (List ℕ) → Option Limits
limits_of =
    word_then (size_of (codes "slots=") 64) (λ slots. word_then (size_of (codes "workers=") 16) (λ workers.
    word_then ring_of (λ ring. word_then (size_of (codes "budget=") 1024) (λ budget.
    with_extras (record { slots = slots; workers = workers; ring = ring; budget = budget; generation = 0; idle = 0; lead = for_all [] })))))

abbrev pub lone_ring : List (List ℕ) → Option ℕ
lone_ring = word_then ring_of (λ ring. if_last ring)

-- `flow ring=R`, or `world` and its limits
abbrev pub header_of_words : List (List ℕ) → Option Header
header_of_words [] = None
header_of_words (name ∷ words) =
    if bytes_eq name (codes "flow") then option_map Flow (lone_ring words)
    else if bytes_eq name (codes "world") then option_map World (limits_of words)
    else None

abbrev pub header_of : List ℕ → Option Header
header_of line = header_of_words (words_between line)
