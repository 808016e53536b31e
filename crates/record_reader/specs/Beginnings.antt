-- Which records stay of a file that begins after a count: the others follow what is in a file before it. In each list
-- the last record comes first.
use Rattle.std.specs.Prelude.{◌≡◌, ◌<◌, ℕ, Bool, true, false, ◌&&◌, ◌||◌, ◌==◌, List, [], ◌∷◌, length, nat_lt, slice_get, unwrap_or}
use Rattle.record_lines.specs.declared.act.{Record.Record, Act.{Act, TheVariants.{Poller, Begin, End, Wire}}, Polling.{Polling, TheVariants.{Gave, Interrupted, Failed, Open}}}
use Rattle.record_reader.specs.declared.beginning.Beginning.{Beginning}

abbrev pub is_wait : Polling → Bool
is_wait (Gave n) = true
is_wait Interrupted = true
is_wait Failed = true
is_wait did = false

-- a wait of this poller
abbrev pub waits_poller : ℕ → Act → Bool
waits_poller poller (Poller number did) = (poller == number) && is_wait did
waits_poller poller act = false

-- an opening in this slot
abbrev pub opens : ℕ → Act → Bool
opens slot (Poller number (Open at generation opening)) = slot == at
opens slot act = false

abbrev pub has_act : (Act → Bool) → List Record → Bool
has_act is [] = false
has_act is (r ∷ records) = is r.act || has_act is records

-- an act of a poller stays from a wait of it on, and one of a slot from an opening there on
abbrev pub stays_from : (ℕ → Bool) → (ℕ → Bool) → Act → Bool
stays_from waited opened (Poller number did) = is_wait did || waited number
stays_from waited opened (Begin slot) = opened slot
stays_from waited opened (End slot) = opened slot
stays_from waited opened (Wire name made) = opened name.slot
stays_from waited opened act = true

-- a record stays after these, which stay, if its act began after the count, and its beginning is among them
abbrev pub stays : ℕ → List Record → Record → Bool
stays from kept r =
    nat_lt from r.before && stays_from (λ poller. has_act (waits_poller poller) kept) (λ slot. has_act (opens slot) kept) r.act

-- What is known of the records that stay, by a flag for each poller and slot

abbrev pub flag_at : List Bool → ℕ → Bool
flag_at flags at = unwrap_or (slice_get flags at) false

abbrev pub Flags : (ℕ → Act → Bool) → List Record → List Bool → Type 0
Flags is kept flags = (at : ℕ) → at < length flags → flag_at flags at ≡ has_act (is at) kept

abbrev pub KnowsOf : List Record → Beginning → Type 0
KnowsOf kept b = Flags waits_poller kept b.waited.items × Flags opens kept b.opened.items

-- the poller and the slot of an act are there
abbrev pub IsInside : Beginning → Act → Type 0
IsInside b (Poller number (Open at generation opening)) = (number < length b.waited.items) × (at < length b.opened.items)
IsInside b (Poller number did) = number < length b.waited.items
IsInside b (Begin slot) = slot < length b.opened.items
IsInside b (End slot) = slot < length b.opened.items
IsInside b (Wire name made) = name.slot < length b.opened.items
IsInside b act = Unit {0}
