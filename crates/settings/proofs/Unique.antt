-- A text has one answer: at most one setting for each key, and no settings where it has a fault.
use Rattle.std.{proofs.{Common.{◌≡◌, ◌≢◌, ℕ, ◌<◌, ◌^◌, List, length, get_or, Result, Ok, Err, Option, IfSome, IfNone, MatchOption, Bor, ◌++◌, ◌∷◌, sym, ◌∙◌, ap, ap₂, arith, [], map, append_assoc, refl, Some, None, pos, subst, inl, inr, All, lit≤}, NetLemmas.{Ipv4.read_ipv4_complete, Options.same_parts}, lemmas.{Str.{Parse.{IsNumeralModel, numerals_by_value, tells_digits, parse_plain, not_in_digits}, Pattern.{IsSplitOnceResult, split_after}}, Fmt.{decimal_digit, first_decimal, decimal_nonempty, digits_decimal, decimal-digits_value, parse-decimal, decimal_injective}, List.Elements.{All-nil, All-cons, All-tail, All-append, All-from_get_or}, Option.same_Some}}, specs.{Fmt.decimal, Int.IsInRange, Net.{Grammar.{IsDotted, IsIpv4Text, Parses}, Reader.read_ipv4}, Result.result_ok, Str.Parse.{AllDigits, digits_value, ParsesUnsigned}, List.join_with_byte, declared.net.ipv4_addr.Ipv4Addr.Ipv4Addr}}
use Rattle.settings.specs.{Addresses.{IsPlain, SocketAddress, IsAddress, address_text}, Table.{level_name, key_name, setting, Setting, address, number, level, truth, ValueKind, an_address, a_number, a_level, a_truth, Row, row_of, keys}, Document.{HasKind, Writes, GivesEach, Refuses, IsFirstFault, HasNoUnknown, IsDocument, IsSettingsOf, IsFaultOf}, declared.{table.Key.Key, faults.SettingsFault.{SettingsFault, TheVariants.Missing}, fields.Settings.Settings, levels.LogLevel.{LogLevel, TheVariants.{Off, Error, Warn, Info, Debug, Trace}}}}
use Rattle.toml.specs.Data.{Data, Members, get_member}

-- Numbers in decimal, what `parse` makes of a text, and the text of an address, part by part from the left.

pub own : IsNumeralModel (AllDigits 10) (digits_value 10)
own = numerals_by_value (AllDigits 10) tells_digits

-- a byte that is no digit is nowhere in a number's text
pub not_in_decimal : (n c : ℕ) → n < 2 ^ 64 → (IsInRange 48 57 c → ⊥) → (i : ℕ) → i < length (decimal n) → get_or (decimal n) i 0 ≢ c
not_in_decimal n c small no_digit = not_in_digits own (decimal n) c (digits_decimal own n small) no_digit

short_if_zero : (n : ℕ) → n ≡ 0 → length (decimal n) ≡ 1
short_if_zero n e = ap (λ m. length (decimal m)) e ∙ ap length (decimal_digit 0 (omega arith))

-- the text of a number has no sign and no leading zero
pub plain_decimal : (n : ℕ) → n < 2 ^ 64 → IsPlain (decimal n)
plain_decimal n small = (
  not_in_decimal n 43 small (λ digit. omega (arith, digit.0)) 0 (decimal_nonempty n small),
  λ zero_first.
      let not_above : (0 < n) → ⊥ = λ above. omega (arith, first_decimal n above small) in
      short_if_zero n (omega arith),
)

-- a text that `parse` takes for a number, with no sign and no leading zero, is that number's text
pub parsed_plain : {E : Type 0} (bs : List ℕ) (r : Result ℕ E) → ParsesUnsigned 16 10 bs r → IsPlain bs → IfSome (result_ok r) (λ n. bs ≡ decimal n)
parsed_plain {E} bs (Ok n) h plain =
    let given : (AllDigits 10 bs × (0 < length bs) × (digits_value 10 bs < 2 ^ 16)) × (n ≡ digits_value 10 bs) = parse_plain own {E = E} 16 bs (Ok n) h plain.0 in
    sym (ap decimal given.1 ∙ decimal-digits_value own bs given.0.0 given.0.1 plain.1 (omega (arith, given.0.2)))
parsed_plain {E} bs (Err e) h plain = tt

-- a text that `parse` refuses is the text of no number
pub unparsed : {E : Type 0} (bs : List ℕ) (r : Result ℕ E) → ParsesUnsigned 16 10 bs r → IfNone (result_ok r) ((n : ℕ) → n < 2 ^ 16 → bs ≢ decimal n)
unparsed {E} bs (Ok n) h = tt
unparsed {E} bs (Err e) h = λ n small same. let parses : Err e ≡ Ok n = parse-decimal {E = E} 16 n bs (Err e) small (omega arith) same h in cc

-- no `:` stands among numbers and their dots
abbrev IsOther : ℕ → Type 0
IsOther byte = byte ≢ 58

no_colon_in : (n : ℕ) → n < 2 ^ 8 → All IsOther (decimal n)
no_colon_in n small = All-from_get_or IsOther _ 0 (not_in_decimal n 58 (omega arith) (λ digit. omega (arith, digit.1)))

no_colon : (os : List ℕ) → All (λ n. n < 2 ^ 8) os → All IsOther (join_with_byte 46 (map decimal os))
no_colon [] h = All-nil IsOther
no_colon (n ∷ []) h = no_colon_in n (h 0 0 (omega arith))
no_colon (n ∷ m ∷ os) h =
    All-append IsOther _ _ (no_colon_in n (h 0 0 (omega arith))) (All-cons IsOther 46 _ (λ e. omega arith) (no_colon (m ∷ os) (All-tail (λ k. k < 2 ^ 8) n (m ∷ os) h)))

-- `split_once` parts the text of an address into its numbers and its port
pub parted : (text : List ℕ) (a : SocketAddress) (r : Option (Bor (List ℕ) × Bor (List ℕ))) → IsSplitOnceResult 58 text r → IsAddress a → text ≡ address_text a
    → MatchOption r ⊥ (λ x. (x.0.now ≡ join_with_byte 46 (map decimal a.0)) × (x.1.now ≡ decimal a.1))
parted text a r cut h same = split_after 58 text _ (decimal a.1) r cut (omega arith) same (λ i. no_colon a.0 h.1 i 0)

-- four numbers as the library reads them, and back
pub dotted : (text os : List ℕ) → length os ≡ 4 → All (λ n. n < 2 ^ 8) os → text ≡ join_with_byte 46 (map decimal os) → IsDotted text os
dotted text (a ∷ b ∷ c ∷ d ∷ []) four small is = record {
  a = a;
  b = b;
  c = c;
  d = d;
  fit = (small 0 0 (omega arith), small 1 0 (omega arith), small 2 0 (omega arith), small 3 0 (omega arith));
  value = refl;
  spelled = is ∙ simp append_assoc;
}
dotted text _ four small is = absurd (omega arith)

pub undotted : (text os rest : List ℕ) (port : ℕ) → IsDotted text os → rest ≡ decimal port → text ++ (58 ∷ rest) ≡ address_text (os, port)
undotted text os rest port four is = rw (four.value, four.spelled, is) (simp append_assoc)

-- what `parse` makes of such a text
pub read_as : {E : Type 0} (text : List ℕ) (a : Ipv4Addr) (r : Result Ipv4Addr E) → Parses IsIpv4Text text r → result_ok r ≡ Some a → IsIpv4Text text a
read_as text a (Ok b) reads is = subst (IsIpv4Text text) (same_Some _ _ is) reads
read_as text a (Err e) reads is = absurd (cc)

pub is_read : {E : Type 0} (text os : List ℕ) (r : Result Ipv4Addr E) → Parses IsIpv4Text text r → result_ok r ≡ None → IsDotted text os → ⊥
is_read text os (Ok a) reads is four = cc is
is_read text os (Err e) reads is four = reads (record { octets = os }) four

-- an address has a text of its own
pub address_once : (a b : SocketAddress) → IsAddress a → IsAddress b → address_text a ≡ address_text b → a ≡ b
address_once a b p q e =
    let (numbers, ports) = same_parts a.0 b.0 (58 ∷ decimal a.1) (58 ∷ decimal b.1)
    (sym (read_ipv4_complete _ a.0 _ (dotted _ a.0 p.0 p.1 refl) (lit≤ tt)) ∙ ap read_ipv4 e ∙ read_ipv4_complete _ b.0 _ (dotted _ b.0 q.0 q.1 refl) (lit≤ tt)) in
    ap₂ (λ x y. (x, y)) numbers (decimal_injective a.1 b.1 (omega (arith, p.2)) (omega (arith, q.2)) (cc ports))

level_once : (l m : LogLevel) → level_name l ≡ level_name m → l ≡ m
level_once Off Off e = refl
level_once Error Error e = refl
level_once Warn Warn e = refl
level_once Info Info e = refl
level_once Debug Debug e = refl
level_once Trace Trace e = refl
level_once _ _ e = absurd (omega (arith, ap (λ (text : List ℕ). get_or text 0 0) e))

-- a value writes one setting
writes_once : (kind : ValueKind) (d : Data) (v w : Setting) → Writes kind d v → Writes kind d w → v ≡ w
writes_once (an_address lowest) d (address a) (address b) p q = ap address (address_once a b p.1 q.1 (same_Some _ _ (sym p.0 ∙ q.0)))
writes_once (a_number low high) d (number m) (number n) p q = let same : Some (pos m) ≡ Some (pos n) = sym p.0 ∙ q.0 in cc same
writes_once a_level d (level l) (level m) p q = ap level (level_once l m (same_Some _ _ (sym p ∙ q)))
writes_once a_truth d (truth b) (truth c) p q = ap truth (same_Some _ _ (sym p ∙ q))
writes_once (an_address lowest) d (address a) _ p q = absurd q
writes_once (a_number low high) d (number m) _ p q = absurd q
writes_once a_level d (level l) _ p q = absurd q
writes_once a_truth d (truth b) _ p q = absurd q
writes_once _ d _ w p q = absurd p

gives_once : (found : Option Data) (kind : ValueKind) (default : Option Setting) (v w : Setting) → MatchOption found (default ≡ Some v) (λ d. Writes kind d v)
    → MatchOption found (default ≡ Some w) (λ d. Writes kind d w) → v ≡ w
gives_once None kind default v w p q = same_Some _ _ (sym p ∙ q)
gives_once (Some d) kind default v w p q = writes_once kind d v w p q

one_document : (text : List ℕ) (doc other : Members) → IsDocument text doc → IsDocument text other → doc ≡ other
one_document text doc other p q = same_Some _ _ (sym p.1 ∙ q.1)

-- any settings of a text have the same setting at each key
pub settings_once : (text : List ℕ) (s t : Settings) → IsSettingsOf text s → IsSettingsOf text t → (k : Key) → setting t k ≡ setting s k
settings_once text s t p q k =
    let each : GivesEach p.0 (setting t) = subst (λ (doc : Members). GivesEach doc (setting t)) (one_document text q.0 p.0 q.1 p.1) q.3 in
    gives_once (get_member (key_name (row_of k).key) p.0) (row_of k).kind (row_of k).default _ _ (each k) (p.3 k)

writes_kind : (kind : ValueKind) (d : Data) (v : Setting) → Writes kind d v → HasKind kind d
writes_kind (an_address lowest) d (address a) p = rw p.0
writes_kind (a_number low high) d (number n) p = rw p.0
writes_kind a_level d (level l) p = rw p
writes_kind a_truth d (truth b) p = rw p
writes_kind _ d _ p = absurd p

-- a key has no fault where it is set
not_both_at : (found : Option Data) (row : Row) (fault : SettingsFault) (v : Setting) → MatchOption found (row.default ≡ Some v) (λ d. Writes row.kind d v)
    → MatchOption found ((row.default ≡ None) × (fault ≡ Missing row.key)) (λ d. Refuses row.kind row.key d fault) → ⊥
not_both_at None row fault v p q = let none : Some v ≡ None = sym p ∙ q.0 in cc none
not_both_at (Some d) row fault v p (inl other) = other.0 (writes_kind row.kind d v p)
not_both_at (Some d) row fault v p (inr none) = none.1 v p

no_fault : (ks : List Key) (doc : Members) (fault : SettingsFault) (v : Key → Setting) → GivesEach doc v → IsFirstFault ks doc fault → ⊥
no_fault [] doc fault v p q = absurd q
no_fault (k ∷ ks) doc fault v p (inl here) = not_both_at (get_member (key_name (row_of k).key) doc) (row_of k) fault (v k) (p k) here
no_fault (k ∷ ks) doc fault v p (inr later) = no_fault ks doc fault v p later.1

-- a text with a fault has no settings
pub no_settings : (text : List ℕ) (s : Settings) (fault : SettingsFault) → IsFaultOf text fault → IsSettingsOf text s → ⊥
no_settings text s fault (inl none) q = none.1 q.0 q.1
no_settings text s fault (inr found) q =
    let same : q.0 ≡ found.0 = one_document text q.0 found.0 q.1 found.1 in
    let known : HasNoUnknown found.0 = subst (λ (doc : Members). HasNoUnknown doc) same q.2 in
    let each : GivesEach found.0 (setting s) = subst (λ (doc : Members). GivesEach doc (setting s)) same q.3 in
    elim found.2 [
      | inl unknown ↦ known unknown.0 unknown.2.0
      | inr first ↦ no_fault keys found.0 fault (setting s) each first.1
    ]
