-- The search for the first unknown name among the keys of a document, which are in order.
use Rattle.std.{proofs.{Common.{◌≡◌, ◌≢◌, ℕ, List, [], ◌∷◌, ◌⊎◌, inl, inr, Option, Some, None, IsSome, IfSome, IfNone, true, false, String, Global, string_bytes, Ordering, Less, Equal, Greater, nat_cmp, refl, sym, ◌∙◌, ap, subst}, lemmas.{Cmp.nat_list_cmp_total, Map.Text.is_eq-slice_cmp, Slice.Eq.bytes_eq-Decides}}, specs.{Cmp.{tied_itself, Lexicographic.slice_cmp}, List.{AllByRecursion, Sorted.IsStrictlySortedBy}, Map.keys_of, Ordering.{match_ordering, is_eq}, Option.is_some, String.string_cmp}}
use Rattle.toml.specs.{Errors.IsBlank, Parse.{parse_document, lines}, Data.{Data, Members, no_members, get_member}, View.members_view, declared.value.Value.Value}
use Rattle.settings.specs.{Document.{IsUnknown, IsFirstUnknown, HasNoUnknown}, Table.key_name, declared.table.Key.Key}

-- one of the texts has these bytes
abbrev pub IsAmongTexts : List ℕ → List (String Global) → Type 0
IsAmongTexts name [] = ⊥
IsAmongTexts name (k ∷ ks) = (string_bytes k ≡ name) ⊎ IsAmongTexts name ks

-- each unknown name of the document is left to look at, and what is left are names of the document in order
pub record IsLeft (doc : Members) (left : List (String Global)) : Type 0 where
  pub unknown : (name : List ℕ) → IsUnknown doc name → IsAmongTexts name left
  pub present : (name : List ℕ) → IsAmongTexts name left → IsSome (get_member name doc)
  pub ordered : IsStrictlySortedBy string_cmp left

abbrev pub Entry : Type 0
Entry = String Global × Value

present_by : (o : Ordering) (rest here : Option Data) → ((o ≡ Equal) ⊎ IsSome rest) → IsSome here → IsSome (match_ordering o rest here rest)
present_by Less rest here (inl e) h = absurd (cc e)
present_by Less rest here (inr r) h = r
present_by Equal rest here w h = h
present_by Greater rest here (inl e) h = absurd (cc e)
present_by Greater rest here (inr r) h = r

name_present : (name : List ℕ) (es : List Entry) → IsAmongTexts name (keys_of es) → IsSome (get_member name (members_view es))
name_present name [] h = absurd h
name_present name (e ∷ es) (inl same) = present_by (slice_cmp nat_cmp name (string_bytes e.0)) _ _ (inl (rw same (tied_itself nat_list_cmp_total name))) refl
name_present name (e ∷ es) (inr more) = present_by (slice_cmp nat_cmp name (string_bytes e.0)) _ _ (inr (name_present name es more)) refl

among_by : (o : Ordering) (rest here : Option Data) → IsSome (match_ordering o rest here rest) → (o ≡ Equal) ⊎ IsSome rest
among_by Less rest here h = inr h
among_by Equal rest here h = inl refl
among_by Greater rest here h = inr h

equal_texts : (xs ys : List ℕ) → slice_cmp nat_cmp xs ys ≡ Equal → xs ≡ ys
equal_texts xs ys h = (bytes_eq-Decides xs ys).0 (sym (is_eq-slice_cmp xs ys) ∙ ap is_eq h)

name_among : (name : List ℕ) (es : List Entry) → IsSome (get_member name (members_view es)) → IsAmongTexts name (keys_of es)
name_among name [] h = absurd (cc h)
name_among name (e ∷ es) h =
    elim (among_by (slice_cmp nat_cmp name (string_bytes e.0)) _ _ h) [
      | inl same ↦ inl (sym (equal_texts name (string_bytes e.0) same))
      | inr more ↦ inr (name_among name es more)
    ]

-- at first all names are left
pub all_left : (es : List Entry) → IsStrictlySortedBy string_cmp (keys_of es) → IsLeft (members_view es) (keys_of es)
all_left es sorted = record { unknown = λ name h. name_among name es h.0; present = λ name h. name_present name es h; ordered = sorted }

-- where none is left, none is unknown
pub none_left : (doc : Members) → IsLeft doc [] → HasNoUnknown doc
none_left doc h name u = absurd (h.unknown name u)

not_above : (k : List ℕ) (name : List ℕ) (left : List (String Global)) → AllByRecursion (λ y. slice_cmp nat_cmp k (string_bytes y) ≡ Less) left → IsAmongTexts name left
    → slice_cmp nat_cmp k name ≢ Greater
not_above k name [] sorted among = absurd among
not_above k name (y ∷ left) sorted (inl same) = λ greater. let less : slice_cmp nat_cmp k name ≡ Less = rw (← same) sorted.0 in cc
not_above k name (y ∷ left) sorted (inr more) = not_above k name left sorted.1 more

-- A name in front, by what its look-up answers: a known name need not be left, and an unknown one is the first.

pub left_known : (doc : Members) (k : String Global) (left : List (String Global)) (text : List ℕ) (r : Option Key) → text ≡ string_bytes k → is_some r ≡ true
    → IfSome r (λ key. text ≡ key_name key) → IsLeft doc (k ∷ left) → IsLeft doc left
unfolding IsStrictlySortedBy
left_known doc k left text None same found known h = absurd (cc found)
left_known doc k left text (Some key) same found known h =
    record {
      unknown = λ name u. elim (h.unknown name u) [
        | inl here ↦ absurd (u.1 key (sym here ∙ sym same ∙ known))
        | inr more ↦ more
      ];
      present = λ name among. h.present name (inr among);
      ordered = h.ordered.1;
    }

pub first_unnamed : (doc : Members) (k : String Global) (left : List (String Global)) (text : List ℕ) (r : Option Key) → text ≡ string_bytes k → is_some r ≡ false
    → IfNone r ((key : Key) → text ≢ key_name key) → IsLeft doc (k ∷ left) → IsFirstUnknown doc (string_bytes k)
unfolding IsStrictlySortedBy
first_unnamed doc k left text (Some key) same missed unknown h = absurd (cc missed)
first_unnamed doc k left text None same missed unknown h = (
  (h.present (string_bytes k) (inl refl), λ key e. unknown key (same ∙ e)),
  λ other u. elim (h.unknown other u) [
    | inl here ↦ λ greater. let equal : slice_cmp nat_cmp (string_bytes k) other ≡ Equal = rw (← here) (tied_itself nat_list_cmp_total (string_bytes k)) in cc
    | inr more ↦ not_above (string_bytes k) other left h.ordered.0 more
  ],
)

-- a blank text is the empty document
pub blank_document : (text : List ℕ) → IsBlank text → parse_document text ≡ Some no_members
unfolding parse_document lines
blank_document text h = rw h

-- so a text whose document has a name is not blank
pub named_not_blank : (text : List ℕ) (doc : Members) (name : List ℕ) → parse_document text ≡ Some doc → IsSome (get_member name doc) → IsBlank text → ⊥
named_not_blank text doc name parsed there blank =
    let empty : no_members ≡ doc = cc (blank_document text blank, parsed) in
    let none : IsSome (get_member name no_members) = subst (λ (m : Members). IsSome (get_member name m)) (sym empty) there in
    cc none
