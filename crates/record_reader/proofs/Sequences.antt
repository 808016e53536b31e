-- Whether the act at a place follows, by the two acts themselves.
use Rattle.std.proofs.{Common.{◌≡◌, ℕ, List, refl, ◌∙◌, arith, ◌-◌, ◌<◌, length, get_or, subst}, lemmas.Option.{get_or_from_slice_get, slice_get_read}}
use Rattle.record_reader.specs.{declared.recording.Numbered.Numbered, Sequences.{Follows, FollowsAt}}

pub follows_at : (list : List Numbered) (place : ℕ) (a b : Numbered) → a ≡ get_or list (place - 1) a → b ≡ get_or list place b → Follows a.record b.record → FollowsAt list place
follows_at list place a b is_a is_b follows last next at_last at_next =
    let first : a ≡ last = is_a ∙ get_or_from_slice_get list (place - 1) last a at_last in
    let second : b ≡ next = is_b ∙ get_or_from_slice_get list place next b at_next in
    subst (λ (x : Numbered). Follows x.record next.record) first (subst (λ (x : Numbered). Follows a.record x.record) second follows)

pub follows_there : (list : List Numbered) (place : ℕ) (a b : Numbered) → place < length list → a ≡ get_or list (place - 1) a → b ≡ get_or list place b → FollowsAt list place
    → Follows a.record b.record
follows_there list place a b within is_a is_b at = at a b (slice_get_read list (length list) (place - 1) a refl (omega arith) is_a)
    (slice_get_read list (length list) place b refl within is_b)
