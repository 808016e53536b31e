-- Every step keeps the bytes in order and whole, and the end after them.
use Rattle.std.{proofs.{Common.{◌≡◌, ℕ, List, [], ◌∷◌, ◌++◌, Bool, true, false, not, ◌||◌, cond, Option, Some, None, Ok, take, drop, refl, sym, ◌∙◌, ap, arith, append_assoc, append-nil, subst, length, nat_lt, nat_le, ◌≤◌}, lemmas.{Bool.{and_parts, both_ways, not-true, ltb-false, leb-true}, List.{take-append-drop, nil_from_length}}, Math.{Bool.{or-false, or-true, or_assoc}, Seq.drop-nil}}, specs.Prelude.{option_map, IfSome}}
use Rattle.flow.{specs.Stream.{waiting, front, dropped}, proofs.Front.{waiting-dropped, take-front, waiting_ends}}
use Rattle.kernel_model.specs.{Ends.is_nonempty}
use Rattle.script_text.specs.{declared.steps.{Step.{Step, TheVariants.{Arrive, Fin, Room, Read, End, Wrote, Shut}}, NumberedStep.NumberedStep}, Events.step_word}
use Rattle.script.specs.{declared.transfer.Transfer.Transfer, Faults.{and_then, or_not_allowed, played}, Plans.FlowPlan, Transfers.{new_transfer, stepped, line_stepped, step_brings, bytes_given, is_fin, has_ended, FlowKeepsBytes, KeepsEnd}}

-- the bytes are in order, the end and the shutdown come after them, and there is no lead
abbrev Sound : Transfer → Type 0
Sound t =
    (t.source.arrived ≡ t.destination.taken ++ (waiting t.flow ++ t.source.unread))
    × (t.flow.end_seen ≡ true → (t.source.fin ≡ true) × (t.source.unread ≡ []))
    × (t.flow.shut ≡ true → (t.flow.end_seen ≡ true) × (waiting t.flow ≡ []))
    × (t.flow.lead ≡ [])

abbrev Came : Transfer → List ℕ → Bool → Transfer → Type 0
Came t bytes fin u = (u.source.arrived ≡ t.source.arrived ++ bytes) × (u.source.fin ≡ (t.source.fin || fin))

-- after steps that bring these bytes, and the end of input or not
abbrev Goes : Transfer → List ℕ → Bool → Transfer → Type 0
Goes t bytes fin u = Sound u × Came t bytes fin u

-- what holds of the value where a test fails, and of one that a test allows
unless : {X : Type 0} (P : X → Type 0) (b : Bool) (o : Option X) → (b ≡ false → IfSome o P) → IfSome (cond b None o) P
unless P true o p = tt
unless P false o p = p refl

when : {X : Type 0} (P : X → Type 0) (b : Bool) (x : X) → (b ≡ true → P x) → IfSome (cond b (Some x) None) P
when P true x p = p refl
when P false x p = tt

allowed : {X Y : Type 0} (P : Y → Type 0) (f : X → Y) (b : Bool) (x : X) → (b ≡ true → P (f x)) → IfSome (option_map f (cond b (Some x) None)) P
allowed P f true x p = p refl
allowed P f false x p = tt

-- a list that is not known to be nonempty is empty
is_empty_list : (xs : List ℕ) → not (is_nonempty xs) ≡ true → xs ≡ []
is_empty_list xs off = nil_from_length xs (omega (arith, ltb-false 0 (length xs) (not-true (is_nonempty xs) off)))

-- by a step nothing comes
still : (t : Transfer) → Came t [] false t
still t = (sym (append-nil t.source.arrived), sym (or-false t.source.fin))

writes : (t : Transfer) (n : ℕ) → n ≤ length (front t.flow) → Sound t
    → t.source.arrived ≡ (t.destination.taken ++ take n (front t.flow)) ++ (waiting (dropped t.flow n) ++ t.source.unread)
writes t n within z =
    z.0 ∙ ap (λ (xs : List ℕ). t.destination.taken ++ (xs ++ t.source.unread)) (sym (take-append-drop n (waiting t.flow)))
    ∙ simp (take-front t.flow n within, waiting-dropped t.flow n, append_assoc)

goes : (t : Transfer) (s : Step) → Sound t → IfSome (stepped t s) (Goes t (step_brings s) (is_fin s))
goes t (Arrive bytes) z = allowed (Goes t bytes false) _ _ _ (λ y.
    let open_ = not-true t.source.fin (and_parts (not t.source.fin) (not t.source.err) (and_parts (is_nonempty bytes) _ y).1).0 in
    ((simp (z.0, append_assoc), λ seen. absurd (both_ways t.source.fin open_ (z.1 seen).0), z.2, z.3), (refl, sym (or-false t.source.fin))))
goes t Fin z = allowed (Goes t [] true) _ _ _ (λ y. ((z.0, λ seen. (refl, (z.1 seen).1), z.2, z.3), (sym (append-nil t.source.arrived), sym (or-true t.source.fin))))
goes t Room z = allowed (Goes t [] false) _ _ _ (λ y. (z, still t))
goes t (Read n) z = unless (Goes t [] false) t.flow.end_seen _ (λ open_. allowed (Goes t [] false) _ _ _ (λ y. (
  (
    simp (z.0, append_assoc, take-append-drop),
    λ seen. absurd (both_ways t.flow.end_seen open_ seen),
    λ closed. absurd (both_ways t.flow.end_seen open_ (z.2 closed).0),
    z.3,
  ),
  still t,
)))
goes t End z = unless (Goes t [] false) t.flow.end_seen _ (λ open_. allowed (Goes t [] false) _ _ _ (λ y.
    let (none, fin) = and_parts (not (is_nonempty t.source.unread)) t.source.fin y in
    ((z.0, λ seen. (fin, is_empty_list t.source.unread none), λ closed. absurd (both_ways t.flow.end_seen open_ (z.2 closed).0), z.3), still t)))
goes t (Wrote n full) z = allowed (Goes t [] false) _ _ _ (λ y.
    let within = leb-true n (length (front t.flow)) (and_parts (nat_lt 0 n) (nat_le n (length (front t.flow))) (and_parts t.destination.room _ y).1).1 in (
      (
        writes t n within z,
        z.1,
        λ closed. ((z.2 closed).0, waiting-dropped t.flow n ∙ ap (drop n) (z.2 closed).1 ∙ drop-nil n),
        ap (drop n) z.3 ∙ drop-nil n,
      ),
      still t,
    ))
goes t Shut z = when (Goes t [] false) _ _ (λ y.
    let (seen, left) = and_parts t.flow.end_seen _ y in
    let none = is_empty_list (waiting t.flow) (and_parts (not (is_nonempty (waiting t.flow))) (not t.flow.shut) left).0 in
    ((z.0, z.1, λ closed. (seen, none), z.3), still t))

joined : (t u v : Transfer) (xs ys : List ℕ) (a b : Bool) → Came t xs a u → Came u ys b v → Came t (xs ++ ys) (a || b) v
joined t u v xs ys a b first rest = (
  rest.0 ∙ ap (λ (zs : List ℕ). zs ++ ys) first.0 ∙ append_assoc t.source.arrived xs ys,
  rest.1 ∙ ap (λ (c : Bool). c || b) first.1 ∙ or_assoc t.source.fin a b,
)

-- a step, and then the rest, for which it is known
step_on : (t : Transfer) (s : NumberedStep) (ss : List NumberedStep) (v : Transfer) (o : Option Transfer) → IfSome o (Goes t (step_brings s.step) (is_fin s.step))
    → and_then (λ (u : Transfer). played line_stepped u ss) (or_not_allowed s.line (step_word s.step) o) ≡ Ok v
    → ((u : Transfer) → Sound u → played line_stepped u ss ≡ Ok v → Goes u (bytes_given ss) (has_ended ss) v) → Goes t (bytes_given (s ∷ ss)) (has_ended (s ∷ ss)) v
step_on t s ss v (Some u) g is rest = let all = rest u g.0 is in (all.0, joined t u v _ (bytes_given ss) _ (has_ended ss) g.1 all.1)
step_on t s ss v None g is rest = absurd (cc)

comes : (t : Transfer) (ss : List NumberedStep) (v : Transfer) → Sound t → played line_stepped t ss ≡ Ok v → Goes t (bytes_given ss) (has_ended ss) v
comes t [] v z is = let same : t ≡ v = cc in subst (Goes t [] false) same (z, still t)
comes t (s ∷ ss) v z is = step_on t s ss v (stepped t s.step) (goes t s.step z) is (λ u w js. comes u ss v w js)

-- at the opening nothing has come
opening_sound : (ring : ℕ) → Sound (new_transfer ring)
opening_sound ring = (refl, λ seen. absurd (cc), λ closed. absurd (cc), refl)

pub keeps_bytes : (plan : FlowPlan) → FlowKeepsBytes plan
keeps_bytes plan t is =
    let (sound, came) = comes (new_transfer plan.ring) plan.steps t (opening_sound plan.ring) is in
    sym came.0 ∙ sound.0 ∙ ap (λ (xs : List ℕ). t.destination.taken ++ ((xs ++ t.flow.ring) ++ t.source.unread)) sound.3

pub keeps_end : (plan : FlowPlan) → KeepsEnd plan
keeps_end plan t is closed =
    let (sound, came) = comes (new_transfer plan.ring) plan.steps t (opening_sound plan.ring) is in
    let left = sound.2 closed in
    let seen = sound.1 left.0 in
    let none : waiting t.flow ++ t.source.unread ≡ [] = ap (λ (xs : List ℕ). xs ++ t.source.unread) left.1 ∙ seen.1 in
    record {
      ended = sym came.1 ∙ seen.0;
      unread = seen.1;
      ring = (waiting_ends t.flow left.1).1;
      sent = sym (append-nil t.destination.taken) ∙ ap (λ (xs : List ℕ). t.destination.taken ++ xs) (sym none) ∙ sym sound.0 ∙ came.0;
    }
