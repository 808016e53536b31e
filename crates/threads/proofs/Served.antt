-- Ends of parts, in order.
use Rattle.std.{proofs.{Common.{◌≡◌, ◌∙◌, List, [], ◌∷◌, ◌++◌, length, map, refl, sym, ap, arith}, lemmas.List.map-append}, specs.Prelude.{Option, None}}
use Rattle.threads.specs.{declared.{context.ThreadEnd.ThreadEnd, faults.Few.Few, joining.Served.Served}, Divided.PairsOff, Served.{AllRan, AreStarted, RanToEnds}}

-- the next one
pub next_of_first : {P E : Type 0} (is : P → E → Type 0) (parts : List P) (ends : List E) (part : P) (left : List P) (end : E) → PairsOff is parts ends (part ∷ left) → is part end
    → PairsOff is parts (ends ++ end ∷ []) left
next_of_first is parts [] part left end these so = rw (← these) (so, refl)
next_of_first is [] (e ∷ ends) part left end these so = absurd these
next_of_first is (p ∷ parts) (e ∷ ends) part left end these so = (these.0, next_of_first is parts ends part left end these.1 so)

-- of the first parts, and of all that are of those
pub through : {P H E : Type 0} (of : P → H → Type 0) (kept : H → E → Type 0) (runs : P → E → Type 0) → ((p : P) (h : H) (e : E) → of p h → kept h e → runs p e)
    → (parts : List P) (handles : List H) (ends : List E) (left : List P) → PairsOff of parts handles left → PairsOff kept handles ends [] → PairsOff runs parts ends left
through of kept runs so parts [] [] left these all = these
through of kept runs so parts (h ∷ hs) [] left these all = absurd (omega (arith, ap length all))
through of kept runs so parts [] (e ∷ es) left these all = absurd all
through of kept runs so [] (h ∷ hs) (e ∷ es) left these all = absurd these
through of kept runs so (p ∷ ps) (h ∷ hs) (e ∷ es) left these all = (so p h e these.0 all.0, through of kept runs so ps hs es left these.1 all.1)

of_map : {P Q E : Type 0} (f : P → Q) (runs : Q → E → Type 0) (parts : List P) (ends : List E) (left : List P) → PairsOff (λ p e. runs (f p) e) parts ends left
    → PairsOff runs (map f parts) ends (map f left)
of_map f runs parts [] left these = ap (map f) these
of_map f runs [] (e ∷ es) left these = absurd these
of_map f runs (p ∷ ps) (e ∷ es) left these = (these.0, of_map f runs ps es left these.1)

-- threads were started, all or the first, and joined
pub ran_to_ends : {P H : Type 0} (of : P → H → Type 0) (kept : H → ThreadEnd → Type 0) (runs : P → ThreadEnd → Type 0) (few : Option Few) (all : Type 0)
    (parts : List P) (handles : List H) (ends : List ThreadEnd) → ((p : P) (h : H) (e : ThreadEnd) → of p h → kept h e → runs p e) → (few ≡ None → all)
    → AreStarted of parts handles all → PairsOff kept handles ends [] → RanToEnds runs few parts ends
ran_to_ends of kept runs few all parts handles ends so enough (left, started, whole) joined =
    (left, through of kept runs so parts handles ends left started joined, λ none. whole (enough none))

ends_of_map : {P Q : Type 0} (f : P → Q) (runs : Q → ThreadEnd → Type 0) (few : Option Few) (ps : List P) (ends : List ThreadEnd)
    → RanToEnds (λ p e. runs (f p) e) few ps ends → RanToEnds runs few (map f ps) ends
ends_of_map f runs few ps ends (left, ran, whole) = (map f left, of_map f runs ps ends left ran, λ none. ap (map f) (whole none))

pub all_of_map : {P Q W V : Type 0} (f : P → Q) (g : W → V) (polls : Q → ThreadEnd → Type 0) (works : V → ThreadEnd → Type 0) {ps : List P} {ws : List W}
    {served : Served} → AllRan (λ p e. polls (f p) e) (λ w e. works (g w) e) ps ws served → AllRan polls works (map f ps) (map g ws) served
all_of_map f g polls works all = record {
  others = map f all.others;
  first = map f all.first;
  pollers_are = sym (map-append f all.others all.first) ∙ ap (map f) all.pollers_are;
  workers_ran = ends_of_map g works _ _ _ all.workers_ran;
  others_ran = ends_of_map f polls _ _ _ all.others_ran;
  first_ran = of_map f polls all.first _ [] all.first_ran;
  has_first = λ none. ap (map f) (all.has_first none);
}
