-- Lines that are played one after the other.
use Rattle.std.{proofs.{Common.{◌≡◌, ℕ, Bool, ◌+◌, List, [], ◌∷◌, ◌++◌, take, drop, Some, Result, Ok, Err, refl, sym, ap, ◌∙◌, subst, add-one, drop-cons}, lemmas.{List.{take-append-drop, take_more}, Option.{slice_get_within, get_or_from_slice_get}}}, specs.Prelude.slice_get}
use Rattle.script.specs.{declared.fault.Fault.{Fault, TheVariants.NoMemory}, Faults.{GivesDefined, Refused, StopsAt, and_then, played}}

-- a line parts all of them
parted : {L : Type 0} (ls : List L) (i : ℕ) (l : L) → slice_get ls i ≡ Some l → ls ≡ take i ls ++ l ∷ drop (i + 1) ls
parted ls i l there =
    let within = slice_get_within ls i l there in
    sym (take-append-drop i ls) ∙ rw (drop-cons ls i l within, get_or_from_slice_get ls i l l there, add-one i) refl

module _ {X L : Type 0} (stepped : X → L → Result X Fault) where
  one_step : (r : Result X Fault) → and_then (λ (x : X). Ok x) r ≡ r
  one_step (Ok x) = refl
  one_step (Err fault) = refl

  after_both : (ls ms : List L) (r : Result X Fault)
      → ((x : X) → played stepped x (ls ++ ms) ≡ and_then (λ (y : X). played stepped y ms) (played stepped x ls))
      → and_then (λ (x : X). played stepped x (ls ++ ms)) r ≡ and_then (λ (y : X). played stepped y ms) (and_then (λ (x : X). played stepped x ls) r)
  after_both ls ms (Ok x) each = each x
  after_both ls ms (Err fault) each = refl

  played_append : (x : X) (ls ms : List L) → played stepped x (ls ++ ms) ≡ and_then (λ (y : X). played stepped y ms) (played stepped x ls)
  played_append x [] ms = refl
  played_append x (l ∷ ls) ms = after_both ls ms (stepped x l) (λ y. played_append y ls ms)

  -- after the first i lines comes the line at i
  pub played_more : (x y : X) (ls : List L) (i : ℕ) (l : L) → played stepped x (take i ls) ≡ Ok y → slice_get ls i ≡ Some l → played stepped x (take (i + 1) ls) ≡ stepped y l
  played_more x y ls i l came there =
      let within = slice_get_within ls i l there in
      rw (take_more ls i l within, get_or_from_slice_get ls i l l there, played_append x (take i ls) (l ∷ []), came) (one_step (stepped y l))

  -- a line that is refused is where all lines end
  refused_ends : (takes : Bool) (fault : Fault) (ls : List L) (r : Result X Fault) → Refused takes r fault → GivesDefined (and_then (λ (x : X). played stepped x ls) r) (Err fault)
  refused_ends takes fault ls (Ok x) is = rw is.0 tt
  refused_ends takes fault ls (Err NoMemory) is = rw is tt
  refused_ends takes fault ls _ is = rw is refl

  -- where lines stop is the fault of all of them
  pub plays_give : (takes : X → L → Bool) (x start y : X) (ls : List L) (fault : Fault) → x ≡ start → StopsAt stepped takes x ls fault y → GivesDefined (played stepped start ls) (Err fault)
  plays_give takes x start y ls fault same stop =
      let rest = drop (stop.index + 1) ls in
      let all : played stepped start ls ≡ and_then (λ (z : X). played stepped z rest) (stepped y stop.line) =
      ap (λ z. played stepped z ls) (sym same) ∙ ap (played stepped x) (parted ls stop.index stop.line stop.there)
      ∙ played_append x (take stop.index ls) (stop.line ∷ rest) ∙ ap (and_then (λ (z : X). played stepped z (stop.line ∷ rest))) stop.before in
      subst (λ (r : Result X Fault). GivesDefined r (Err fault)) (sym all) (refused_ends (takes y stop.line) fault rest (stepped y stop.line) stop.refused)
