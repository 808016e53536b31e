-- What the first word of a line decides on.
use Rattle.std.{proofs.Common.{◌≡◌, ℕ, List, None, refl}, specs.Prelude.option_map}
use Rattle.world_text.specs.declared.word.Word.{Word}
use Rattle.world_text.specs.declared.word.Word.TheVariants as word
use Rattle.script_text.specs.Events.{said_of, plain_event, event_by, step_by}

-- an event of another word than two carries no list
pub plain_event_of : (w : Word) (words : List (List ℕ)) → (w ≡ word.Arrive → ⊥) → (w ≡ word.Poll → ⊥) → event_by w words ≡ option_map said_of (plain_event w words)
plain_event_of word.Arrive words a p = absurd (a refl)
plain_event_of word.Poll words a p = absurd (p refl)
plain_event_of _ words a p = refl

-- what is left of the steps: no step begins with such a word
pub other_step : (first : Word) (words : List (List ℕ)) → (first ≡ word.Arrive → ⊥) → (first ≡ word.Fin → ⊥) → (first ≡ word.Room → ⊥) → (first ≡ word.Read → ⊥)
    → (first ≡ word.End → ⊥) → (first ≡ word.Wrote → ⊥) → (first ≡ word.Shut → ⊥) → step_by first words ≡ None
other_step word.Arrive words a f r d e w s = absurd (a refl)
other_step word.End words a f r d e w s = absurd (e refl)
other_step word.Fin words a f r d e w s = absurd (f refl)
other_step word.Read words a f r d e w s = absurd (d refl)
other_step word.Room words a f r d e w s = absurd (r refl)
other_step word.Shut words a f r d e w s = absurd (s refl)
other_step word.Wrote words a f r d e w s = absurd (w refl)
other_step _ words a f r d e w s = refl
