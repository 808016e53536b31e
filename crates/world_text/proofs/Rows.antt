-- Which word of some rows a text is.
use Rattle.std.{proofs.Common.{◌≡◌, ℕ, ◌<◌, ◌+◌, add-one, sym, List, [], ◌∷◌, None, Some, Option, true, false, if◌then◌else◌, length, drop, drop-cons, get_or, refl, ◌∙◌}, specs.Str.bytes_eq}
use Rattle.world_text.specs.{declared.word.Word.Word, Words.word_text}

-- the first word of these rows that a text is
abbrev pub word_in : {T : Type 0} → List (Word × T) → List ℕ → Option Word
word_in [] text = None
word_in (row ∷ rows) text = if bytes_eq text (word_text row.0) then Some row.0 else word_in rows text

module _ {T : Type 0} (rows : List (Word × T)) (k : ℕ) (d : Word × T) (text : List ℕ) (r : Option Word) (so_far : r ≡ word_in (drop k rows) text) (within : k < length rows) where
  pub next_word : bytes_eq text (word_text (get_or rows k d).0) ≡ false → r ≡ word_in (drop (k + 1) rows) text
  next_word missed = so_far ∙ rw (drop-cons rows k d within, missed, add-one k) refl

  pub this_word : bytes_eq text (word_text (get_or rows k d).0) ≡ true → Some (get_or rows k d).0 ≡ r
  this_word hit = sym (so_far ∙ rw (drop-cons rows k d within, hit) refl)
