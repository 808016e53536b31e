use Rattle.std.proofs.Common.{◌≡◌, drop}
use Rattle.world_text.{specs.Words.word_named, proofs.Rows.word_in}
use Rattle.world_text.proofs.word.Word.named.Given as goal

-- the text is what it is among the rows that are left
abbrev pub invariant-loop-word : goal.invariant-loop-word
invariant-loop-word l = word_named l.text ≡ word_in (drop l.word-index l.word-items) l.text
