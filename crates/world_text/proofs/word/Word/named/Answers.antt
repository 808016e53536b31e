use Rattle.std.{proofs.Common.{refl, ap, sym, ◌∙◌}, specs.Str.bytes_eq}
use Rattle.world_text.{proofs.Rows.{next_word, this_word}, specs.Words.word_named}
use Rattle.world_text.proofs.word.Word.named.Goals as goal

pub loop-word-init : goal.loop-word-init
unfolding word_named
loop-word-init c = refl

pub returns-then-eq : goal.returns-then-eq
returns-then-eq c =
    this_word _ _ _ _ _ c.loop-word.invariant c.loop-word-test.true
    (ap (bytes_eq c.args.text.now) (sym (c.as_bytes.ensures.value ∙ c.text.ensures)) ∙ (sym c.eq.ensures ∙ c.if-eq.true))

pub loop-word-preserved : goal.loop-word-preserved
loop-word-preserved c =
    next_word _ _ _ _ _ c.loop-word.invariant c.loop-word-test.true
    (ap (bytes_eq c.args.text.now) (sym (c.as_bytes.ensures.value ∙ c.text.ensures)) ∙ (sym c.eq.ensures ∙ c.if-eq.false))
