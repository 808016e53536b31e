use Rattle.std.proofs.{Common.{inl, inr}, lemmas.Result.{IfOk-weaker, IfErr-weaker}}
use Rattle.settings.proofs.{Unique.{settings_once, no_settings}, Unknown.{named_not_blank}}
use Rattle.settings.proofs.read.parse.Goals as goal

pub returns-in-Some-clause-fault : goal.returns-in-Some-clause-fault
returns-in-Some-clause-fault c kept = inr (_, c.in-Ok.ensures.document, inl (_, c.unknown_key.ensures kept, rw c.as_str.ensures.value c.in-Some.ensures.some))

pub returns-in-Some-clause-memory : goal.returns-in-Some-clause-memory
returns-in-Some-clause-memory c no_memory =
    (c.in-Ok.ensures.document.0, named_not_blank _ _ _ c.in-Ok.ensures.document.1 c.in-Some.ensures.some.0.0)

pub returns-clause-fault : goal.returns-clause-fault
returns-clause-fault c = IfErr-weaker c.of.result _ _ (λ fault first kept. inr (_, c.in-Ok.ensures.document, inr (c.in-None.ensures.none, first))) c.of.ensures.fault

pub returns-clause-only : goal.returns-clause-only
returns-clause-only c = IfOk-weaker c.of.result _ _ (λ s each t. settings_once _ s t (_, c.in-Ok.ensures.document, c.in-None.ensures.none, each)) c.of.ensures.settings

pub returns-clause-none : goal.returns-clause-none
returns-clause-none c =
    IfErr-weaker c.of.result _ _ (λ fault first kept s. no_settings _ s fault (inr (_, c.in-Ok.ensures.document, inr (c.in-None.ensures.none, first)))) c.of.ensures.fault
