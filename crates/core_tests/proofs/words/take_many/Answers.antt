use Rattle.std.proofs.Common.{◌∙◌, ap, [], ◌∷◌}
use Rattle.claims.{specs.declared.view.{Account.Account, Exchange.TheVariants.Take}, proofs.Seats.account_after}
use Rattle.core_tests.proofs.words.take_many.Goals as goal

pub loop-preserved : goal.loop-preserved
loop-preserved c = (
  c.take-sum.ensures.change.only.table ∙ c.loop.invariant.0,
  ap (λ (x : Account). x.holds) (account_after 0 (Take c.take-sum.result ∷ []) c.loop.seat c.take-sum.new.seat c.take-sum.ensures.change)
      ∙ c.loop.invariant.1,
)
