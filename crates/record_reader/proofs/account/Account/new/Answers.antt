use Rattle.std.proofs.Common.{refl}
use Rattle.token.specs.declared.side.Side.TheVariants.{Client, Target}
use Rattle.record_reader.proofs.account.Account.new.Goals as goal

pub returns-clause-told : goal.returns-clause-told
returns-clause-told c = record {
  client = c.none.ensures Client;
  target = c.none-2.ensures Target;
  first_offer = refl;
  first_fault = refl;
  last_sender = refl;
  joined = refl;
  had_turn = refl;
  dropped = refl;
  quiet = refl;
}
