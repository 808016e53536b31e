use Rattle.std.proofs.Common.{rules}
use Rattle.record_reader.proofs.Accounts.{account_more}
use Rattle.record_reader.proofs.account.Account.after.Goals as goal

pub returns-clause-told : goal.returns-clause-told
returns-clause-told c =
    account_more c.args.self _ c.args.act.now c.after.ensures c.after-2.ensures (search rules) (search rules) (search rules) (search rules) (search rules)
    (search rules) (search rules)
