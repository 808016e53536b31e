use Rattle.std.proofs.Common.{refl, rules}
use Rattle.record_reader.proofs.Moments.{times_more}
use Rattle.record_reader.proofs.times.Times.after.Goals as goal

pub returns : goal.returns
returns c = times_more c.args.self _ c.args.at c.args.act.now refl (search rules) (search rules) (search rules) (search rules) (search rules)
