use Rattle.std.proofs.Common.{sym}
use Rattle.world_text.proofs.page.put_stream.Goals as goal

pub returns : goal.returns
returns c = rw (sym c.yes_or_no.ensures, sym c.yes_or_no-2.ensures) c.put.ensures
