use Rattle.std.proofs.Common.{arith}
use Rattle.program.proofs.Files.{file_sets_of, has_fault_of}
use Rattle.program.proofs.config.read.Goals as goal

pub returns-in-Ok-clause-settings : goal.returns-in-Ok-clause-settings
returns-in-Ok-clause-settings g c =
    file_sets_of _ c.in_ok-text.text.items c.as_slice.result.now c.in-Ok.settings c.in_ok-text.ensures.whole (omega (arith, c.in_ok-text.text.ok, c.in_ok-text.ensures.most))
    c.as_slice.ensures.value c.in-Ok.ensures.settings

pub returns-clause-fault : goal.returns-clause-fault
returns-clause-fault g c =
    has_fault_of _ c.in_ok-text.text.items c.as_slice.result.now c.in-Err.fault _ c.in_ok-text.ensures.whole (omega (arith, c.in_ok-text.text.ok, c.in_ok-text.ensures.most))
    c.as_slice.ensures.value c.in-Err.ensures.fault c.from.ensures
