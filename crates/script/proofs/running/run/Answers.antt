use Rattle.script.proofs.Telling.{every_byte, every_end, every_run, ran_out, reports, refuses}
use Rattle.script.proofs.running.run.Goals as goal

pub returns-in-Ok-clause-report : goal.returns-in-Ok-clause-report
returns-in-Ok-clause-report g c = reports _ c.as_slice.result.now _ c.answer.result _ _ c.as_slice.ensures.value c.in-Ok.ensures.text c.answer.ensures.report

pub returns-in-Ok-clause-refused : goal.returns-in-Ok-clause-refused
returns-in-Ok-clause-refused g c = refuses _ c.as_slice.result.now _ c.answer.result _ _ c.as_slice.ensures.value c.in-Ok.ensures.text c.answer.ensures.refused

pub returns-in-Err-clause-refused : goal.returns-in-Err-clause-refused
returns-in-Err-clause-refused g c =
    λ is. ran_out (g.R.Read.remaining c.args.reader.now) (g.R.Read.remaining c.read_at_most.new.reader) _ _
    (c.in-Err.ensures.memory (c.answer_unread.ensures.memory is)) (c.answer_unread.ensures.told is)

pub returns-in-Ok-clause-every_byte : goal.returns-in-Ok-clause-every_byte
returns-in-Ok-clause-every_byte g c = every_byte (g.R.Read.remaining c.args.reader.now)

pub returns-in-Ok-clause-every_end : goal.returns-in-Ok-clause-every_end
returns-in-Ok-clause-every_end g c = every_end (g.R.Read.remaining c.args.reader.now)

pub returns-in-Ok-clause-every_run : goal.returns-in-Ok-clause-every_run
returns-in-Ok-clause-every_run g c = every_run c.every_run_is_sound.ensures (g.R.Read.remaining c.args.reader.now)

pub returns-in-Err-clause-every_byte : goal.returns-in-Err-clause-every_byte
returns-in-Err-clause-every_byte g c = every_byte (g.R.Read.remaining c.args.reader.now)

pub returns-in-Err-clause-every_end : goal.returns-in-Err-clause-every_end
returns-in-Err-clause-every_end g c = every_end (g.R.Read.remaining c.args.reader.now)

pub returns-in-Err-clause-every_run : goal.returns-in-Err-clause-every_run
returns-in-Err-clause-every_run g c = every_run c.every_run_is_sound.ensures (g.R.Read.remaining c.args.reader.now)
