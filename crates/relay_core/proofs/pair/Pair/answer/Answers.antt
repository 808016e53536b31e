use Rattle.std.proofs.Common.{refl}
use Rattle.relay_core.{specs.{Laws.AnswersNext, Replies.reply_of}, proofs.Pairs.{answers_keep_order, answers_pass_end_last, failures_are_told}}
use Rattle.relay_core.proofs.pair.Pair.answer.Goals as goal

pub returns : goal.returns
returns c =
    let p = c.args.self.now in
    let reply = reply_of c.args.answer in
    let next : AnswersNext p c.args.call reply = record { next = c.requires.next; fit = c.requires.fits } in
    rw c.take_answer.ensures (record {
      value = refl;
      order = answers_keep_order c.args.now p c.args.call reply;
      end_last = answers_pass_end_last c.args.now p c.args.call reply next;
      interrupted = λ is. rw is refl;
      failed = λ fault. failures_are_told c.args.now p c.args.call reply fault next;
    })
