-- The lines of a recording, without their line feeds.
use Rattle.std.specs.{Prelude.{ℕ, Bool, if◌then◌else◌, List, [], ◌++◌, Option, Some, None, codes}, Fmt.decimal}
use Rattle.token.specs.{Names.EndName, Kinds.kind_name, Sides.side_name, declared.name.Name.Name}
use Rattle.record_lines.specs.declared.{act.{Record.Record, Act.{Act, TheVariants.{Poller, Second, Begin, End, Wire, Ended, Full}}, Polling.Polling, Accepted.Accepted, Opening.Opening, Made.Made, Answer.Answer}, header.Header.Header}
use Rattle.token.specs.declared.name.Name.TheVariants as name
use Rattle.record_lines.specs.declared.act.Polling.TheVariants as polling
use Rattle.record_lines.specs.declared.act.Accepted.TheVariants as accepted
use Rattle.record_lines.specs.declared.act.Opening.TheVariants as opening
use Rattle.record_lines.specs.declared.act.Made.TheVariants as made
use Rattle.record_lines.specs.declared.act.Answer.TheVariants as answer

abbrev pub end_text : EndName → List ℕ
end_text n = decimal n.slot ++ (codes "." ++ (decimal n.generation ++ (codes "." ++ side_name n.side)))

abbrev pub name_text : Name → List ℕ
name_text name.Listener = codes "listener"
name_text name.Waker = codes "waker"
name_text (name.End n) = end_text n

abbrev pub accepted_name : Accepted → List ℕ
accepted_name accepted.Taken = codes "ok"
accepted_name accepted.Blocked = codes "blocked"
accepted_name accepted.Again = codes "again"
accepted_name accepted.Starved = codes "starved"

abbrev pub opening_name : Opening → List ℕ
opening_name opening.Opened = codes "ok"
opening_name opening.Connect = codes "connect"
opening_name opening.Register = codes "register"

abbrev pub answer_text : Answer → List ℕ
answer_text (answer.Moved n) = decimal n
answer_text answer.End = codes "end"
answer_text answer.Joined = codes "joined"
answer_text answer.Shut = codes "shut"
answer_text answer.Blocked = codes "blocked"
answer_text answer.Interrupted = codes "interrupted"
answer_text (answer.Failed kind) = codes "failed " ++ kind_name kind

-- what was done with a wire
abbrev pub made_text : Made → List ℕ
made_text (made.Read most answer) = codes "read " ++ (decimal most ++ (codes " " ++ answer_text answer))
made_text (made.Write length answer) = codes "write " ++ (decimal length ++ (codes " " ++ answer_text answer))
made_text (made.Join answer) = codes "join " ++ answer_text answer
made_text (made.Shut answer) = codes "shut " ++ answer_text answer
made_text made.Settle = codes "settle"
made_text made.Drop = codes "drop"

-- what a poller did
abbrev pub polling_text : Polling → List ℕ
polling_text (polling.Gave n) = codes "poll " ++ decimal n
polling_text polling.Interrupted = codes "poll interrupted"
polling_text polling.Failed = codes "poll failed"
polling_text (polling.Time micros) = codes "time " ++ decimal micros
polling_text (polling.Reported name) = codes "report " ++ name_text name
polling_text (polling.Accept accepted) = codes "accept " ++ accepted_name accepted
polling_text (polling.Open slot generation opening) =
    codes "open " ++ (decimal slot ++ (codes "." ++ (decimal generation ++ (codes " " ++ opening_name opening))))

abbrev pub act_text : Act → List ℕ
act_text (Poller number did) = codes "p" ++ (decimal number ++ (codes " " ++ polling_text did))
act_text (Second n) = codes "second " ++ decimal n
act_text (Begin slot) = decimal slot ++ codes " begin"
act_text (End slot) = decimal slot ++ codes " end"
act_text (Wire n made) = end_text n ++ (codes " " ++ made_text made)
act_text Ended = codes "end"
act_text Full = codes "full"

abbrev pub record_text : Record → List ℕ
record_text r = decimal r.before ++ (codes " " ++ (decimal r.after ++ (codes " " ++ act_text r.act)))

abbrev pub yes_or_no : Bool → List ℕ
yes_or_no so = if so then codes "yes" else codes "no"

-- where a part begins: after this count
abbrev pub from_text : Option ℕ → List ℕ
from_text (Some n) = codes " from=" ++ decimal n
from_text None = []

abbrev pub header_text : Header → List ℕ
header_text h =
    codes "relayd recording 1 slots=" ++ (decimal h.slots ++ (codes " pollers=" ++ (decimal h.pollers
    ++ (codes " workers=" ++ (decimal h.workers ++ (codes " ring=" ++ (decimal h.ring
    ++ (codes " budget=" ++ (decimal h.budget ++ (codes " idle=" ++ (decimal h.idle
    ++ (codes " proxy=" ++ (yes_or_no h.proxy ++ from_text h.from)))))))))))))
