-- The flags say of an act what the records say that stay.
use Rattle.std.proofs.Common.{◌≡◌, ◌∙◌, ℕ, Bool, true, List, nat_lt, rules}
use Rattle.record_lines.specs.declared.act.{Record.Record, Act.{Act, TheVariants.{Poller, Second, Begin, End, Wire, Ended, Full}}, Polling.TheVariants.{Gave, Interrupted, Failed, Time, Reported, Accept, Open}}
use Rattle.record_reader.specs.{declared.beginning.Beginning.Beginning, Beginnings.{KnowsOf, IsInside, flag_at, stays_from, has_act, opens, stays, waits_poller}}

follows_same : (b : Beginning) (kept : List Record) (act : Act) → KnowsOf kept b → IsInside b act
    → stays_from (flag_at b.waited.items) (flag_at b.opened.items) act ≡ stays_from (λ poller. has_act (waits_poller poller) kept) (λ slot. has_act (opens slot) kept) act
follows_same b kept (Poller number (Open at generation opening)) knows inside = knows.0 number inside.0
follows_same b kept (Poller number (Gave n)) knows inside = search rules
follows_same b kept (Poller number Interrupted) knows inside = search rules
follows_same b kept (Poller number Failed) knows inside = search rules
follows_same b kept (Poller number (Time n)) knows inside = knows.0 number inside
follows_same b kept (Poller number (Reported name)) knows inside = knows.0 number inside
follows_same b kept (Poller number (Accept accepted)) knows inside = knows.0 number inside
follows_same b kept (Begin slot) knows inside = knows.1 slot inside
follows_same b kept (End slot) knows inside = knows.1 slot inside
follows_same b kept (Wire name made) knows inside = knows.1 name.slot inside
follows_same b kept (Second n) knows inside = search rules
follows_same b kept Ended knows inside = search rules
follows_same b kept Full knows inside = search rules

pub stays_same : (b : Beginning) (kept : List Record) (r : Record) (result told : Bool) → KnowsOf kept b → IsInside b r.act
    → nat_lt b.from r.before ≡ true → told ≡ stays_from (flag_at b.waited.items) (flag_at b.opened.items) r.act → result ≡ told
    → result ≡ stays b.from kept r
stays_same b kept r result told knows inside late is same = rw late (same ∙ is ∙ follows_same b kept r.act knows inside)
