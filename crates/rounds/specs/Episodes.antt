-- What a poller keeps and logs of accepting connections.
use Rattle.std.specs.Prelude.{◌≡◌, ℕ, ◌+◌, ◌==◌, ◌||◌, nat_lt, Bool, true, false, List, Option, Some, None, if◌then◌else◌}
use Rattle.sizes.specs.declared.cause.Cause.{Cause}
use Rattle.relay_log.specs.Messages.{drop_message, drops_message}
use Rattle.shared.specs.declared.front.Unaccepted.{Unaccepted, TheVariants.{Again, Blocked, Starved}}
use Rattle.rounds.specs.{Pollers.counted_up, declared.{episodes.{Episodes.Episodes, Tally.Tally, Drops.Drops}, dropping.Owed.Owed}}
use Rattle.sizes.specs.declared.cause.Cause.TheVariants as cause

-- the accept flag after an error: only the answer that no client waits lowers it
abbrev pub flag_after : Unaccepted → Bool → Bool
flag_after Blocked flag = false
flag_after class flag = flag

-- whether accept(2) is starved: until it answers that no client waits, or gives a connection
abbrev pub starved_after : Unaccepted → Bool → Bool
starved_after Again starved = starved
starved_after Blocked starved = false
starved_after Starved starved = true

-- that accept(2) is starved was logged; a poller is not full once no client waits
abbrev pub episodes_after : Unaccepted → Episodes → Episodes
episodes_after Again e = e
episodes_after Blocked e = record e { full = false }
episodes_after Starved e = record e { starved = true }

-- The first drop of a cause has a line of its own. Those that follow it are counted, and logged by one line a second

-- nothing was logged of a cause, and nothing is counted
abbrev pub no_tally : Tally
no_tally = record { last = None; line = 0; more = 0 }

-- whether no whole second passed between the last drop and this one
abbrev pub follows : ℕ → Option ℕ → Bool
follows second None = false
follows second (Some last) = nat_lt second (last + 2)

-- whether a drop at this second is counted: others are counted already, or it follows the last one
abbrev pub is_counted : ℕ → Tally → Bool
is_counted second t = nat_lt 0 t.more || follows second t.last

-- the tally after a drop at this second
abbrev pub dropped_at : ℕ → Tally → Tally
dropped_at second t =
    if is_counted second t then record t { last = Some second; more = counted_up t.more 1 }
    else record t { last = Some second; line = second }

-- the line that must be logged for a drop: one of its own, if it is not counted
abbrev pub owed_for : Cause → ℕ → Tally → Option Owed
owed_for cause second t = if is_counted second t then None else Some (record { cause = cause; more = 0 })

-- the line for this many counted drops, if there are any
abbrev pub owed : Cause → ℕ → Option Owed
owed cause more = if nat_lt 0 more then Some (record { cause = cause; more = more }) else None

-- the text of a line
abbrev pub owed_line : Owed → List ℕ
owed_line o = if nat_lt 0 o.more then drops_message o.cause o.more else drop_message o.cause

-- how many drops must be logged at this second: all that are counted, unless it has had a line of that cause
abbrev pub drops_owed : ℕ → Tally → ℕ
drops_owed second t = if t.line == second then 0 else t.more

-- the tally once these are logged
abbrev pub logged_at : ℕ → Tally → Tally
logged_at second t = if nat_lt 0 (drops_owed second t) then record t { line = second; more = 0 } else t

abbrev pub tally_of : Cause → Drops → Tally
tally_of cause.Memory d = d.memory
tally_of cause.Connect d = d.connect
tally_of cause.Register d = d.register
tally_of cause.Address d = d.address

-- the drops with this tally for that cause
abbrev pub with_tally : Cause → Tally → Drops → Drops
with_tally cause.Memory t d = record d { memory = t }
with_tally cause.Connect t d = record d { connect = t }
with_tally cause.Register t d = record d { register = t }
with_tally cause.Address t d = record d { address = t }

-- nothing was logged of any cause
abbrev pub no_drops : Drops
no_drops = record { memory = no_tally; connect = no_tally; register = no_tally; address = no_tally }

abbrev pub dropped_for : Cause → ℕ → Drops → Drops
dropped_for cause second d = with_tally cause (dropped_at second (tally_of cause d)) d

abbrev pub all_logged_at : ℕ → Drops → Drops
all_logged_at second d = record {
  memory = logged_at second d.memory;
  connect = logged_at second d.connect;
  register = logged_at second d.register;
  address = logged_at second d.address;
}

-- no drop must be logged at this second
pub record AreLogged (second : ℕ) (d : Drops) : Type 0 where
  pub memory : drops_owed second d.memory ≡ 0
  pub connect : drops_owed second d.connect ≡ 0
  pub register : drops_owed second d.register ≡ 0
  pub address : drops_owed second d.address ≡ 0

-- nothing was logged that still lasts
abbrev pub no_episodes : Episodes
no_episodes = record { starved = false; full = false; drops = no_drops }

-- after an opening a starved accept(2) is logged again, and the next drop of each cause by a line of its own
abbrev pub opened_after : Episodes → Episodes
opened_after e = record e { starved = false; drops = no_drops }
