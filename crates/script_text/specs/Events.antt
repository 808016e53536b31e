-- The events of a world's script, and the lines that say them.
use Rattle.std.specs.{Prelude.{ℕ, List, [], ◌∷◌, codes, nat_lt, nat_le, ◌&&◌, if◌then◌else◌, length, Option, Some, None, option_map, option_and_then}, Str.bytes_eq}
use Rattle.world.specs.declared.event.{Event.Event, Change.Change, Act.Act, Reported.Reported}
use Rattle.script_text.specs.{declared.steps.Step.Step, Texts.{pieces_of, words_between, number_of, number_below, hex_bytes, word_then, if_last, full_of}}
use Rattle.world_text.specs.{declared.word.Word.Word, Words.word_named}
use Rattle.token.specs.{Names.last_generation, declared.{side.Side.Side, name.Name.Name}, Sides.side_named, Kinds.kind_named}
use Rattle.kernel_model.specs.declared.{reply.Reply.Reply, accepting.Accepting.Accepting}
use Rattle.world.specs.declared.event.Event.TheVariants as event
use Rattle.world.specs.declared.event.Change.TheVariants as change
use Rattle.world.specs.declared.event.Listening.TheVariants as listening
use Rattle.world.specs.declared.event.Polling.TheVariants as polling
use Rattle.world.specs.declared.event.Act.TheVariants as act
use Rattle.world_text.specs.declared.word.Word.TheVariants as word
use Rattle.token.specs.declared.name.Name.TheVariants as name
use Rattle.kernel_model.specs.declared.reply.Reply.TheVariants as reply
use Rattle.kernel_model.specs.declared.accepting.Accepting.TheVariants as accepting
use Rattle.world.specs.declared.event.Reported.TheVariants as reported
use Rattle.script_text.specs.declared.steps.Step.TheVariants as step

-- An event as a line says it. Two forms carry a list, of bytes or of names; any other form is an event of the machine as it is.
pub data Said : Type 0 where
  Arrives : ℕ → Side → List ℕ → Said
  Polls : List Name → Said
  Plainly : Event → Said

abbrev pub said_of : Event → Said
said_of (event.Network slot side (change.Arrive bytes)) = Arrives slot side bytes.items
said_of (event.Poll (polling.Poll names)) = Polls names.items
said_of e = Plainly e

-- The parts of a line

abbrev pub slot_said : List ℕ → Option ℕ
slot_said word = number_below 64 word

abbrev pub worker_of : List ℕ → Option ℕ
worker_of word = number_below 16 word

-- the generation in a name, 1 to 2^47 - 1
abbrev pub generation_of : List ℕ → Option ℕ
generation_of word = option_and_then (λ n. if nat_lt 0 n && nat_le n last_generation then Some n else None) (number_of word)

-- `SLOT.GEN.SIDE`, by its parts
abbrev pub end_said : List (List ℕ) → Option Name
end_said (slot ∷ generation ∷ side ∷ []) =
    option_and_then (λ s. option_and_then (λ g. option_map (λ d. name.End (record { slot = s; side = d; generation = g }))
    (side_named side)) (generation_of generation)) (slot_said slot)
end_said _ = None

-- a name as the queue has it
abbrev pub name_queued : List ℕ → Option Name
name_queued word =
    if bytes_eq word (codes "listener") then Some name.Listener
    else if bytes_eq word (codes "waker") then Some name.Waker
    else end_said (pieces_of 46 word)

abbrev pub all_names : List (List ℕ) → Option (List Name)
all_names [] = Some []
all_names (word ∷ words) = option_and_then (λ n. option_map (λ ns. n ∷ ns) (all_names words)) (name_queued word)

-- the names that these words are, if they are at most 256
abbrev pub names_of : List (List ℕ) → Option (List Name)
names_of words = if nat_le (length words) 256 then all_names words else None

abbrev pub accepting_of : List ℕ → Option Accepting
accepting_of word =
    if bytes_eq word (codes "ok") then Some accepting.Accepted
    else if bytes_eq word (codes "blocked") then Some accepting.Blocked
    else if bytes_eq word (codes "again") then Some accepting.Again
    else if bytes_eq word (codes "starved") then Some accepting.Starved
    else None

abbrev pub reply_said : List (List ℕ) → Option Reply
reply_said [] = None
reply_said (name ∷ words) =
    if bytes_eq name (codes "read") then word_then number_of (λ n. if_last (reply.Bytes n)) words
    else if bytes_eq name (codes "end") then if_last reply.End words
    else if bytes_eq name (codes "wrote") then word_then number_of (λ n left. option_map (λ full. reply.Wrote n full) (full_of left)) words
    else if bytes_eq name (codes "joined") then if_last reply.Joined words
    else if bytes_eq name (codes "shut") then if_last reply.Shut words
    else if bytes_eq name (codes "blocked") then if_last reply.Blocked words
    else if bytes_eq name (codes "interrupted") then if_last reply.Interrupted words
    else if bytes_eq name (codes "failed") then word_then kind_named (λ kind. if_last (reply.Failed kind)) words
    else None

-- what a report is about that comes without cause or is withdrawn
abbrev pub reported_of : List (List ℕ) → Option Reported
reported_of [] = None
reported_of (who ∷ words) =
    if bytes_eq who (codes "listener") then if_last reported.Listener words
    else if bytes_eq who (codes "waker") then if_last reported.Waker words
    else option_and_then (λ slot. word_then side_named (λ side. if_last (reported.End slot side)) words) (slot_said who)

-- The words after the first one

-- a slot and a side, for a change without bytes
abbrev pub change_event : Change → List (List ℕ) → Option Event
change_event change = word_then slot_said (λ slot. word_then side_named (λ side. if_last (event.Network slot side change)))

abbrev pub put_event : List (List ℕ) → Option Event
put_event [] = None
put_event (who ∷ words) =
    if bytes_eq who (codes "poller") then if_last (event.Poll polling.Put) words
    else option_and_then (λ worker. if_last (event.Work worker act.Put) words) (worker_of who)

abbrev pub call_event : List (List ℕ) → Option Event
call_event = word_then worker_of (λ worker words. option_map (λ answer. event.Work worker (act.Call answer)) (reply_said words))

abbrev pub act_event : Act → List (List ℕ) → Option Event
act_event act = word_then worker_of (λ worker. if_last (event.Work worker act))

-- the events that carry no list, by the first word
abbrev pub plain_event : Word → List (List ℕ) → Option Event
plain_event word.Tick words = word_then number_of (λ n. if_last (event.Tick n)) words
plain_event word.Connect words = if_last (event.Listen listening.Connect) words
plain_event word.Accept words = word_then accepting_of (λ answer. if_last (event.Listen (listening.Accept answer))) words
plain_event word.Drop words = if_last (event.Listen listening.Drop) words
plain_event word.Fin words = change_event change.Fin words
plain_event word.Reset words = change_event change.Reset words
plain_event word.Room words = change_event change.Room words
plain_event word.Spurious words = option_map event.Spurious (reported_of words)
plain_event word.Vanish words = option_map event.Vanish (reported_of words)
plain_event word.Open words = if_last (event.Poll polling.Open) words
plain_event word.Deliver words = if_last (event.Poll polling.Deliver) words
plain_event word.Sweep words = word_then slot_said (λ slot. if_last (event.Poll (polling.Sweep slot))) words
plain_event word.Put words = put_event words
plain_event word.Call words = call_event words
plain_event word.Pop words = act_event act.Pop words
plain_event word.Claim words = act_event act.Claim words
plain_event word.Take words = act_event act.Take words
plain_event word.Post words = act_event act.Post words
plain_event word.Release words = act_event act.Release words
plain_event word.Idle words = act_event act.Expire words
plain_event word.Close words = act_event act.Close words
plain_event word.Retire words = act_event act.Retire words
plain_event word.Free words = act_event act.Free words
plain_event _ words = None

abbrev pub arrival_said : List (List ℕ) → Option Said
arrival_said = word_then slot_said (λ slot. word_then side_named (λ side. word_then hex_bytes (λ bytes. if_last (Arrives slot side bytes))))

abbrev pub event_by : Word → List (List ℕ) → Option Said
event_by word.Arrive words = arrival_said words
event_by word.Poll words = option_map Polls (names_of words)
event_by first words = option_map said_of (plain_event first words)

abbrev pub event_of : List ℕ → Option Said
event_of line = word_then word_named event_by (words_between line)

-- The steps of a script of one direction, and the lines that say them.

abbrev pub step_by : Word → List (List ℕ) → Option Step
step_by word.Arrive words = word_then hex_bytes (λ bytes. if_last (step.Arrive bytes)) words
step_by word.Fin words = if_last step.Fin words
step_by word.Room words = if_last step.Room words
step_by word.Read words = word_then number_of (λ n. if_last (step.Read n)) words
step_by word.End words = if_last step.End words
step_by word.Wrote words = word_then number_of (λ n left. option_map (λ full. step.Wrote n full) (full_of left)) words
step_by word.Shut words = if_last step.Shut words
step_by _ words = None

abbrev pub step_of : List ℕ → Option Step
step_of line = word_then word_named step_by (words_between line)

abbrev pub step_word : Step → Word
step_word (step.Arrive bytes) = word.Arrive
step_word step.Fin = word.Fin
step_word step.Room = word.Room
step_word (step.Read n) = word.Read
step_word step.End = word.End
step_word (step.Wrote n full) = word.Wrote
step_word step.Shut = word.Shut
