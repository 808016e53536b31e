-- The words by which the lines of a script begin, and the word of each event.
use Rattle.std.specs.{Prelude.{ℕ, List, [], ◌∷◌, codes, if◌then◌else◌, Option, Some, None}, Str.bytes_eq}
use Rattle.world.specs.declared.event.{Event.Event, Change.Change, Listening.Listening, Polling.Polling, Act.Act}
use Rattle.world_text.specs.declared.word.Word.{Word}
use Rattle.world.specs.declared.event.Event.TheVariants as event
use Rattle.world.specs.declared.event.Change.TheVariants as change
use Rattle.world.specs.declared.event.Listening.TheVariants as listening
use Rattle.world.specs.declared.event.Polling.TheVariants as polling
use Rattle.world.specs.declared.event.Act.TheVariants as act
use Rattle.world_text.specs.declared.word.Word.TheVariants as word

-- The first word of a step or an event, by which a fault names it.

abbrev pub word_text : Word → List ℕ
word_text word.Accept = codes "accept"
word_text word.Arrive = codes "arrive"
word_text word.Call = codes "call"
word_text word.Claim = codes "claim"
word_text word.Close = codes "close"
word_text word.Connect = codes "connect"
word_text word.Deliver = codes "deliver"
word_text word.Drop = codes "drop"
word_text word.End = codes "end"
word_text word.Fin = codes "fin"
word_text word.Free = codes "free"
word_text word.Idle = codes "idle"
word_text word.Open = codes "open"
word_text word.Poll = codes "poll"
word_text word.Pop = codes "pop"
word_text word.Post = codes "post"
word_text word.Put = codes "put"
word_text word.Read = codes "read"
word_text word.Release = codes "release"
word_text word.Reset = codes "reset"
word_text word.Retire = codes "retire"
word_text word.Room = codes "room"
word_text word.Shut = codes "shut"
word_text word.Spurious = codes "spurious"
word_text word.Sweep = codes "sweep"
word_text word.Take = codes "take"
word_text word.Tick = codes "tick"
word_text word.Vanish = codes "vanish"
word_text word.Wrote = codes "wrote"

abbrev pub all_words : List Word
all_words =
    word.Accept ∷ word.Arrive ∷ word.Call ∷ word.Claim ∷ word.Close ∷ word.Connect ∷ word.Deliver ∷ word.Drop ∷ word.End ∷ word.Fin
    ∷ word.Free ∷ word.Idle ∷ word.Open ∷ word.Poll ∷ word.Pop ∷ word.Post ∷ word.Put ∷ word.Read ∷ word.Release ∷ word.Reset
    ∷ word.Retire ∷ word.Room ∷ word.Shut ∷ word.Spurious ∷ word.Sweep ∷ word.Take ∷ word.Tick ∷ word.Vanish ∷ word.Wrote ∷ []

-- the first of these words that is written as the text
abbrev pub word_among : List Word → List ℕ → Option Word
word_among [] text = None
word_among (w ∷ ws) text = if bytes_eq text (word_text w) then Some w else word_among ws text

unfoldable pub word_named : List ℕ → Option Word
word_named text = word_among all_words text

abbrev pub change_word : Change → Word
change_word (change.Arrive bytes) = word.Arrive
change_word change.Fin = word.Fin
change_word change.Reset = word.Reset
change_word change.Room = word.Room

abbrev pub listening_word : Listening → Word
listening_word listening.Connect = word.Connect
listening_word (listening.Accept answer) = word.Accept
listening_word listening.Drop = word.Drop

abbrev pub polling_word : Polling → Word
polling_word polling.Open = word.Open
polling_word (polling.Poll names) = word.Poll
polling_word polling.Deliver = word.Deliver
polling_word (polling.Sweep slot) = word.Sweep
polling_word polling.Put = word.Put

abbrev pub act_word : Act → Word
act_word act.Put = word.Put
act_word act.Pop = word.Pop
act_word act.Claim = word.Claim
act_word act.Take = word.Take
act_word (act.Call r) = word.Call
act_word act.Post = word.Post
act_word act.Release = word.Release
act_word act.Expire = word.Idle
act_word act.Close = word.Close
act_word act.Retire = word.Retire
act_word act.Free = word.Free

abbrev pub event_word : Event → Word
event_word (event.Tick seconds) = word.Tick
event_word (event.Network slot side c) = change_word c
event_word (event.Spurious who) = word.Spurious
event_word (event.Vanish who) = word.Vanish
event_word (event.Listen l) = listening_word l
event_word (event.Poll p) = polling_word p
event_word (event.Work worker a) = act_word a
