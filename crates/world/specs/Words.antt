-- The claim word of a slot, and the steps that an event makes there. Part of the promises, for the clause `words` of
-- `World::step` alone. What a step makes of a word and answers is defined in `claims`.
use Rattle.std.specs.Prelude.{◌≡◌, ℕ, ◌+◌, ◌==◌, Bool, true, false, if◌then◌else◌, List, [], ◌∷◌, length, slice_get, Option, Some, None}
use Rattle.claims.specs.{declared.view.Exchange.{Exchange, TheVariants.{Post, Release}}, Words.{WordState, StepKind, post, claim, take, release, retire, adopt, word_of, word_after, made}}
use Rattle.token.specs.declared.name.Name.{Name}
use Rattle.world.specs.{declared.{actors.{Holder.{Holder, TheVariants.{Nobody, By, Free}}, Doing.{Doing, TheVariants.{Tries, Holds, Closed}}}, event.{Event.Event, Act.Act}, limits.Limits.Limits}, Slots.{SlotState, WorkerState, is_held}, States.{State, is_entry, opening}, Runs.run, Support.{one, tickets}}
use Rattle.token.specs.declared.name.Name.TheVariants as name
use Rattle.world.specs.declared.event.Event.TheVariants as event
use Rattle.world.specs.declared.event.Polling.TheVariants as polling
use Rattle.world.specs.declared.event.Act.TheVariants as act

abbrev pub is_free : Holder → Bool
is_free Nobody = false
is_free (By worker) = false
is_free Free = true

-- the claim word of a slot: a free slot counts as held
abbrev pub word_at : SlotState → WordState
word_at p = record { pending = length p.notes; free = is_free p.holder; held = is_held p.holder }

abbrev pub word_after_kinds : List StepKind → WordState → WordState
word_after_kinds [] w = w
word_after_kinds (k ∷ ks) w = word_after_kinds ks (word_after k w)

abbrev pub is_wake : Exchange → Bool
is_wake (Post woke) = woke
is_wake (Release woke) = woke
is_wake e = false

-- how many of these steps answer Wake
abbrev pub count_wakes : List StepKind → WordState → ℕ
count_wakes [] w = 0
count_wakes (k ∷ ks) w = one (is_wake (made k w)) + count_wakes ks (word_after k w)

abbrev pub is_claim : StepKind → Bool
is_claim claim = true
is_claim k = false

-- how many of these steps are claims: each uses up its ticket
abbrev pub claims : List StepKind → ℕ
claims [] = 0
claims (k ∷ ks) = one (is_claim k) + claims ks

-- The steps that an event makes at slot s

abbrev pub kinds_at : ℕ → ℕ → List StepKind → List StepKind
kinds_at s t steps = if t == s then steps else []

-- the slot is adopted, its old notes are thrown away, the note of the opening is posted, and the slot is released
abbrev pub opening_steps : Option ℕ → ℕ → List StepKind
opening_steps None s = []
opening_steps (Some t) s = kinds_at s t (adopt ∷ take ∷ post ∷ release ∷ [])

-- a report of an end is posted if its generation is the table's
abbrev pub delivery_steps : State → Option Name → ℕ → List StepKind
delivery_steps st None s = []
delivery_steps st (Some name.Listener) s = []
delivery_steps st (Some name.Waker) s = []
delivery_steps st (Some (name.End n)) s = if is_entry (slice_get st.table n.slot) n.generation then kinds_at s n.slot (post ∷ []) else []

abbrev pub act_steps : Act → Doing → ℕ → List StepKind
act_steps act.Claim (Tries t) s = kinds_at s t.slot (claim ∷ [])
act_steps act.Take (Holds t left) s = kinds_at s t (take ∷ [])
act_steps act.Post (Holds t left) s = kinds_at s t (post ∷ [])
act_steps act.Release (Holds t left) s = kinds_at s t (release ∷ [])
act_steps act.Retire (Closed t) s = kinds_at s t (retire ∷ [])
act_steps a d s = []

abbrev pub worker_steps : Option WorkerState → Act → ℕ → List StepKind
worker_steps None a s = []
worker_steps (Some k) a s = act_steps a k.doing s

abbrev pub steps : State → Event → ℕ → List StepKind
steps st (event.Poll polling.Open) s = opening_steps (slice_get st.free 0) s
steps st (event.Poll polling.Deliver) s = delivery_steps st (slice_get st.batch 0) s
steps st (event.Poll (polling.Sweep t)) s = kinds_at s t (post ∷ [])
steps st (event.Work w a) s = worker_steps (slice_get st.workers w) a s
steps st e s = []

-- What an event does to slot s, which is p: its word becomes what the event's steps there make of it. Its tickets are
-- one more for each step that answers Wake, and one less for each claim
pub record WordMoves (st next : State) (e : Event) (s : ℕ) (p : SlotState) : Type 0 where
  pub place : SlotState
  pub there : slice_get next.slots s ≡ Some place
  pub word : word_of (word_at place) ≡ word_of (word_after_kinds (steps st e s) (word_at p))
  pub tickets : tickets next s + claims (steps st e s) ≡ tickets st s + count_wakes (steps st e s) (word_at p)

abbrev pub WordsMove : State → Event → State → Type 0
WordsMove st e next = (s : ℕ) (p : SlotState) → slice_get st.slots s ≡ Some p → WordMoves st next e s p

abbrev pub WordsMoveInRuns : State → Event → State → Type 0
WordsMoveInRuns st e next = (l : Limits) (events : List Event) → run (opening l) events ≡ Some st → WordsMove st e next
