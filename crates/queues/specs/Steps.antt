-- What a call shows the end that made it. No clause can name what other threads do. So the call shows some state that
-- meets the rule and has the end's own history.
use Rattle.std.specs.{Prelude.{◌≡◌, ℕ, ◌+◌, ◌^◌, ◌==◌, Bool, not, bit_and, true, false, List, [], ◌∷◌, ◌++◌, length, map, replicate, slice_set}, List.range_with_len}
use Rattle.atomic_table.specs.Seated.{TableId}
use Rattle.queues.specs.{declared.history.History.History, Rule.QueueRule}
use mathlib.Core.Option.{some}
use lib.ListN.{get_elem?}

-- what callers see of an end: how many items its queue can hold, and what the end has put and taken
pub record EndState (T : Type 0) : Type 0 where
  pub capacity : ℕ
  pub history : History T

-- the same, and which queue it is an end of
pub record QueueEnd (T : Type 0) : Type 0 where
  pub queue : TableId
  pub capacity : ℕ
  pub history : History T

-- an end's look at a queue: which queue, and what the end had put and taken
pub record Look (T : Type 0) : Type 0 where
  pub queue : TableId
  pub history : History T

module _ {T : Type 0} where
  abbrev pub look_of : QueueEnd T → Look T
  look_of end = record { queue = end.queue; history = end.history }

  -- it is an end of the same queue
  abbrev pub IsStill : QueueEnd T → QueueEnd T → Type 0
  IsStill old new = (new.queue ≡ old.queue) × (new.capacity ≡ old.capacity)

  -- the history of an end that has done nothing yet
  abbrev pub blank : History T
  blank = record { alone = false; put = []; taken = [] }

  -- the history of the first end, before any other is made
  abbrev pub opener : History T
  opener = record { alone = true; put = []; taken = [] }

  -- another end was made
  abbrev pub among_others : History T → History T
  among_others h = record h { alone = false }

  abbrev pub after_put : History T → ℕ → T → History T
  after_put h place item = record h { put = h.put ++ (place, item) ∷ [] }

  abbrev pub after_take : History T → ℕ → T → History T
  after_take h place item = record h { taken = h.taken ++ (place, item) ∷ [] }

  -- an end that has put and taken nothing
  abbrev pub unused : ℕ → EndState T
  unused capacity = record { capacity = capacity; history = blank }

  abbrev pub first_of : TableId → ℕ → QueueEnd T
  first_of queue capacity = record { queue = queue; capacity = capacity; history = opener }

  abbrev pub new_end : TableId → ℕ → QueueEnd T
  new_end queue capacity = record { queue = queue; capacity = capacity; history = blank }

  -- this many ends of one queue, for this many items, which have put and taken nothing
  abbrev pub AreNew : ℕ → ℕ → List (QueueEnd T) → Type 0
  AreNew ends capacity all = (queue : TableId) × (all ≡ replicate ends (new_end queue capacity))

  -- some state that meets the rule has these items in the queue, and this history of the end
  pub record Saw (history : History T) (items : List T) : Type 0 where
    pub views : List (History T)
    pub end_number : ℕ
    pub mine : get_elem? views end_number ≡ some history
    pub rule : QueueRule items views

  -- the item joined at the back, and the end's history has its place
  pub record PutOne (old : History T) (item : T) (new : History T) : Type 0 where
    pub items : List T
    pub views : List (History T)
    pub end_number : ℕ
    pub mine : get_elem? views end_number ≡ some old
    pub before : QueueRule items views
    pub put : new ≡ after_put old (length (before.gone ++ items)) item
    pub after : QueueRule (items ++ item ∷ []) (slice_set views end_number new)

  -- the last item that the end has put
  abbrev pub PutLast : T → History T → Type 0
  PutLast item h = (place : ℕ) × (before : List (ℕ × T)) × (h.put ≡ before ++ (place, item) ∷ [])

  -- the item left at the front, and the end's history has its place
  pub record TookOne (old : History T) (item : T) (new : History T) : Type 0 where
    pub items : List T
    pub views : List (History T)
    pub end_number : ℕ
    pub mine : get_elem? views end_number ≡ some old
    pub before : QueueRule (item ∷ items) views
    pub taken : new ≡ after_take old (length before.gone) item
    pub after : QueueRule items (slice_set views end_number new)

-- this many slots from the first on, each with its place, in order
abbrev pub in_order : ℕ → ℕ → List (ℕ × ℕ)
in_order first slots = map (λ (place : ℕ). (place, first + place)) (range_with_len 0 slots)

-- the first end of a queue of free slots, which has put all of them
abbrev pub opened : ℕ → ℕ → EndState ℕ
opened first slots = record { capacity = slots; history = record blank { put = in_order first slots } }

-- One step on a word of bits: the bits that were read; or those set or cleared, and all bits before
pub data BitStep : Type 0 where
  ReadBits : ℕ → BitStep
  SetBits : ℕ → ℕ → BitStep
  ClearedBits : ℕ → ℕ → BitStep

-- the bit of an end
abbrev pub bit_of : ℕ → ℕ
bit_of end = 2 ^ end

-- whether an end's bit is set
abbrev pub has_bit : ℕ → ℕ → Bool
has_bit end bits = not (bit_and bits (bit_of end) == 0)
