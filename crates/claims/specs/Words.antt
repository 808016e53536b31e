-- The claim word of a slot, how a step of each kind changes it, and which exchange that is. This file stands alone, so
-- that a model of the server can describe its own steps with the same words.
use Rattle.std.specs.Prelude.{ℕ, zero, suc, ◌+◌, ◌*◌, Bool, true, false, if◌then◌else◌}
use Rattle.claims.specs.declared.view.Exchange.{Exchange, TheVariants.{Post, Busy, Held, Take, Release, Retire, Adopted, NotFree}}

-- what a word says of its slot: how many notes wait, whether the slot is free, and whether it is held
pub record WordState : Type 0 where
  pub pending : ℕ
  pub free : Bool
  pub held : Bool

-- a bit as a number
abbrev pub one : Bool → ℕ
one true = 1
one false = 0

-- the word as a number
abbrev pub word_of : WordState → ℕ
word_of w = 4 * w.pending + (2 * one w.free + one w.held)

-- the kinds of step, each an exchange of one word
pub data StepKind : Type 0 where
  post : StepKind
  claim : StepKind
  take : StepKind
  release : StepKind
  retire : StepKind
  adopt : StepKind

-- whether a note waits
abbrev pub some_wait : ℕ → Bool
some_wait zero = false
some_wait (suc n) = true

-- whether a post answers Wake: no note waits yet, and the slot is not marked as held
abbrev pub wakes : WordState → Bool
wakes w = if w.held then false else (if some_wait w.pending then false else true)

-- post adds a note, claim sets `held` and release clears it, take clears the notes, retire sets `free` and adopt clears it
abbrev pub word_after : StepKind → WordState → WordState
word_after post w = record w { pending = suc w.pending }
word_after claim w = record w { held = true }
word_after take w = record w { pending = zero }
word_after release w = record w { held = false }
word_after retire w = record w { free = true }
word_after adopt w = record w { free = false }

-- The exchange that a step of this kind makes, by what the word says. A claim of a free slot is answered Busy, since a
-- free slot is marked as held
abbrev pub made : StepKind → WordState → Exchange
made post w = Post (wakes w)
made claim w = if w.held then Busy else Held w.pending
made take w = Take w.pending
made release w = Release (some_wait w.pending)
made retire w = Retire
made adopt w = if w.free then Adopted w.pending else NotFree

abbrev pub step_kind : Exchange → StepKind
step_kind (Post woke) = post
step_kind Busy = claim
step_kind (Held pending) = claim
step_kind (Take count) = take
step_kind (Release woke) = release
step_kind Retire = retire
step_kind (Adopted pending) = adopt
step_kind NotFree = adopt
