-- How the ends of a queue sleep and wake. Each thread has one end. First comes what an end is about to do, and what the
-- others can see of it; then what each atomic act does, and which act follows by what it found. Acts of different ends
-- come in any order.
use Rattle.std.specs.Prelude.{◌≡◌, ◌⊎◌, ◌<◌, ◌≤◌, ◌+◌, ℕ, zero, suc, Bool, true, false, not, ◌&&◌, nat_lt, nat_le, if◌then◌else◌, List, [], ◌∷◌, length, replicate, get_or, slice_set, sum_by}

-- The next act of an end. `Rest`: it is in no call. `Wake`: it has a wake in hand, for an item in the queue, and reads
-- the bits or clears one. `Unpark`: it unparks the ends from this number on, below that. `Look`: it looks at the queue,
-- knowing whether that was closed. `LookAgain`: its bit is set. `Withdraw`: it clears its own bit, with an item or without
pub data Act : Type 0 where
  Rest : Act
  Push : Act
  Wake : Act
  Unpark : ℕ → ℕ → Act
  ReadMark : Act
  Look : Bool → Act
  SetBit : Act
  LookAgain : Act
  Park : Act
  Withdraw : Bool → Act
  SetMark : Act

-- `ComesBack`: its last take gave an item, and it has put nothing since. So its next put wakes nobody. `Owes`: it made
-- such a put, or was woken for an item, and has not looked since
pub data Standing : Type 0 where
  Plain : Standing
  ComesBack : Standing
  Owes : Standing

-- an end; its idle bit is set; its parker has a permit
pub record End : Type 0 where
  pub next : Act
  pub standing : Standing
  pub bit : Bool
  pub permit : Bool

-- how many items wait; whether the queue is closed; its ends
pub record Queue : Type 0 where
  pub items : ℕ
  pub closed : Bool
  pub ends : List End

abbrev pub resting : End
resting = record { next = Rest; standing = Plain; bit = false; permit = false }

abbrev pub start : ℕ → Queue
start ends = record { items = 0; closed = false; ends = replicate ends resting }

abbrev pub queue_end : Queue → ℕ → End
queue_end q i = get_or q.ends i resting

abbrev pub with_queue_end : Queue → ℕ → End → Queue
with_queue_end q i e = record q { ends = slice_set q.ends i e }

abbrev pub goes_on : Queue → ℕ → Act → Queue
goes_on q i act = with_queue_end q i (record (queue_end q i) { next = act })

abbrev pub risen : Queue → ℕ → Bool → Queue
risen q i permit = with_queue_end q i (record (queue_end q i) { next = Withdraw false; permit = permit })

abbrev pub EndIsAt : Queue → ℕ → Act → Type 0
EndIsAt q i act = (queue_end q i).next ≡ act

-- its bit was set, and it has not looked or slept since
abbrev pub is_drowsy : Act → Bool
is_drowsy LookAgain = true
is_drowsy Park = true
is_drowsy act = false

-- its bit was set, and it has not withdrawn
abbrev pub is_announced : Act → Bool
is_announced (Withdraw found) = true
is_announced act = is_drowsy act

-- a call begins with one of these
abbrev pub is_first : Act → Bool
is_first Push = true
is_first ReadMark = true
is_first SetMark = true
is_first act = false

-- after a push it has a wake, unless it comes back for an item itself
abbrev pub pushed : End → Standing → End
pushed e ComesBack = record e { next = Rest; standing = Owes }
pushed e standing = record e { next = Wake }

-- an end that found nothing begins anew, and a wake is spent on it; one with an item passes the wake on
abbrev pub withdrawn : End → Bool → Bool → End
withdrawn e false false = record e { next = ReadMark; standing = Owes }
withdrawn e false true = record e { next = ReadMark; bit = false }
withdrawn e true false = record e { next = Wake }
withdrawn e true true = record e { next = Rest; bit = false }

-- a look in vain ends the take of a closed queue
abbrev pub after_look : Bool → Act
after_look true = Rest
after_look false = SetBit

-- a look takes an item and goes on with `found`, or finds none and goes on with `vain`
abbrev pub looked : Queue → ℕ → Act → Act → ℕ → Queue
looked q i found vain zero = with_queue_end q i (record (queue_end q i) { next = vain; standing = Plain })
looked q i found vain (suc items) =
    with_queue_end (record q { items = items }) i (record (queue_end q i) { next = found; standing = ComesBack })

abbrev pub with_permit : Queue → ℕ → Queue
with_permit q k = with_queue_end q k (record (queue_end q k) { permit = true })

-- the end i gives the end k a permit, and goes on with the next one
abbrev pub unparked : Queue → ℕ → ℕ → ℕ → Queue
unparked q i k below = goes_on (with_permit q k) i (Unpark (suc k) below)

abbrev pub without_bit : Queue → ℕ → Queue
without_bit q k = with_queue_end q k (record (queue_end q k) { bit = false })

-- An act of the end i makes r of q. It may rise without a look or a permit (`Rises`). In no call, a park with a time limit takes
-- the permit (`Rests`). Somebody takes an item by a look of no program (`Takes`). What finds that it is too late to clear a bit
-- changes nothing, and is no step
pub data Step (q : Queue) (i : ℕ) (r : Queue) : Type 0 where
  Begins : (first : Act) → is_first first ≡ true → EndIsAt q i Rest → r ≡ goes_on q i first → Step q i r
  Pushes : EndIsAt q i Push
      → r ≡ with_queue_end (record q { items = suc q.items }) i (pushed (queue_end q i) (queue_end q i).standing) → Step q i r
  FindsNone : EndIsAt q i Wake → ((k : ℕ) → (queue_end q k).bit ≡ false) → r ≡ goes_on q i Rest → Step q i r
  Clears : (k : ℕ) → EndIsAt q i Wake → (queue_end q k).bit ≡ true → r ≡ without_bit (goes_on q i (Unpark k (suc k))) k → Step q i r
  Unparks : (k below : ℕ) → (k < below) × (k < length q.ends) → EndIsAt q i (Unpark k below) → r ≡ unparked q i k below → Step q i r
  Ends : (k : ℕ) → EndIsAt q i (Unpark k k) → r ≡ goes_on q i Rest → Step q i r
  ReadsMark : EndIsAt q i ReadMark → r ≡ goes_on q i (Look q.closed) → Step q i r
  Looks : (closed : Bool) → EndIsAt q i (Look closed) → r ≡ looked q i Rest (after_look closed) q.items → Step q i r
  SetsBit : EndIsAt q i SetBit → r ≡ with_queue_end q i (record (queue_end q i) { next = LookAgain; bit = true }) → Step q i r
  LooksAgain : EndIsAt q i LookAgain → r ≡ looked q i (Withdraw true) Park q.items → Step q i r
  Rises : (act : Act) (permit : Bool) → is_drowsy act ≡ true → EndIsAt q i act → r ≡ risen q i permit → Step q i r
  Withdraws : (found : Bool) → EndIsAt q i (Withdraw found)
      → r ≡ with_queue_end q i (withdrawn (queue_end q i) found (queue_end q i).bit) → Step q i r
  SetsMark : EndIsAt q i SetMark → r ≡ goes_on (record q { closed = true }) i (Unpark 0 (length q.ends)) → Step q i r
  Rests : EndIsAt q i Rest → r ≡ with_queue_end q i (record (queue_end q i) { permit = false }) → Step q i r
  Takes : (items : ℕ) → q.items ≡ suc items → r ≡ record q { items = items } → Step q i r

-- these steps, each of one of the ends, lead from q to r
abbrev pub StepsLead : Queue → List (ℕ × Queue) → Queue → Type 0
StepsLead q [] r = r ≡ q
StepsLead q ((i, p) ∷ steps) r = (i < length q.ends) × Step q i p × StepsLead p steps r

-- What holds

-- parked or about to park, without a permit
abbrev pub IsAsleep : End → Type 0
IsAsleep e = (e.next ≡ Park) × (e.permit ≡ false)

abbrev pub unparks : ℕ → Act → Bool
unparks k (Unpark from below) = nat_le from k && nat_lt k below
unparks k act = false

-- some thread is about to unpark this end
abbrev pub WillBeUnparked : Queue → ℕ → Type 0
WillBeUnparked q k = (i : ℕ) × (unparks k (queue_end q i).next ≡ true)

abbrev pub owes : Standing → Bool
owes Owes = true
owes standing = false

abbrev pub has_wake : Act → Bool
has_wake Wake = true
has_wake act = false

-- its bit was set, and somebody cleared it
abbrev pub was_woken : Bool → Act → Bool
was_woken bit act = is_announced act && not bit

abbrev pub one : Bool → ℕ
one b = if b then 1 else 0

-- for how many items the end has yet to look, or to wake an end
abbrev pub duties : End → ℕ
duties e = one (owes e.standing) + (one (has_wake e.next) + one (was_woken e.bit e.next))

-- what an end is on its way to do: to look, to wake an end, to find that it was woken, or to unpark one
pub data IsOnItsWay (e : End) : Type 0 where
  ToLook : owes e.standing ≡ true → IsOnItsWay e
  ToWake : has_wake e.next ≡ true → IsOnItsWay e
  WasWoken : was_woken e.bit e.next ≡ true → IsOnItsWay e
  ToUnpark : (k : ℕ) → unparks k e.next ≡ true → IsOnItsWay e

-- While an end sleeps whose bit is set, it has no duty, and no more items wait than there are duties. An end that sleeps
-- although its bit was cleared, or the queue closed, is about to be unparked. So if an end sleeps and an item waits,
-- somebody is awake, and on the way to take one or to wake an end
pub record NobodySleepsBesideWork (q : Queue) : Type 0 where
  pub free : (k : ℕ) → IsAsleep (queue_end q k) → (queue_end q k).bit ≡ true → duties (queue_end q k) ≡ 0
  pub each : (k : ℕ) → IsAsleep (queue_end q k) → (queue_end q k).bit ≡ true → q.items ≤ sum_by duties q.ends
  pub woken : (k : ℕ) → IsAsleep (queue_end q k) → ((queue_end q k).bit ≡ false) ⊎ (q.closed ≡ true) → WillBeUnparked q k
  pub some : (k : ℕ) → IsAsleep (queue_end q k) → 0 < q.items → (i : ℕ) × (¬ (IsAsleep (queue_end q i))) × IsOnItsWay (queue_end q i)

-- for any number of ends, and any list of their steps
abbrev pub NobodySleeps : Type 0
NobodySleeps = (ends : ℕ) (steps : List (ℕ × Queue)) (q : Queue) → StepsLead (start ends) steps q → NobodySleepsBesideWork q
