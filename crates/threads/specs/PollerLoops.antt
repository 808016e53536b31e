-- What a poller's loop does: its rounds, the turns after each, and its last step.
use Rattle.std.specs.Prelude.{◌≡◌, ◌⊎◌, ℕ, zero, suc, ◌<◌, ◌≤◌, Bool, true, false, Option, Some, None, List, length, Result, Ok, Err, slice_get}
use Rattle.queues.specs.declared.{moment.Full.Full, ticket.Ticket.Ticket}
use Rattle.sizes.specs.{declared.faults.ServerFault.ServerFault, Limits.own_turns}
use Rattle.shared.specs.{declared.{front.Unaccepted.Unaccepted, shared.Own.Own}, Outgoing.without_first, Posts.{IsWorn, OnlyWorn}}
use Rattle.turns.specs.{declared.worker.Worked.Worked, Shares.TicketsShared, Turns.{NoOwnTurn, TurnMade, marks_after}}
use Rattle.rounds.specs.{Pollers.{PollerState, HasOpenedAll}, Rounds.{LacksRoom, NoRound, RoundDone, RoundEnded, RoundKeeps, RoundRefused, WaitedAsMay}}
use Rattle.threads.specs.declared.ending.Why.{Why, TheVariants.{FaultFound, PollerOver, Met}}
use Rattle.turns.specs.declared.worker.Worked.TheVariants as worked

-- this step was made this many times, one after the other, and nothing else
module _ (step : PollerState → PollerState → Own → Own → Type 0) where
  abbrev pub Repeated : ℕ → PollerState → PollerState → Own → Own → Type 0
  Repeated zero p q a b = (q ≡ p) × (b ≡ a)
  Repeated (suc n) p q a b = (r : PollerState) × (c : Own) × Repeated n p r a c × step r q c b

-- the oldest ticket in hand had its turn, with this answer
pub record OldestTurn (answer : Result Worked ServerFault) (a b : Own) : Type 0 where
  pub ticket : Ticket
  pub oldest : slice_get a.hand.tickets 0 ≡ Some ticket
  pub turn : TurnMade a.seat.table.words ticket answer (without_first a) b

-- what a turn of the oldest ticket in hand did, by its answer
abbrev pub OwnRan : Result (Option Worked) ServerFault → Own → Own → Type 0
OwnRan (Ok None) a b = b ≡ a
OwnRan (Ok (Some worked)) a b = OldestTurn (Ok worked) a b
OwnRan (Err fault) a b = OldestTurn (Err fault) a b

-- of the poller a turn of the oldest ticket in hand changed only the heavy marks, by its answer
abbrev pub OnlyMarked : Result (Option Worked) ServerFault → Own → PollerState → PollerState → Type 0
OnlyMarked result a p q = q ≡ record p { heavy = marks_after (slice_get a.hand.tickets 0) result p.heavy }

-- a turn of the oldest ticket in hand, which met no fault
abbrev pub OwnTurnMade : PollerState → PollerState → Own → Own → Type 0
OwnTurnMade p q a b = (worked : Worked) × OldestTurn (Ok worked) a b × OnlyMarked (Ok (Some worked)) a p q

-- the tickets in hand were shared, and the poller's thread ran this many of those that stayed, the oldest first
pub record SharedAndRan (count : ℕ) (p q : PollerState) (a b : Own) : Type 0 where
  pub full : Option (Full Ticket)
  pub heavy : List ℕ
  pub shared : Own
  pub sharing : TicketsShared full p.heavy heavy a shared
  pub turns : Repeated OwnTurnMade count (record p { heavy = heavy }) q shared b

-- after a round 32 of the tickets that stayed were run; if fewer were, none is left, or no more slot fits in hand
pub record TurnsAfter (p q : PollerState) (a b : Own) : Type 0 where
  pub count : ℕ
  pub made : SharedAndRan count p q a b
  pub most : count ≤ own_turns
  pub ended : (count ≡ own_turns) ⊎ NoOwnTurn b

-- why a poller's thread runs no more turns: a look found a fault, as this mark shows, or the next turn met one
abbrev pub LastTurn : ℕ → Why → Own → Own → Type 0
LastTurn mark (FaultFound found) a b = (found ≡ mark) × (b ≡ a)
LastTurn mark (Met fault) a b = OldestTurn (Err fault) a b × OnlyWorn fault b.seat
LastTurn mark why a b = ⊥

-- how a poller's thread ends, for this reason; this mark shows a fault
module _ (mark : ℕ) (why : Why) where
  -- after a round fewer than 32 of the tickets that stayed were run, without a fault, before the thread ended
  pub record TurnsCut (p q : PollerState) (a b : Own) : Type 0 where
    pub count : ℕ
    pub between : Own
    pub made : SharedAndRan count p q a between
    pub few : count < own_turns
    pub last : LastTurn mark why between b

  -- the last step was not begun
  pub record NotBegun (p q : PollerState) (a b : Own) : Type 0 where
    pub reason : (why ≡ FaultFound mark) ⊎ ((why ≡ PollerOver) × (p.over ≡ true))
    pub poller : q ≡ p
    pub own : b ≡ a

-- A look at the flag that stops openings found this; `said` is what is known of the look. If the flag was set, the
-- poller may open no more from now on. Else the poller is as it was
pub record StopAsked (said : Bool → Type 0) (old new : PollerState) : Type 0 where
  pub found : Bool
  pub looked : said found
  pub stopped : found ≡ true → ((new ≡ old) × HasOpenedAll old) ⊎ (new ≡ record old { most = 0 })
  pub goes_on : found ≡ false → new ≡ old

-- What is known of the thread's looks: at the flag what each was `said` to find, at the clock which seconds it `tells`, and of
-- accept(2) why it `gave_none`. And the idle limit
module _ (said : Bool → Type 0) (tells : ℕ → Type 0) (gave_none : Unaccepted → Type 0) (limit : ℕ) where
  -- a poller's thread made a round, after a look at the flag that stops openings
  pub record RoundMade (p q : PollerState) (a b : Own) : Type 0 where
    pub begun : PollerState
    pub asked : StopAsked said p begun
    pub round : RoundDone begun q a b
    pub keeps : RoundKeeps limit begun q a b
    pub waits : LacksRoom (length q.table) a ⊎ WaitedAsMay limit begun q a b

  -- such a round, which was not refused: the hand had no room, and nothing was done, or the seat is not worn at its end
  pub record RoundOver (p q : PollerState) (a b : Own) : Type 0 where
    pub made : RoundMade p q a b
    pub ended : (LacksRoom (length q.table) a × NoRound made.begun q a b)
        ⊎ ((IsWorn b.seat → ⊥) × RoundEnded tells gave_none limit made.begun q b)

  -- such a round, and what came after it
  pub record RoundAnd (After : PollerState → PollerState → Own → Own → Type 0) (p q : PollerState) (a b : Own) : Type 0 where
    pub polled : PollerState
    pub between : Own
    pub round : RoundOver p polled a between
    pub turns : After polled q between b

  -- a step of a poller's thread: a round, and the turns after it
  abbrev pub StepMade : PollerState → PollerState → Own → Own → Type 0
  StepMade p q a b = RoundAnd TurnsAfter p q a b

  -- the last round was refused, with the fault that the thread met
  pub record RoundCut (why : Why) (p q : PollerState) (a b : Own) : Type 0 where
    pub fault : ServerFault
    pub reason : why ≡ Met fault
    pub made : RoundMade p q a b
    pub refused : RoundRefused fault made.begun q a b

  module _ (mark : ℕ) (why : Why) where
    -- the last step of a poller's thread, by why it ended
    abbrev pub StepCut : PollerState → PollerState → Own → Own → Type 0
    StepCut p q a b = NotBegun mark why p q a b ⊎ (RoundCut why p q a b ⊎ RoundAnd (TurnsCut mark why) p q a b)

    -- any number of steps, and then the last one
    abbrev pub LoopMade : PollerState → PollerState → Own → Own → Type 0
    LoopMade p q a b = (steps : ℕ) × (r : PollerState) × (c : Own) × Repeated StepMade steps p r a c × StepCut r q c b

    -- all of a thread's steps, from the second that its clock showed as it began: its sweeps are counted from then
    abbrev pub RunMade : PollerState → Own → Own → Type 0
    RunMade p a b = (second : ℕ) × (q : PollerState) × tells second × LoopMade (record p { swept = second }) q a b
