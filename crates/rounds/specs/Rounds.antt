-- What a round of the poller does. Of four states the first two are the poller's, before and after, and the last two
-- what its thread owns.
use Rattle.std.specs.Prelude.{◌≡◌, ◌≢◌, ◌⊎◌, ℕ, ◌+◌, ◌<◌, ◌≤◌, true, false, List, [], ◌++◌, length, Contains}
use Rattle.queues.specs.declared.ticket.Ticket.{Ticket}
use Rattle.shared.specs.{declared.{front.{Route.Route, Unaccepted.Unaccepted, Waiting.Waiting}, places.Berth.Berth, shared.Own.Own}, Acts.Made, Hands.ticket_room, Outgoing.tickets_out, Posts.{IsWorn, OnlyWorn}}
use Rattle.sizes.specs.declared.{split.Part.Part, faults.ServerFault.ServerFault}
use Rattle.rounds.specs.{Acts.{SeatAct, due_of, ActsMade, ArePosts, AreTries, InOrder, PostsMade, all_reported, ArePosted, is_due, sweep_of, swept_after}, Openings.{AreIn, AreLost, AreOpened, OnlyTook, SameQueues, SlotsCounted, TriesMade, TriesNext, unmarked}, Pollers.{PollerState, HasOpenedAll, HasRisen, spare_room}, Episodes.AreLogged}
use Rattle.shared.specs.declared.front.Unaccepted.TheVariants as unaccepted
use Rattle.shared.specs.declared.front.Waiting.TheVariants as waiting
use Rattle.sizes.specs.declared.faults.ServerFault.TheVariants as server_fault

-- The reports of the batch were delivered: each that is for a connection was posted at its slot. Then came the posts of
-- a sweep, if one was made, and then connections were opened. Of the posts the last ones are missing only if the seat is
-- worn. These acts, in this order, are all that the seat did, and all are at the poller's own slots. The tickets from
-- before the round, of the reports, of the sweep and of the openings are put or in hand, in this order. Each slot that
-- was taken was opened, or is in hand, or is no longer used. An opening takes its slot's heavy marks away, and nothing else
-- changes these. Each try, also one that was dropped, was made for the next connection of one of the poller's own slots
pub record RoundDone (old new : PollerState) (had has : Own) : Type 0 where
  pub reports : List SeatAct
  pub sweep : List SeatAct
  pub tries : List SeatAct
  pub opened : List Ticket
  pub lost : List ℕ
  pub not_free : List ℕ
  pub reported : ArePosts (all_reported old.table new.batch) reports has.seat
  pub swept : ArePosts (sweep_of old new) sweep has.seat
  pub tried : AreTries opened not_free tries
  pub made : ActsMade (reports ++ (sweep ++ tries)) had.seat has.seat
  pub next : InOrder (TriesNext old.part) tries old.table new.table
  pub why : AreLost new not_free lost
  pub part : new.part ≡ old.part
  pub own_reports : AreIn old.part (all_reported old.table new.batch)
  pub own_sweep : AreIn old.part (sweep_of old new)
  pub own_openings : AreIn old.part opened
  pub tickets : tickets_out has ≡ tickets_out had ++ (due_of reports ++ (due_of sweep ++ opened))
  pub table : AreOpened old.table opened new.table
  pub heavy : new.heavy ≡ unmarked opened old.heavy
  pub counted : HasRisen old.opened (length opened) new.opened
  pub unused : HasRisen old.lost (length lost) new.lost
  pub gave : has.free.history.put ≡ had.free.history.put
  pub slots : SlotsCounted had has opened lost

-- A round with its acts, in order, and no others: for each report of a connection a post at its slot, also by a worn seat;
-- then such a post for each connection of the sweep; and then the acts of its tries
module _ {C S T : Type 0} (moved : Berth C T → S → Type 0) (named : Ticket → S → Type 0) (registered : C → C → T → S → Type 0)
    (made : Made S) (accepted : C → Type 0) (may_tell : C → Route → Type 0) where
  pub record RoundInOrder (old new : PollerState) (had has : Own) (from to : S) : Type 0 where
    pub round : RoundDone old new had has
    pub delivered : S
    pub timed : S
    pub reports : PostsMade made (all_reported old.table new.batch) from delivered
    pub sweep : PostsMade made (sweep_of old new) delivered timed
    pub tries : TriesMade moved named registered made accepted may_tell new timed to round.tries

-- For these connections, all of a poller's own slots, a note was posted, and an act made. The queues are as they were
module _ {S : Type 0} (acts : Made S) (part : Part) where
  pub record AllPosted (tickets : List Ticket) (had has : Own) (from to : S) : Type 0 where
    pub made : PostsMade acts tickets from to
    pub posted : ArePosted tickets had.seat has.seat had.hand has.hand
    pub own : AreIn part tickets
    pub queues : SameQueues had has

-- no free slot is in hand
abbrev pub NoSlotInHand : Own → Type 0
NoSlotInHand own = own.hand.slots ≡ []

-- a look for reports changes at most this of what the poller keeps
abbrev pub Looked : PollerState → PollerState → Type 0
Looked old new = new ≡ record old { seen = new.seen; batch = new.batch }

-- of what the poller keeps it may have changed whether the front listens, and no more
abbrev pub OnlyListens : PollerState → PollerState → Type 0
OnlyListens old new = new ≡ record old { seen = record old.seen { listens = new.seen.listens } }

-- the front listens as before, or no longer if the poller had opened all that it may
abbrev pub ListensNoMore : PollerState → PollerState → Type 0
ListensNoMore old new = (new.seen.listens ≡ old.seen.listens) ⊎ (HasOpenedAll old × (new.seen.listens ≡ false))

-- the front listens as before, or no longer if the poller has opened all that it may, before or now
abbrev pub ListenerKept : PollerState → PollerState → Type 0
ListenerKept old new =
    (new.seen.listens ≡ old.seen.listens) ⊎ ((HasOpenedAll old ⊎ HasOpenedAll new) × (new.seen.listens ≡ false))

abbrev pub ListensToOpen : PollerState → Type 0
ListensToOpen p = HasOpenedAll p → p.seen.listens ≡ false

-- why no connection can be accepted now: the flag is down, no free slot is in hand (the code alone says that the queue had none
-- either), or the poller has opened all that it may
abbrev pub NoneToAccept : PollerState → Own → Type 0
NoneToAccept p own = (p.accepting ≡ false) ⊎ (NoSlotInHand own ⊎ HasOpenedAll p)

-- accepting may end if no connection can be accepted now, or if the system lacked what accept(2) needs
abbrev pub AcceptMayEnd : PollerState → Own → Type 0
AcceptMayEnd p own = (p.starved ≡ true) ⊎ NoneToAccept p own

-- the poller waits only if no sweep is due, no ticket is in hand, and accepting may end
abbrev pub MayWaitLong : ℕ → PollerState → Own → Type 0
MayWaitLong limit p own = (is_due limit p ≡ false) × (own.hand.tickets ≡ []) × AcceptMayEnd p own

-- a client was left to other pollers, and may still be accepted: the flag is up
abbrev pub HasLeft : PollerState → Type 0
HasLeft p = (p.left ≡ true) × (p.accepting ≡ true)

-- if the poller left a client to others, it may wait, for a millisecond at most
abbrev pub MayWaitBriefly : ℕ → PollerState → Own → Type 0
MayWaitBriefly limit p own = (is_due limit p ≡ false) × (own.hand.tickets ≡ []) × HasLeft p

-- What the answers of accept(2) made of the poller: the accept flag is up only if it was, and down only if it was, or no
-- client waited; it is starved only if it was, or the system lacked what accept(2) needs
pub record OnlyAnswered (gave_none : Unaccepted → Type 0) (old new : PollerState) : Type 0 where
  pub raised : new.accepting ≡ true → old.accepting ≡ true
  pub flag : new.accepting ≡ false → (old.accepting ≡ false) ⊎ gave_none unaccepted.Blocked
  pub starved : new.starved ≡ true → (old.starved ≡ true) ⊎ gave_none unaccepted.Starved

-- the accept flag is down only if it was and the listener was not reported, or accept(2) answered that no client waits
abbrev pub FlagIsDown : (Unaccepted → Type 0) → PollerState → PollerState → Type 0
FlagIsDown gave_none old new =
    new.accepting ≡ false → ((old.accepting ≡ false) × (Contains new.batch 0 → ⊥)) ⊎ gave_none unaccepted.Blocked

-- the accept flag is up only if it was, or the listener was reported
abbrev pub FlagIsUp : PollerState → PollerState → Type 0
FlagIsUp old new = new.accepting ≡ true → (old.accepting ≡ true) ⊎ Contains new.batch 0

-- why accepting ends: it may, or a client was left to other pollers, or accept(2) was tried 4 times, or the seat is worn
abbrev pub AcceptEnded : PollerState → Own → Type 0
AcceptEnded p own = AcceptMayEnd p own ⊎ (HasLeft p ⊎ ((p.tries ≡ 0) ⊎ IsWorn own.seat))

-- a round does not begin if its hand has no room for a ticket of each slot and 512 more
abbrev pub LacksRoom : ℕ → Own → Type 0
LacksRoom slots own = ticket_room own.hand < spare_room + slots

-- such a round only empties its batch
pub record NoRound (old new : PollerState) (had has : Own) : Type 0 where
  pub own : has ≡ had
  pub poller : new ≡ record old { batch = [] }

-- a connection may be waiting, the poller may open more, and a free slot is in hand
abbrev pub MayAccept : PollerState → Own → Type 0
MayAccept p own = (p.accepting ≡ true) × (HasOpenedAll p → ⊥) × (1 ≤ length own.hand.slots)

-- a free slot was in hand, or one was taken out of the queue since
abbrev pub GotSlot : Own → Own → Type 0
GotSlot had has = (1 ≤ length had.hand.slots) ⊎ (length had.free.history.taken < length has.free.history.taken)

-- why the poller does not wait: a sweep is due, or a ticket was in hand, or a connection may be waiting, the poller may open
-- more and got a free slot, accept(2) was not starved, and no client was left to other pollers
abbrev pub MayNotWait : ℕ → PollerState → Own → Own → Type 0
MayNotWait limit p had has = (is_due limit p ≡ true) ⊎ ((had.hand.tickets ≢ [])
    ⊎ ((p.starved ≡ false) × (p.left ≡ false) × (p.accepting ≡ true) × (HasOpenedAll p → ⊥) × GotSlot had has))

-- a wait for reports is as long as it may be with what the thread owns now
abbrev pub WaitsAsMay : Waiting → ℕ → PollerState → Own → Type 0
WaitsAsMay waiting.Long limit p own = MayWaitLong limit p own
WaitsAsMay waiting.Brief limit p own = MayWaitBriefly limit p own
WaitsAsMay waiting.No limit p own = MayNotWait limit p own own

-- For how many milliseconds a round waited for reports, and why: for as long as its front ever waits, for one, or not at all
abbrev pub WaitedAsMay : ℕ → PollerState → PollerState → Own → Own → Type 0
WaitedAsMay limit old new had has =
    ((new.seen.waited ≡ old.seen.longest) × MayWaitLong limit old had)
    ⊎ (((new.seen.waited ≡ 1) × MayWaitBriefly limit old had)
    ⊎ ((new.seen.waited ≡ 0) × MayNotWait limit old had has))

-- a client waits for a slot: the listener was reported, and the poller may open more, but no free slot is in hand
pub record IsFull (p : PollerState) (own : Own) : Type 0 where
  pub reported : Contains p.batch 0
  pub may_open : HasOpenedAll p → ⊥
  pub slot : NoSlotInHand own

-- each of the poller's slots is in hand or no longer used
abbrev pub IsBack : PollerState → Own → Type 0
IsBack p own = p.part.slots ≤ length own.hand.slots + p.lost

-- the poller has opened all that it may, and each of its slots is back
pub record IsOver (p : PollerState) (own : Own) : Type 0 where
  pub opened : HasOpenedAll p
  pub back : IsBack p own

-- once the poller has opened all that it may, it is over if all its slots are back
abbrev pub LooksForAll : PollerState → Own → Type 0
LooksForAll p own = HasOpenedAll p → IsBack p own → p.over ≡ true

-- A round that began, and whose poll did not fail. It delivered what its front reported, at a second that the clock may
-- show. A sweep was made if one was due, accepting ended for a reason, the accept flag is up only by a report or as before,
-- it is down and accept(2) starved only by an answer or as before, and drops are left only of causes that had a line this second
pub record RoundEnded (tells : ℕ → Type 0) (gave_none : Unaccepted → Type 0) (limit : ℕ) (old new : PollerState)
    (has : Own) : Type 0 where
  pub read : new.batch ≡ new.seen.reported
  pub second : tells new.second
  pub swept : new.swept ≡ swept_after limit old.second old.swept
  pub accepted : AcceptEnded new has
  pub raised : FlagIsUp old new
  pub flag : FlagIsDown gave_none old new
  pub starved : new.starved ≡ true → (old.starved ≡ true) ⊎ gave_none unaccepted.Starved
  pub closed : ListensToOpen new
  pub back : LooksForAll new has
  pub drops : AreLogged new.second new.episodes.drops

-- What every round keeps. The second of the last sweep is what it was, or that of a sweep that was due. The poller is
-- over as before, or since all its slots are back. Its thread took no ticket from the queue
pub record RoundKeeps (limit : ℕ) (old new : PollerState) (had has : Own) : Type 0 where
  pub opening : new.opening ≡ old.opening
  pub most : new.most ≡ old.most
  pub swept : (new.swept ≡ old.swept) ⊎ (new.swept ≡ swept_after limit old.second old.swept)
  pub longest : new.seen.longest ≡ old.seen.longest
  pub listens : ListenerKept old new
  pub over : new.over ≡ true → (old.over ≡ true) ⊎ IsOver new has
  pub took : has.ready.history.taken ≡ had.ready.history.taken

-- A wait for reports failed, and not by a signal: nothing was reported. The round did nothing more than to take free
-- slots in hand, and to listen no longer
pub record PollFailed (old new : PollerState) (had has : Own) : Type 0 where
  pub failed : new.seen.failed ≡ true
  pub none : new.batch ≡ []
  pub read : new.batch ≡ new.seen.reported
  pub poller : Looked old new
  pub took : OnlyTook had has

-- why a round is refused: its wait for reports failed, or its seat is worn
abbrev pub RoundRefused : ServerFault → PollerState → PollerState → Own → Own → Type 0
RoundRefused fault old new had has = ((fault ≡ server_fault.Poll) × PollFailed old new had has) ⊎ OnlyWorn fault has.seat
