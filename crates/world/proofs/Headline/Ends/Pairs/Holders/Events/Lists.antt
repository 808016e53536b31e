-- Lists, totals over them, names, and what a step leaves. What this file imports is passed on to those above it.
pub use Rattle.std.{proofs.{Common.{Bool, Err, Global, IfOk, List, None, Ok, Option, Result, Some, [], ap, append-nil, append_assoc, arith, cond, drop, eq-eqb, eqb-true, false, if◌then◌else◌, inl, inr, is_none, is_some, le_refl, length, length-append, lt-ltb, nat_lt, ne_eqb, not, option_and_then, option_map, refl, replicate, slice_get, slice_set, subst, suc, sym, take, take-append-drop, Vec, true, unwrap_or, zero, ℕ, ⊎_elim, ◌&&◌, ◌*◌, ◌++◌, ◌+◌, ◌-◌, ◌<◌, ◌==◌, ◌||◌, ◌∙◌, ◌∷◌, ◌≡◌, ◌≢◌, ◌≤◌, ◌⊎◌}, Math.Seq.{drop-nil, take-append_seam}, lemmas.{Bool.{and_parts, cases_eq, lt-leb, Decides.nat_tests}, Grind.common_steps, List.{nil_from_length, take_more}, Option.{get_or_from_slice_get, gets, slice_get_within}}}, specs.{Cmp.{first_so, second_so}, List.{list_all, list_any, position_or_len}, Option.{option_flatten, option_or}, Prelude.nat_le}}
pub use Rattle.claims.specs.Words.{StepKind, some_wait}
pub use Rattle.flow.{proofs.Front.{take-front, waiting-dropped, waiting_ends}, specs.Stream.{Stream, closed, dropped, empty_stream, ended, front, taken_in, waiting}}
pub use Rattle.kernel_model.specs.{Ends.{EndState, arrival, finish, is_nonempty, is_readable, is_writable, new_room, opened}, Kernel.{KernelState, Registered, changed, end_at, is_quiet_end, lowest_free, name_watched, open_both, reported, with_end}, Names.{has, same, same_end, with_name, without_name, without_names}, Outcome.{Meets, Told, guard}, Replies.{after_join, after_read, after_shut, after_write, bytes_read, is_count}, declared.{accepting.Accepting.{Accepting, TheVariants.{Accepted, Blocked}}, both.{Descriptors.Descriptors, Sockets.Sockets}, refusal.Refusal.{Refusal, TheVariants.{NoMemory, NotAllowed}}, reply.Reply.Reply}}
pub use Rattle.relay_core.specs.{Idle.{is_overdue, timed_out}, Calls.side_of, Laws.{IsAtRest, IsClosedLast, IsDrained, IsOverdue, Place as Standing, pair_place}, Order.{call_for, is_drained, is_open, is_waiting, next_call, offer}, Pairs.{PairState, flags_of, fresh, is_joined, is_live, noted, stream_of, verdict, verdict_of}, Replies.{after, fits, moves}, declared.{call.Call.{Call, TheVariants.{Join, Read, Shut, Write}}, flags.Flags.Flags, verdict.{Fault.{Fault, TheVariants.Broken}, Verdict.{Verdict, TheVariants.{Done, Failed, Live}}}}}
pub use Rattle.token.specs.{Names.EndName, Sides.{destination, inward, opposite, other_side, side_number, source}, declared.{direction.Direction.{Direction, TheVariants.{Down, Up}}, kind.Kind.Kind, name.Name.{Name, TheVariants.{End, Listener, Waker}}, side.Side.{Side, TheVariants.{Client, Target}}}}
pub use Rattle.world.specs.{Acts.busy, Calls.{OpenConnection, descriptor, made, plain, replied, told_of, when}, CoreLaws.CoreLaws, Due.{due, flows, gives, has_place, has_ticket, is_report, is_reported, is_ticket, is_ticketed, movable, may_move as could_move, takes, tries}, Headline.{BytesAndEndsHold, ClaimsByOwnTicket, ClosedHold, DirectionHolds, FailedAfter, FailedBy, Failure, FailuresHold, HeadlineHolds, ListenerHolds, Named, TakesOwnNotes, Throughout, TriedOnOwn, end_there, failed_with, failure_by, broken_by, given, given_by, has_generation, held_connection, is_movement, connection_moved, named, next_opened, preamble, socket_of}, LeadLaws.is_padded, Leads.{for_all, lead_at}, Memory.{free_length, grows}, Runs.run, Slots.{SlotState, WorkerState, is_by_worker, is_held}, States.{State, is_entry, numbers_below, opening, resting_worker, unused}, Steps.{acted, brings_ticket, call, change_at, claim, closed_world, connection_at, delivered, delivered_at, doing, free, free_after, heard, is_limited, listen, may_accept, opened_place, opened_world, over_kernel, polled, popped, post, post_at, posted, put_by_poller, release, retire, step, token_of, watched_of, with_note, with_place, with_ticket, with_worker}, Support.{EdgesHold, EndCovered, SupportHolds, TableHolds, has_report, is_covered, of_slot, one, tickets, total, tried, worker_tickets}, Words.{WordMoves, WordsMove, WordsMoveInRuns, word_after_kinds, kinds_at, claims, count_wakes, is_free, steps, word_at}, declared.{actors.{Doing.{Doing, TheVariants.{Closed, Holds, Idle, Retired, Tries}}, Holder.{Holder, TheVariants.{By, Free, Nobody}}, Ticket.Ticket}, connection.Connection.Connection, event.{Act.Act, Change.{Change, TheVariants.{Arrive, Fin, Reset, Room}}, Event.Event, Listening.Listening, Polling.Polling, Reported.Reported}, limits.Limits.Limits, past.Past.Past}}
unfoldable pub use Rattle.world.specs.{Calls.called, Steps.{may_release, slot_call}}
pub use Rattle.claims.specs.Words as words
pub use Rattle.kernel_model.specs.Ends as model
pub use Rattle.kernel_model.specs.Kernel as kernel
pub use Rattle.kernel_model.specs.declared.reply.Reply.TheVariants as reply
pub use Rattle.relay_core.specs.Replies as answer
pub use Rattle.relay_core.specs.declared.verdict.Fault.TheVariants as reason
pub use Rattle.world.specs.declared.event.Act.TheVariants as act
pub use Rattle.world.specs.declared.event.Event.TheVariants as event
pub use Rattle.world.specs.declared.event.Listening.TheVariants as listening
pub use Rattle.world.specs.declared.event.Polling.TheVariants as polling
pub use Rattle.world.specs.declared.event.Reported.TheVariants as reports

abbrev pub OfSome : {X : Type 0} → (X → Type 0) → Option X → Type 0
OfSome P None = Unit {0}
OfSome P (Some x) = P x

pub record Kept {X : Type 0} (P : X → Type 0) (o : Option X) : Type 0 where
  pub kept : OfSome P o

pub kept_some : {X : Type 0} {P : X → Type 0} {x : X} → P x → Kept P (Some x)
kept_some h = record { kept = h }

pub kept_none : {X : Type 0} {P : X → Type 0} → Kept P None
kept_none = record { kept = tt }

pub kept_bind : {X Y : Type 0} {P : Y → Type 0} (f : X → Option Y) (o : Option X) → ((x : X) → o ≡ Some x → Kept P (f x)) → Kept P (option_and_then f o)
kept_bind f None next = kept_none
kept_bind f (Some x) next = next x refl

pub kept_map : {X Y : Type 0} {P : Y → Type 0} (f : X → Y) (o : Option X) → ((x : X) → o ≡ Some x → P (f x)) → Kept P (option_map f o)
kept_map f None next = kept_none
kept_map f (Some x) next = kept_some (next x refl)

pub kept_when : {X : Type 0} {P : X → Type 0} (b : Bool) (o : Option X) → (b ≡ true → Kept P o) → Kept P (when b o)
kept_when false o next = kept_none
kept_when true o next = next refl

pub kept_guard : {X : Type 0} {P : X → Type 0} (b : Bool) (x : X) → (b ≡ true → P x) → Kept P (guard b x)
kept_guard false x next = kept_none
kept_guard true x next = kept_some (next refl)

pub kept_if : {X : Type 0} {P : X → Type 0} (b : Bool) (x y : Option X) → (b ≡ true → Kept P x) → (b ≡ false → Kept P y) → Kept P (if b then x else y)
kept_if true x y first second = first refl
kept_if false x y first second = second refl

-- what was left has what is kept
pub kept_at : {X : Type 0} {P : X → Type 0} (o : Option X) (x : X) → o ≡ Some x → Kept P o → P x
kept_at o x is k = (rw is at k).kept

-- where another step follows
pub kept_over : {X Y : Type 0} {P : Y → Type 0} (f : X → Y) (o : Option X) → Kept (λ (x : X). P (f x)) o → Kept P (option_map f o)
kept_over f None k = kept_none
kept_over f (Some x) k = kept_some k.kept

pub kept_through : {X Y : Type 0} {P : Y → Type 0} (f : X → Option Y) (o : Option X) → Kept (λ (x : X). Kept P (f x)) o → Kept P (option_and_then f o)
kept_through f None k = kept_none
kept_through f (Some x) k = k.kept

-- one element more at the end
pub total_push : {X : Type 0} (f : X → ℕ) (xs : List X) (x : X) → total f (xs ++ x ∷ []) ≡ total f xs + f x
total_push f [] x = omega arith
total_push f (y ∷ ys) x = omega (arith, total_push f ys x)

-- the first element of a list goes to the end of another
pub total_moved : {X : Type 0} (f : X → ℕ) (xs ys rest : List X) (x : X) → ys ≡ x ∷ rest → total f (xs ++ x ∷ []) + total f rest ≡ total f xs + total f ys
total_moved f xs ys rest x is = grind (arith, total_push f xs x)

-- an element that is replaced gives up its part for the new one's
pub total-set : {X : Type 0} (f : X → ℕ) (xs : List X) (w : ℕ) (old new : X) → slice_get xs w ≡ Some old → total f (slice_set xs w new) + f old ≡ total f xs + f new
total-set f [] w old new there = absurd (cc)
total-set f (x ∷ xs) zero old new there = grind arith
total-set f (x ∷ xs) (suc w) old new there = omega (arith, total-set f xs w old new there)

pub total_at : {X : Type 0} (f : X → ℕ) (xs : List X) (w : ℕ) (x : X) → slice_get xs w ≡ Some x → f x ≤ total f xs
total_at f [] w x there = absurd (cc)
total_at f (y ∷ ys) zero x there = grind arith
total_at f (y ∷ ys) (suc w) x there = omega (arith, total_at f ys w x there)

pub total_le : {X : Type 0} (f g : X → ℕ) (xs : List X) → ((x : X) → f x ≤ g x) → total f xs ≤ total g xs
total_le f g [] each = omega arith
total_le f g (x ∷ xs) each = omega (arith, total_le f g xs each, each x)

pub total_none : {X : Type 0} (f : X → ℕ) (n : ℕ) (x : X) → f x ≡ 0 → total f (replicate n x) ≡ 0
total_none f zero x none = refl
total_none f (suc n) x none = omega (arith, total_none f n x none)

pub get-set_same : {X : Type 0} (xs : List X) (i : ℕ) (old new : X) → slice_get xs i ≡ Some old → slice_get (slice_set xs i new) i ≡ Some new
get-set_same [] i old new there = absurd (cc)
get-set_same (x ∷ xs) zero old new there = refl
get-set_same (x ∷ xs) (suc i) old new there = get-set_same xs i old new there

pub get-set_other : {X : Type 0} (xs : List X) (i j : ℕ) (new : X) → i ≢ j → slice_get (slice_set xs i new) j ≡ slice_get xs j
get-set_other [] i j new apart = refl
get-set_other (x ∷ xs) zero zero new apart = absurd (apart refl)
get-set_other (x ∷ xs) zero (suc j) new apart = refl
get-set_other (x ∷ xs) (suc i) zero new apart = refl
get-set_other (x ∷ xs) (suc i) (suc j) new apart = get-set_other xs i j new (λ same. apart (ap suc same))

pub get-replicate : {X : Type 0} (n i : ℕ) (x y : X) → slice_get (replicate n x) i ≡ Some y → x ≡ y
get-replicate zero i x y there = absurd (cc)
get-replicate (suc n) zero x y there = (cc)
get-replicate (suc n) (suc i) x y there = get-replicate n i x y there

-- an element of a list that is as long as another
pub get_beside : {X Y : Type 0} (n i : ℕ) (x y : X) (z : Y) → slice_get (replicate n x) i ≡ Some y → slice_get (replicate n z) i ≡ Some z
get_beside zero i x y z there = absurd (cc)
get_beside (suc n) zero x y z there = refl
get_beside (suc n) (suc i) x y z there = get_beside n i x y z there

-- what one element has more counts in the whole
pub total_le_at : {X : Type 0} (f g : X → ℕ) (xs : List X) (w : ℕ) (x : X) → ((y : X) → f y ≤ g y) → slice_get xs w ≡ Some x → total f xs + g x ≤ total g xs + f x
total_le_at f g [] w x each there = absurd (cc)
total_le_at f g (y ∷ ys) zero x each there = grind (arith, total_le f g ys each)
total_le_at f g (y ∷ ys) (suc w) x each there = omega (arith, total_le_at f g ys w x each there, each y)

-- what lies in a list after one element was replaced: the new one, or what lay there
pub at_one : {X : Type 0} (xs : List X) {ys : List X} {s : ℕ} (i : ℕ) {old new x : X} → slice_get xs s ≡ Some old → ys ≡ slice_set xs s new → slice_get ys i ≡ Some x
    → ((i ≡ s) × (x ≡ new)) ⊎ ((i ≡ s → ⊥) × (slice_get xs i ≡ Some x))
at_one xs i was set here = grind (arith, get-set_same, get-set_other)

-- an element that is replaced by itself
pub set_same : {X : Type 0} (xs : List X) (i : ℕ) (x : X) → slice_get xs i ≡ Some x → xs ≡ slice_set xs i x
set_same [] i x here = absurd (cc)
set_same (y ∷ xs) zero x here = let same : y ≡ x = cc in ap (λ z. z ∷ xs) same
set_same (y ∷ xs) (suc i) x here = ap (λ ys. y ∷ ys) (set_same xs i x here)

-- what stands in a list after others
append_get : {X : Type 0} (xs ys : List X) (i : ℕ) (x : X) → slice_get xs i ≡ Some x → slice_get (xs ++ ys) i ≡ Some x
append_get [] ys i x here = absurd (cc)
append_get (z ∷ xs) ys zero x here = here
append_get (z ∷ xs) ys (suc i) x here = append_get xs ys i x here

-- an element of a list with one more is one of before, or that one
pub last_of : {X : Type 0} (xs : List X) (i : ℕ) (x y : X) → slice_get (xs ++ x ∷ []) i ≡ Some y → (slice_get xs i ≡ Some y) ⊎ (x ≡ y)
last_of [] i x y here = grind arith
last_of (z ∷ xs) zero x y here = inl here
last_of (z ∷ xs) (suc i) x y here = last_of xs i x y here

-- Names

pub same_end_is : (n m : EndName) → same_end n m ≡ true → n ≡ m
same_end_is n m h = grind arith

same_is : (n m : Name) → same n m ≡ true → n ≡ m
same_is Listener Listener h = refl
same_is Waker Waker h = refl
same_is (End a) (End b) h = ap End (same_end_is a b h)
same_is _ _ h = absurd (cc)

same_self : (n : Name) → same n n ≡ true
same_self n = grind arith

-- names of two slots are different
pub other_slot : (n m : EndName) → (n.slot ≡ m.slot → ⊥) → same (End n) (End m) ≡ false
other_slot n m apart = rw (ne_eqb n.slot m.slot apart) refl

-- one of two holds
pub or_left : (a b : Bool) → a ≡ true → (a || b) ≡ true
or_left a b h = grind arith

pub or_right : (a b : Bool) → b ≡ true → (a || b) ≡ true
or_right a b h = grind arith

-- from either of two
pub or_then : (a b : Bool) {c : Bool} → (a ≡ true → c ≡ true) → (b ≡ true → c ≡ true) → (a || b) ≡ true → c ≡ true
or_then a b f g h = grind arith

-- of each of two
pub or_both : (a b c d : Bool) → (a ≡ true → c ≡ true) → (b ≡ true → d ≡ true) → (a || b) ≡ true → (c || d) ≡ true
or_both a b c d f g h = grind arith

has_more : (n : Name) (xs ys : List Name) → has n xs ≡ true → has n (xs ++ ys) ≡ true
has_more n [] ys h = absurd (cc)
has_more n (x ∷ xs) ys h = or_both (same n x) (has n xs) (same n x) (has n (xs ++ ys)) (λ k. k) (has_more n xs ys) h

has_last : (n : Name) (xs : List Name) → has n (xs ++ n ∷ []) ≡ true
has_last n [] = or_left (same n n) false (same_self n)
has_last n (x ∷ xs) = or_right (same n x) _ (has_last n xs)

pub has_with : (n m : Name) (xs : List Name) → has n xs ≡ true → has n (with_name m xs) ≡ true
has_with n m xs h = grind (arith, has_more n xs (m ∷ []))

pub has_reported : (n m : Name) (b : Bool) (xs : List Name) → has n xs ≡ true → has n (reported xs m b) ≡ true
has_reported n m b xs h = grind (arith, has_with n m xs)

pub reported_has : (n : Name) (b : Bool) (xs : List Name) → b ≡ true → has n (reported xs n b) ≡ true
reported_has n b xs h = grind (arith, has_last n xs)

-- a name stays where another leaves
left_if : (n x : Name) (b : Bool) (xs ys : List Name) → (same n x ≡ true → b ≡ true) → (has n xs ≡ true → has n ys ≡ true)
    → (same n x || has n xs) ≡ true → has n (cond b (x ∷ ys) ys) ≡ true
left_if n x b xs ys keep rest h = grind arith

pub has_without : (n m : Name) (xs : List Name) → same m n ≡ false → has n xs ≡ true → has n (without_name m xs) ≡ true
has_without n m [] apart h = absurd (cc)
has_without n m (x ∷ xs) apart h = left_if n x (not (same m x)) xs (without_name m xs)
    (λ k. let is = same_is n x k in let other = rw is at apart in rw other refl)
    (has_without n m xs apart) h

-- a name that is queued stays so, or is among those that a poll takes
polled_if : (n x : Name) (b t : Bool) (xs ys : List Name) → (same n x ≡ true → b ≡ true → t ≡ true) → (has n xs ≡ true → (has n ys || t) ≡ true)
    → (same n x || has n xs) ≡ true → (has n (cond (not b) (x ∷ ys) ys) || t) ≡ true
polled_if n x b t xs ys taken rest h = grind arith

pub has_polled : (n : Name) (names xs : List Name) → has n xs ≡ true → (has n (without_names names xs) || has n names) ≡ true
has_polled n names [] h = absurd (cc)
has_polled n names (x ∷ xs) h = polled_if n x (has x names) (has n names) xs (without_names names xs)
    (λ k taken. let is = same_is n x k in rw is taken) (has_polled n names xs) h

-- a name that is not the first stays where that leaves
pub batch_left : (n m : Name) (batch : List Name) → slice_get batch 0 ≡ Some m → same n m ≡ false → has n batch ≡ true → has n (drop 1 batch) ≡ true
batch_left n m batch first apart h = grind arith

-- The ends by descriptor

flattened : {X : Type 0} (o : Option (Option X)) (x : X) → option_flatten o ≡ Some x → o ≡ Some (Some x)
flattened o x e = grind arith

-- the end that a write puts at an open descriptor
pub end_same : (ends : List (Option Registered)) (d : ℕ) (r : Registered) (o : Option Registered)
    → end_at ends d ≡ Some r → end_at (slice_set ends d o) d ≡ o
end_same ends d r o here = grind (arith, flattened, get-set_same ends d (Some r) o)

end_other : (ends : List (Option Registered)) (d other : ℕ) (o : Option Registered) → (other ≡ d → ⊥) → end_at (slice_set ends d o) other ≡ end_at ends other
end_other ends d other o apart = grind (arith, get-set_other ends d other o)

-- two open ends with different tokens have different descriptors, so a write at one leaves the other
pub end_kept : (ends : List (Option Registered)) (d other : ℕ) {a b : Registered} (o : Option Registered)
    → end_at ends d ≡ Some a → end_at ends other ≡ Some b → (b.token ≡ a.token → ⊥) → end_at (slice_set ends d o) other ≡ Some b
end_kept ends d other o one two differ = grind (arith, end_other)

-- Opening: the lowest free descriptor is one that is not in use, or the one after all others

data IsFree (ends : List (Option Registered)) (d : ℕ) : Type 0 where
  Hole : slice_get ends d ≡ Some None → IsFree ends d
  Behind : d ≡ length ends → IsFree ends d

lower : (ends : List (Option Registered)) (r : Registered) (k : ℕ) → IsFree ends k → IsFree (Some r ∷ ends) (1 + k)
lower ends r k h = grind (arith, Hole, Behind)

first_free : (ends : List (Option Registered)) → IsFree ends (position_or_len is_none ends)
first_free [] = Behind refl
first_free (None ∷ ends) = Hole refl
first_free (Some r ∷ ends) = lower ends r (position_or_len is_none ends) (first_free ends)

found : (ends : List (Option Registered)) (k : ℕ) → IsFree ends k → unwrap_or (cond (nat_lt k (length ends)) (Some k) None) (length ends) ≡ k
found ends k free = grind (arith, nat_tests, slice_get_within ends k None)

lowest_is_free : (ends : List (Option Registered)) → IsFree ends (lowest_free ends)
lowest_is_free ends = rw (found ends (position_or_len is_none ends) (first_free ends)) (first_free ends)

last_get : {X : Type 0} (xs : List X) (x : X) → slice_get (xs ++ x ∷ []) (length xs) ≡ Some x
last_get [] x = refl
last_get (y ∷ xs) x = last_get xs x

here_if : (ends : List (Option Registered)) (d : ℕ) (r : Registered) → IsFree ends d → end_at (with_end ends d r) d ≡ Some r
here_if ends d r free = grind (arith, nat_tests, slice_get_within ends d None, get-set_same ends d None (Some r), last_get ends (Some r))

other_if : (ends : List (Option Registered)) (d other : ℕ) (r b : Registered) → IsFree ends d → end_at ends other ≡ Some b → end_at (with_end ends d r) other ≡ Some b
other_if ends d other r b free two = grind (arith, nat_tests, slice_get_within ends d None, end_other ends d other (Some r), append_get ends (Some r ∷ []) other (Some b), flattened)

-- the end that is opened there, and every other
pub opened_here : (ends : List (Option Registered)) (r : Registered) → end_at (with_end ends (lowest_free ends) r) (lowest_free ends) ≡ Some r
opened_here ends r = here_if ends (lowest_free ends) r (lowest_is_free ends)

pub opened_other : (ends : List (Option Registered)) (other : ℕ) (r : Registered) {b : Registered} → end_at ends other ≡ Some b
    → end_at (with_end ends (lowest_free ends) r) other ≡ Some b
opened_other ends other r {b} = other_if ends (lowest_free ends) other r b (lowest_is_free ends)
