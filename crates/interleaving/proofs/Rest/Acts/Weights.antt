-- What a call with its reply, a poll, an opening and a closing make of what pairs and the kernel weigh, and of the calls that are left.
pub use Rattle.claims.specs.Words.{one}
pub use Rattle.interleaving.specs.Rest.{calls_left, end_weight, flags_up, is_answered, kernel_weight, longest, most, move_weight, moves_left, pair_weight, passes_on, post_weight, socket_weight, spent_weight}
pub use Rattle.kernel_model.specs.{Ends.{EndState, opened}, Kernel.{KernelState, Registered, end_at, lowest_free, with_end}, Names.{are_among, are_distinct, has, same, without_names}, Outcome.Told, declared.{both.{Descriptors.Descriptors, Sockets.Sockets}, reply.Reply.Reply}}
pub use Rattle.relay_core.{proofs.Pairs.asked_is_possible, specs.{Calls.{direction_of, side_of}, Order.{call_for, next_call}, Pairs.{PairState, flags_of, fresh, is_live, verdict}, Replies.{after, fits}, declared.{call.Call.{Call, TheVariants.Read}, flags.Flags.Flags}}}
pub use Rattle.std.proofs.{Common.{Bool, List, None, Option, Some, [], ◌<◌, arith, false, get_or, if◌then◌else◌, length, length-append, max, not, refl, slice_get, slice_set, suc, true, zero, ℕ, ◌*◌, ◌+◌, ◌-◌, ◌∷◌, ◌≡◌, ◌≤◌}, lemmas.{Bool.{and_parts, not-true, Decides.nat_tests}, Grind.common_steps, List.Sums.{count_by-le-length, length-filter}}}
pub use Rattle.token.specs.{Names.EndName, Sides.opposite, declared.{direction.Direction.Direction, name.Name.Name}}
pub use Rattle.world.{proofs.Headline.Ends.Pairs.Holders.Events.{end_after, Lists.{Kept, kept_at, kept_bind, kept_map, kept_over, kept_when, same_end_is, total-set, total_push}}, specs.{Calls.{OpenConnection, descriptor, made, told_of}, Leads.{LeadTable, lead_at}, Support.total, declared.limits.Limits.Limits}}
unfoldable pub use Rattle.world.specs.Calls.{called}
pub use Rattle.kernel_model.specs.Kernel as kernel
pub use Rattle.token.specs.declared.name.Name.TheVariants as name
pub use Rattle.relay_core.specs.Replies as answer

-- the flag by which a call is worth a try
abbrev flag : PairState → Call → Bool
flag p (Read side most) = (flags_of p side).read
flag p call = (flags_of p (side_of call)).write

-- the next call is one for the direction whose turn it is, or for the other if there is none
data Next (p : PairState) (call : Call) : Type 0 where
  First : call_for p p.turn ≡ Some call → Next p call
  Second : call_for p p.turn ≡ None → call_for p (opposite p.turn) ≡ Some call → Next p call

either : (p : PairState) (call : Call) → next_call p ≡ Some call → Next p call
either p call next = grind (arith, common_steps, First, Second)

none_passes : (p : PairState) (d : Direction) → call_for p d ≡ None → passes_on p d ≡ false
none_passes p d none = grind (arith, common_steps)

has_one : (p : PairState) (d : Direction) (call : Call) → call_for p d ≡ Some call → passes_on p d ≡ false → 1 ≤ flags_up p.client + flags_up p.target
has_one p d call some none = grind (arith, common_steps)

-- the calls that are left, by whether an end can be passed on in the first direction and in the other
abbrev left_by : Bool → Bool → ℕ → ℕ
left_by first second n = if first then 1 else if second then 2 else n

-- while there is a call, one is left
pub some_left : (p : PairState) (call : Call) → next_call p ≡ Some call → 1 ≤ calls_left p
some_left p call next = by (either p call next)
  where
    some : (first second : Bool) (n : ℕ) → (first ≡ false → second ≡ false → 1 ≤ n) → 1 ≤ left_by first second n
    some first second n least = grind arith

    by : Next p call → 1 ≤ calls_left p
    by (First at) = some (passes_on p p.turn) (passes_on p (opposite p.turn)) _ (λ none also. has_one p p.turn call at none)
    by (Second none at) = some (passes_on p p.turn) (passes_on p (opposite p.turn)) _ (λ none also. has_one p (opposite p.turn) call at also)

-- and at most four
pub four_left : (p : PairState) → calls_left p ≤ 4
four_left p = most (passes_on p p.turn) (passes_on p (opposite p.turn)) p.client p.target
  where
    most : (first second : Bool) (f g : Flags) → left_by first second (flags_up f + flags_up g) ≤ 4
    most first second f g = grind arith

-- A call that would block

clears : (now : ℕ) (p : PairState) (call : Call) → flag p call ≡ true → pair_weight (after now p call answer.Blocked) + 1 ≡ pair_weight p
clears now p call up = grind (arith, common_steps)

clears_one : (now : ℕ) (p : PairState) (call : Call) → flag p call ≡ true
    → (let q = after now p call answer.Blocked in flags_up q.client + flags_up q.target) + 1 ≡ flags_up p.client + flags_up p.target
clears_one now p call up = grind (arith, common_steps)

keeps_passing : (now : ℕ) (p : PairState) (call : Call) (d : Direction) → passes_on (after now p call answer.Blocked) d ≡ passes_on p d
keeps_passing now p call d = grind (arith, common_steps)

opposite_twice : (d : Direction) → opposite (opposite d) ≡ d
opposite_twice d = grind arith

is_up : (p : PairState) (d : Direction) (call : Call) → call_for p d ≡ Some call → fits p call answer.Blocked ≡ true → flag p call ≡ true
is_up p d call at fit = grind (arith, common_steps)

keeps_back : (p : PairState) (d : Direction) (call : Call) → call_for p d ≡ Some call → fits p call answer.Blocked ≡ true → (direction_of call ≡ d) × (passes_on p d ≡ false)
keeps_back p d call at fit = grind (arith, common_steps)

-- one flag less is up, and one call less is left
pub blocks : (now : ℕ) (p : PairState) (call : Call) → next_call p ≡ Some call → fits p call answer.Blocked ≡ true
    → let q = after now p call answer.Blocked in (pair_weight q + 1 ≡ pair_weight p) × (calls_left q + 1 ≤ calls_left p)
blocks now p call next fit = by (either p call next)
  where
    fewer : (second : Bool) (n m : ℕ) → n + 1 ≡ m → left_by second false n + 1 ≤ left_by false second m
    fewer second n m one = grind arith

    by : Next p call → let q = after now p call answer.Blocked in (pair_weight q + 1 ≡ pair_weight p) × (calls_left q + 1 ≤ calls_left p)
    by (First at) =
        let up = is_up p p.turn call at fit in
        let is = keeps_back p p.turn call at fit in
        let less = fewer (passes_on p (opposite p.turn)) _ _ (clears_one now p call up) in
        (clears now p call up, rw (is.0, keeps_passing now p call (opposite p.turn), opposite_twice p.turn, keeps_passing now p call p.turn, is.1) less)
    by (Second none at) =
        let up = is_up p (opposite p.turn) call at fit in
        let is = keeps_back p (opposite p.turn) call at fit in
        let less = fewer false _ _ (clears_one now p call up) in
        (clears now p call up, rw (is.0, opposite_twice p.turn, keeps_passing now p call p.turn, keeps_passing now p call (opposite p.turn), none_passes p p.turn none, is.1) less)

-- An answer that moves something. What is left to move in the pair becomes less, but for bytes that were read, of which
-- each must be written

abbrev pub moves_of : PairState → ℕ
moves_of p = moves_left p.up + (moves_left p.down + one (not p.joined))

abbrev pub read_by : answer.AnswerValue → ℕ
read_by (answer.Bytes bytes) = length bytes
read_by value = 0

pub moves_less : (now : ℕ) (p : PairState) (call : Call) (value : answer.AnswerValue) → next_call p ≡ Some call → fits p call value ≡ true → answer.moves value ≡ true
    → moves_of (after now p call value) + 1 ≤ moves_of p + 2 * read_by value
moves_less now p call value next fit moved = let possible = asked_is_possible p call next in grind (arith, common_steps)

-- what moves clears no flag
pub flags_stay : (now : ℕ) (p : PairState) (call : Call) (value : answer.AnswerValue) → answer.moves value ≡ true
    → let q = after now p call value in flags_up q.client + flags_up q.target ≡ flags_up p.client + flags_up p.target
flags_stay now p call value moved = grind (arith, common_steps)

-- A call with its reply

spent_most : (left n : ℕ) → spent_weight left n ≤ post_weight
spent_most left n = grind (arith, nat_tests)

spent_less : (left m n : ℕ) → m + 1 ≤ n → spent_weight (left - 1) m ≤ spent_weight left n
spent_less left m n less = grind (arith, nat_tests)

-- what a turn weighs that goes on with this pair, at most: its calls and its end, or the closing of a connection that is over
abbrev pub rest_weight : ℕ → PairState → ℕ
rest_weight left p = if is_live (verdict p) then 1 + (end_weight + spent_weight left (calls_left p)) else 4

pub rest_most : (left : ℕ) (p : PairState) → (4 ≤ rest_weight left p) × (rest_weight left p ≤ 1 + (end_weight + spent_weight left (calls_left p)))
rest_most left p = grind arith

-- A call moves something, or it blocks, and one call less is left; or the pair is over
pub record Called (l next : OpenConnection) : Type 0 where
  pub lighter : (left : ℕ) → let p = l.connection.pair in let q = next.connection.pair in
      (total socket_weight next.kernel.ends + (rest_weight (left - 1) q + pair_weight q)) + 1
      ≤ total socket_weight l.kernel.ends + ((1 + (end_weight + spent_weight left (calls_left p))) + pair_weight p)
  pub queue : next.kernel.queue ≡ l.kernel.queue
  pub backlog : next.kernel.backlog ≡ l.kernel.backlog

-- of what was unread, the bytes that were read are gone
read_off : (l : OpenConnection) (p : PairState) (call : Call) (r : Reply) (value : answer.AnswerValue) (old : Registered) (socket : EndState) → told_of l call r ≡ Some value
    → end_at l.kernel.ends (descriptor l.connection.ends (side_of call)) ≡ Some old → end_after p call r old.socket ≡ Some socket
    → length socket.unread + read_by value ≡ length old.socket.unread
read_off l p call r value old socket told there replied = grind (arith, common_steps)

-- a call that is not interrupted has another answer
answers_all : (l : OpenConnection) (call : Call) (r : Reply) → told_of l call r ≡ Some answer.Interrupted → is_answered r ≡ true → ⊥
answers_all l call r told settled = grind (arith, common_steps)

module _ (now : ℕ) (l : OpenConnection) (r : Reply) (call : Call) (next : next_call l.connection.pair ≡ Some call) (old : Registered) (socket : EndState)
    (there : end_at l.kernel.ends (descriptor l.connection.ends (side_of call)) ≡ Some old) (replied : end_after l.connection.pair call r old.socket ≡ Some socket) where
  -- the call is answered so
  abbrev line : answer.AnswerValue → OpenConnection
  line value = record {
    kernel = record l.kernel { ends = slice_set l.kernel.ends (descriptor l.connection.ends (side_of call)) (Some (record old { socket = socket })) };
    connection = record l.connection { pair = after now l.connection.pair call value };
  }

  -- the sockets weigh less by what was read
  less : (value : answer.AnswerValue) → told_of l call r ≡ Some value → total socket_weight (line value).kernel.ends + move_weight * (2 * read_by value) ≡ total socket_weight l.kernel.ends
  less value told =
      let d = descriptor l.connection.ends (side_of call) in
      let off = read_off l l.connection.pair call r value old socket told there replied in
      let at : slice_get l.kernel.ends d ≡ Some (Some old) = grind (arith, common_steps) in
      omega (arith, total-set socket_weight l.kernel.ends d (Some old) (Some (record old { socket = socket })) at)

  lighter : (value : answer.AnswerValue) → told_of l call r ≡ Some value → fits l.connection.pair call value ≡ true → is_answered r ≡ true → Called l (line value)
  lighter answer.Blocked told fit settled =
      let it = blocks now l.connection.pair call next fit in
      let q = after now l.connection.pair call answer.Blocked in
      let spent = λ (left : ℕ). spent_less left (calls_left q) (calls_left l.connection.pair) it.1 in
      record { lighter = λ left. omega (arith, less answer.Blocked told, it.0, spent left, (rest_most (left - 1) q).1); queue = refl; backlog = refl }
  lighter answer.Interrupted told fit settled = absurd (answers_all l call r told settled)
  lighter (answer.Failed kind) told fit settled =
      record { lighter = λ left. omega (arith, less (answer.Failed kind) told); queue = refl; backlog = refl }
  lighter value told fit settled =
      let q = after now l.connection.pair call value in
      let moves = moves_less now l.connection.pair call value next fit refl in
      let flags = flags_stay now l.connection.pair call value refl in
      record { lighter = λ left. omega (arith, less value told, moves, flags, spent_most (left - 1) (calls_left q), (rest_most (left - 1) q).1); queue = refl; backlog = refl }

made_is : (l : OpenConnection) (call : Call) (r : Reply) → made l call r ≡ kernel.called l.kernel (descriptor l.connection.ends (side_of call)) (end_after l.connection.pair call r)
made_is l (Read side most) r = refl
made_is l call r = refl

pub calls_answered : (now : ℕ) (l : OpenConnection) (r : Reply) → is_answered r ≡ true → Kept (Called l) (called now l r)
unfolding called
calls_answered now l r settled = kept_bind _ (next_call l.connection.pair) (λ call next. kept_bind _ (told_of l call r) (λ value told. kept_when (fits l.connection.pair call value) _ (λ fit.
    rw (made_is l call r) (kept_over _ _ (kept_bind _ (end_at l.kernel.ends (descriptor l.connection.ends (side_of call))) (λ old there.
    kept_map _ (end_after l.connection.pair call r old.socket) (λ socket replied.
    lighter now l r call next old socket there replied value told fit settled)))))))

pub one_less : (c n : ℕ) → 0 < n → c * (n - 1) + c ≡ c * n
one_less c zero some = absurd (omega arith)
one_less c (suc n) some = let less : suc n - 1 ≡ n = omega arith in rw less (omega arith)

-- A poll: each name that it gives leaves the queue

pub same_is : (n m : Name) → same n m ≡ true → n ≡ m
same_is n m h = grind (arith, same_end_is)

pub same_self : (n : Name) → same n n ≡ true
same_self n = grind arith

-- how many of these names there are
abbrev count : List Name → List Name → ℕ
count names q = total (λ x. one (has x names)) q

-- a name that is not among others counts beside them
counts_beside : (n : Name) (ns q : List Name) → has n ns ≡ false → count ns q + total (λ x. one (same n x)) q ≤ count (n ∷ ns) q
counts_beside n ns [] other = omega arith
counts_beside n ns (x ∷ q) other = let rest = counts_beside n ns q other in let is = same_is n x in grind (arith, same_self)

counts_once : (n : Name) (q : List Name) → has n q ≡ true → 1 ≤ total (λ x. one (same n x)) q
counts_once n [] h = absurd (cc)
counts_once n (x ∷ q) h = let rest = counts_once n q in grind arith

counted : (names q : List Name) → are_among q names ≡ true → are_distinct names ≡ true → length names ≤ count names q
counted [] q among distinct = omega arith
counted (n ∷ ns) q among distinct =
    let parts = and_parts _ _ among in
    let others = and_parts _ _ distinct in
    omega (arith, counted ns q parts.1 others.1, counts_beside n ns q (not-true (has n ns) others.0), counts_once n q parts.0)

parted : (names q : List Name) → length (without_names names q) + count names q ≡ length q
parted names [] = refl
parted names (x ∷ q) = let rest = parted names q in grind arith

pub polled : (names q : List Name) → are_among q names ≡ true → are_distinct names ≡ true → length (without_names names q) + length names ≤ length q
polled names q among distinct = omega (arith, counted names q among distinct, parted names q)

-- An opening: a connection that has its lead to send, and two ends with nothing unread

-- no element has more than the greatest number
pub most_at : {X : Type 0} (f : X → ℕ) (xs : List X) (i : ℕ) (d : X) → f (get_or xs i d) ≤ max (f d) (most f xs)
most_at f [] i d = omega arith
most_at f (x ∷ xs) zero d = omega arith
most_at f (x ∷ xs) (suc i) d = omega (arith, most_at f xs i d)

pub fresh_weighs : (l : LeadTable) (s g ring now : ℕ) → pair_weight (fresh s g ring now (lead_at l s g)) ≤ pair_weight (fresh 0 0 ring 0 []) + move_weight * longest l
fresh_weighs l s g ring now =
    omega (arith, length-append (lead_at l s g) [], most_at length (get_or l.own s []) g l.others, most_at (most length) l.own s [])

abbrev sockets : List (Option Registered) → ℕ
sockets ends = total socket_weight ends

replaced : (ends : List (Option Registered)) (d : ℕ) (o : Option Registered) → sockets (slice_set ends d o) ≤ sockets ends + socket_weight o
replaced [] d o = omega arith
replaced (x ∷ ends) zero o = omega arith
replaced (x ∷ ends) (suc d) o = omega (arith, replaced ends d o)

with_one : (ends : List (Option Registered)) (d : ℕ) (r : Registered) → sockets (with_end ends d r) ≤ sockets ends + socket_weight (Some r)
with_one ends d r =
    let in_place = replaced ends d (Some r) in
    let at_end = total_push socket_weight ends (Some r) in
    grind arith

pub both_opened : (k : KernelState) (client target : EndName) → sockets (kernel.open_both k client target).value.ends ≤ sockets k.ends
both_opened k client target =
    let first = (kernel.open_end k client).value in
    let two = with_one first.ends (lowest_free first.ends) (record { token = target; socket = opened target.side }) in
    omega (arith, with_one k.ends (lowest_free k.ends) (record { token = client; socket = opened client.side }))

-- A closing

closed : (l : Limits) (k : KernelState) (d : ℕ) → Kept (λ (t : Told KernelState EndState). kernel_weight l t.value ≤ kernel_weight l k) (kernel.close k d)
closed l k d = kept_map _ (end_at k.ends d) (λ r there.
    let left = λ (other : Name). not (same (name.End r.token) other) in
    omega (arith, replaced k.ends d None, length-filter left k.queue, count_by-le-length left k.queue))

pub both_closed : (l : Limits) (k : KernelState) (ends : Descriptors) → Kept (λ (t : Told KernelState Sockets). kernel_weight l t.value ≤ kernel_weight l k) (kernel.close_both k ends)
both_closed l k ends = kept_bind _ (kernel.close k ends.client) (λ one at. kept_map _ (kernel.close one.value ends.target) (λ two as_well.
    omega (arith, kept_at (kernel.close k ends.client) one at (closed l k ends.client), kept_at (kernel.close one.value ends.target) two as_well (closed l one.value ends.target))))
