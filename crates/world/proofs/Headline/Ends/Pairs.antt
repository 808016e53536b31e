-- A pair and its two ends: the bytes keep their order, an end comes last, and each flag that is down is covered. A
-- change of the network and a worker's call keep that.
pub mod Holders
unfoldable pub use Holders.*
pub use Rattle.flow.specs.Stream.{waiting}

-- What is kept

-- the bytes that are to go on from a side so far, by slot, generation and side: the preamble of its direction, and then
-- those that came to it
abbrev pub History : Type 0
History = ℕ → ℕ → Side → List ℕ

-- the preamble of the direction whose source a side is
abbrev pub before : Limits → ℕ → ℕ → Side → List ℕ
before l s g Client = lead_at l.lead s g
before l s g Target = []

-- the same limits have the same preambles
pub same_before : {l m : Limits} (s g : ℕ) (side : Side) → m ≡ l → before l s g side ≡ before m s g side
same_before s g side same = ap (λ (k : Limits). before k s g side) (sym same)

-- these bytes are the sent bytes, then all that wait, then the unread bytes
abbrev pub KeepsAll : List ℕ → Stream → EndState → EndState → Type 0
KeepsAll gave stream x y = gave ≡ y.taken ++ (waiting stream ++ x.unread)

-- a direction: the bytes keep their order, the end that was seen was the source's last word, and it was
-- passed on only after every byte
pub record DirectionOk (gave : List ℕ) (stream : Stream) (x y : EndState) : Type 0 where
  pub bytes : KeepsAll gave stream x y
  pub ended : stream.end_seen ≡ true → x.fin ≡ true
  pub read : stream.end_seen ≡ true → x.unread ≡ []
  pub last : IsClosedLast stream

-- a pair and its two ends, whatever is reported of them
pub record PairOk (history : Side → List ℕ) (reported : Side → Bool) (pair : PairState) (ends : Sockets) : Type 0 where
  pub covered : (side : Side) → EndCovered (flags_of pair side) (socket_of ends side) (reported side)
  pub directions : (d : Direction) → DirectionOk (history (source d)) (stream_of pair d) (socket_of ends (source d)) (socket_of ends (destination d))

-- a report of that end is queued or in the batch
abbrev pub is_pending : State → EndName → Bool
is_pending st n = has (End n) st.kernel.queue || has (End n) st.batch

-- an end that is open under that token
abbrev pub registered : ℕ → ℕ → Side → EndState → Registered
registered s g side e = record { token = token_at s side g; socket = e }

-- the connection in slot s, of generation g and with these notes: both of its ends are open under its
-- tokens, and the pair fits them
pub record EndsOk (past : History) (st : State) (s g : ℕ) (notes : List ℕ) (c : Connection) : Type 0 where
  pub generation : c.pair.generation ≡ g
  pub ends : Sockets
  pub there : (side : Side) → end_there st c side ≡ Some (registered s g side (socket_of ends side))
  pub pair : PairOk (past s g) (λ side. is_pending st (token_at s side g) || is_nonempty notes) c.pair ends

-- a slot: the poller's table has its generation, a later one has its preamble alone, and its connection is in order
pub record PlaceOk (past : History) (st : State) (s : ℕ) (p : SlotState) : Type 0 where
  pub entry : slice_get st.table s ≡ Some p.generation
  pub later : (g : ℕ) (side : Side) → p.generation < g → past s g side ≡ before st.limits s g side
  pub connection : (c : Connection) → p.connection ≡ Some c → EndsOk past st s p.generation p.notes c

pub record AllOk (past : History) (st : State) : Type 0 where
  pub each : (s : ℕ) (p : SlotState) → slice_get st.slots s ≡ Some p → PlaceOk past st s p

pub end_more : {flags : Flags} {e : EndState} {r q : Bool} → (r ≡ true → q ≡ true) → EndCovered flags e r → EndCovered flags e q
end_more more h = grind arith

pub end_unready : {flags : Flags} {e : EndState} {r q : Bool} → is_readable e ≡ false → is_writable e ≡ false → EndCovered flags e r → EndCovered flags e q
end_unready unread unwritten h = grind arith

-- Pairs

pub by_side : (P : Side → Type 0) → P Client → P Target → (side : Side) → P side
by_side P client target Client = client
by_side P client target Target = target

pub by_direction : (P : Direction → Type 0) → P Up → P Down → (d : Direction) → P d
by_direction P up down Up = up
by_direction P up down Down = down

abbrev pub with_socket : Sockets → Side → EndState → Sockets
with_socket ends Client e = record ends { client = e }
with_socket ends Target e = record ends { target = e }

-- the two ends of a direction keep what they have where the history does
pub same_gave : {gave other : List ℕ} {stream : Stream} {x y : EndState} → other ≡ gave → DirectionOk gave stream x y → DirectionOk other stream x y
same_gave e ok = rw e ok

pub pair_more : {h i : Side → List ℕ} {r q : Side → Bool} {p : PairState} {ends : Sockets} → PairOk h r p ends → ((side : Side) → i side ≡ h side)
    → ((side : Side) → r side ≡ true → q side ≡ true) → PairOk i q p ends
pair_more ok same more = grind (arith, end_more, same_gave)

-- nothing can be done at one side
pub pair_unready : {h : Side → List ℕ} {r q : Side → Bool} {p : PairState} {ends : Sockets} (side : Side) → PairOk h r p ends
    → is_readable (socket_of ends side) ≡ false → is_writable (socket_of ends side) ≡ false
    → (r (other_side side) ≡ true → q (other_side side) ≡ true) → PairOk h q p ends
pair_unready Client ok unread unwritten more = record {
  covered = by_side _ (end_unready unread unwritten (ok.covered Client)) (end_more more (ok.covered Target));
  directions = ok.directions;
}
pair_unready Target ok unread unwritten more = record {
  covered = by_side _ (end_more more (ok.covered Client)) (end_unready unread unwritten (ok.covered Target));
  directions = ok.directions;
}

-- what a change of the network, that brings these bytes, does to an end
pub record IsChange (bytes : List ℕ) (e : EndState) (t : Told EndState Bool) : Type 0 where
  pub unread : t.value.unread ≡ e.unread ++ bytes
  pub taken : t.value.taken ≡ e.taken
  pub fin : e.fin ≡ true → t.value.fin ≡ true
  pub none : e.fin ≡ true → bytes ≡ []
  pub covered : (flags : Flags) (r : Bool) → EndCovered flags e r → EndCovered flags t.value (r || t.told)

arrived : (gave bytes : List ℕ) (stream : Stream) (x y z : EndState) → z.unread ≡ x.unread ++ bytes → KeepsAll gave stream x y
    → KeepsAll (gave ++ bytes) stream z y
arrived gave bytes stream x y z more kept = rw (kept, more)
    (append_assoc y.taken (waiting stream ++ x.unread) bytes ∙ ap (λ (all : List ℕ). y.taken ++ all) (append_assoc (waiting stream) x.unread bytes))

-- at the source of a direction
source_changed : {gave bytes : List ℕ} {stream : Stream} {x y : EndState} {t : Told EndState Bool} → IsChange bytes x t
    → DirectionOk gave stream x y → DirectionOk (gave ++ bytes) stream t.value y
source_changed {gave} {bytes} {stream} {x} {y} {t} change ok = grind (arith, arrived gave bytes stream x y t.value change.unread ok.bytes, append-nil {A = ℕ})

-- at its destination
destination_changed : {gave bytes : List ℕ} {stream : Stream} {x y : EndState} {t : Told EndState Bool} → IsChange bytes y t
    → DirectionOk gave stream x y → DirectionOk gave stream x t.value
destination_changed change ok = grind arith

pub pair_changed : {h i : Side → List ℕ} {r q : Side → Bool} {p : PairState} {ends : Sockets} (side : Side) {bytes : List ℕ} {t : Told EndState Bool} → PairOk h r p ends
    → IsChange bytes (socket_of ends side) t → i side ≡ h side ++ bytes → i (other_side side) ≡ h (other_side side)
    → ((s : Side) → r s ≡ true → q s ≡ true) → (t.told ≡ true → q side ≡ true)
    → PairOk i q p (with_socket ends side t.value)
pair_changed {r = r} {p = p} Client {t = t} ok change came kept more tells = record {
  covered = by_side _
      (end_more (or_then (r Client) t.told (more Client) tells) (change.covered p.client (r Client) (ok.covered Client)))
      (end_more (more Target) (ok.covered Target));
  directions = by_direction _ (same_gave came (source_changed change (ok.directions Up))) (same_gave kept (destination_changed change (ok.directions Down)));
}
pair_changed {r = r} {p = p} Target {t = t} ok change came kept more tells = record {
  covered = by_side _
      (end_more (more Client) (ok.covered Client))
      (end_more (or_then (r Target) t.told (more Target) tells) (change.covered p.target (r Target) (ok.covered Target)));
  directions = by_direction _ (same_gave kept (destination_changed change (ok.directions Up))) (same_gave came (source_changed change (ok.directions Down)));
}

pub nonempty_more : (xs ys : List ℕ) → is_nonempty ys ≡ true → is_nonempty (xs ++ ys) ≡ true
nonempty_more xs ys h = grind (arith, nat_tests, length-append xs ys)

-- the bytes that a change brings
abbrev pub brought : Change → List ℕ
brought (Arrive bytes) = bytes.items
brought _ = []

-- each change leaves the flags covered
pub changed_end : (change : Change) (e : EndState) → Kept (IsChange (brought change) e) (change_of change e)
changed_end (Arrive bytes) e = kept_guard (is_nonempty bytes.items && (not e.fin && not e.err)) _ (λ may. grind (arith, nonempty_more e.unread bytes.items))
changed_end Fin e = kept_guard (not e.fin && not e.err) _ (λ may. grind (arith, append-nil e.unread))
changed_end Reset e = kept_guard (not e.err) _ (λ may. grind (arith, append-nil e.unread))
changed_end Room e = kept_guard (not e.room && not e.err) _ (λ may. grind (arith, append-nil e.unread))

-- What speaks for the next call: a read's and a write's flag is up, and a shutdown comes after every byte

abbrev IsAsked : PairState → Call → Type 0
IsAsked p (Write side) = (flags_of p side).write ≡ true
IsAsked p (Join side) = Unit {0}
IsAsked p (Shut side) = is_drained (stream_of p (inward side)) ≡ true
IsAsked p (Read side most) = (flags_of p side).read ≡ true

chosen : {P : Call → Type 0} (b : Bool) (call : Call) {rest : Option Call} → (b ≡ true → P call) → Kept P rest → Kept P (if b then Some call else rest)
chosen true call this that = kept_some (this refl)
chosen false call this that = that

either : {P : Call → Type 0} (o : Option Call) {u : Option Call} → Kept P o → Kept P u → Kept P (option_or o u)
either None a b = b
either (Some x) a b = a

served : (p : PairState) (d : Direction) → Kept (IsAsked p) (call_for p d)
served p Up =
    chosen (is_waiting p.up && p.target.write) _ (second_so (is_waiting p.up) p.target.write)
    (chosen (is_drained p.up && not p.joined && p.target.write) _ (λ h. tt)
    (chosen (is_drained p.up && p.joined) _ (first_so (is_drained p.up) p.joined)
    (chosen (is_open p.up && p.client.read) _ (second_so (is_open p.up) p.client.read) kept_none)))
served p Down =
    chosen (is_waiting p.down && p.client.write) _ (second_so (is_waiting p.down) p.client.write)
    (chosen (is_drained p.down && not true && p.client.write) _ (λ h. tt)
    (chosen (is_drained p.down && true) _ (first_so (is_drained p.down) true)
    (chosen (is_open p.down && p.target.read) _ (second_so (is_open p.down) p.target.read) kept_none)))

asked : (p : PairState) → Kept (IsAsked p) (next_call p)
asked p = kept_when (is_live (verdict p)) _ (λ live. either (call_for p p.turn) (served p p.turn) (served p (opposite p.turn)))

-- One direction

again : {gave : List ℕ} {s : Stream} {x y z w : EndState} → z.unread ≡ x.unread → z.fin ≡ x.fin → w.taken ≡ y.taken → DirectionOk gave s x y → DirectionOk gave s z w
again unread fin taken ok = grind arith

not_empty : (n : ℕ) (xs : List ℕ) → 0 < n → n ≤ length xs → xs ≡ [] → ⊥
not_empty n xs some within none = grind arith

-- the first n bytes go into the ring, after all that wait
moved_in : (lead ring unread : List ℕ) (n : ℕ) → (lead ++ ring) ++ unread ≡ (lead ++ (ring ++ take n unread)) ++ drop n unread
moved_in lead ring unread n = simp (append_assoc, take-append-drop)

unread_none : (xs : List ℕ) → not (is_nonempty xs) ≡ true → xs ≡ []
unread_none xs h = nil_from_length xs (grind (arith, nat_tests))

-- all that wait, after the first n of them
taken_out : (taken waits left unread : List ℕ) (n : ℕ) → left ≡ drop n waits → taken ++ (waits ++ unread) ≡ (taken ++ take n waits) ++ (left ++ unread)
taken_out taken waits left unread n same = grind (arith, append_assoc, take-append-drop n waits)

-- none wait after a write, where none did before
none_left : (s : Stream) (n : ℕ) → waiting s ≡ [] → waiting (dropped s n) ≡ []
none_left s n none = grind (arith, waiting-dropped s n, drop-nil {A = ℕ} n)

-- One end x, and the other, y: the flags of x are covered, and the directions from x and to x are in order

record EndOk (flags : Flags) (r : Bool) (x y : EndState) (gave back : List ℕ) (one two : Stream) : Type 0 where
  covered : EndCovered flags x r
  out : DirectionOk gave one x y
  into : DirectionOk back two y x

module _ {flags : Flags} {r : Bool} {x y : EndState} {gave back : List ℕ} {out into : Stream} (ok : EndOk flags r x y gave back out into) where
  bytes_in : (n most : ℕ) → (is_count n most && nat_le n (length x.unread)) ≡ true → flags.read ≡ true
      → EndOk flags r (record x { unread = drop n x.unread }) y gave back (taken_in out (take n x.unread)) into
  bytes_in n most may up = grind (arith, nat_tests, moved_in out.lead out.ring x.unread n, not_empty n x.unread)

  end_met : (not (is_nonempty x.unread) && x.fin) ≡ true → EndOk flags r x y gave back (ended out) into
  end_met may = grind (arith, unread_none x.unread)

  read_blocked : not (is_readable x) ≡ true → EndOk (record flags { read = false }) r (record x { read_armed = true }) y gave back out into
  read_blocked may = grind arith

  write_blocked : not (is_writable x) ≡ true → EndOk (record flags { write = false }) r (record x { write_armed = true }) y gave back out into
  write_blocked may = grind arith

  wrote_out : (n : ℕ) (room : Bool) → (x.room && is_count n (length (front into))) ≡ true → flags.write ≡ true
      → EndOk flags r (record x { taken = x.taken ++ take n (front into); room = room }) y gave back out (dropped into n)
  wrote_out n room may up = grind (
    arith,
    nat_tests,
    take-front into n,
    waiting-dropped into n,
    none_left into n,
    taken_out x.taken (waiting into) (waiting (dropped into n)) y.unread n (waiting-dropped into n),
    ok.into.bytes,
  )

  passed_on : is_drained into ≡ true → EndOk flags r (record x { shut = true }) y gave back out (closed into)
  passed_on drained = grind (arith, unread_none (waiting into))

-- The whole pair

module _ {h : Side → List ℕ} {r : Side → Bool} {p : PairState} {ends : Sockets} (ok : PairOk h r p ends) where
  of_client : EndOk p.client (r Client) ends.client ends.target (h Client) (h Target) p.up p.down
  of_client = record { covered = ok.covered Client; out = ok.directions Up; into = ok.directions Down }

  of_target : EndOk p.target (r Target) ends.target ends.client (h Target) (h Client) p.down p.up
  of_target = record { covered = ok.covered Target; out = ok.directions Down; into = ok.directions Up }

  at_client : {q : PairState} {e : EndState} → q.target ≡ p.target → EndOk q.client (r Client) e ends.target (h Client) (h Target) q.up q.down
      → PairOk h r q (record ends { client = e })
  at_client same e = record { covered = by_side _ e.covered (rw same (ok.covered Target)); directions = by_direction _ e.out e.into }

  at_target : {q : PairState} {e : EndState} → q.client ≡ p.client → EndOk q.target (r Target) e ends.client (h Target) (h Client) q.down q.up
      → PairOk h r q (record ends { target = e })
  at_target same e = record { covered = by_side _ (rw same (ok.covered Client)) e.covered; directions = by_direction _ e.into e.out }

  -- an answer by which nothing moves
  unmoved : (side : Side) {turn : Direction} {failed : Option Fault} {moved : ℕ}
      → PairOk h r (record p { turn = turn; failure = failed; moved = moved }) (with_socket ends side (socket_of ends side))
  unmoved Client = at_client refl of_client
  unmoved Target = at_target refl of_target

-- what the pair is given of a reply of this end
abbrev told_by : EndState → Call → Reply → Option answer.AnswerValue
told_by x (Read side most) (reply.Bytes n) = option_map (λ (bytes : List ℕ). answer.Bytes bytes) (bytes_read x most n)
told_by x call said = plain said

refused : {X Y : Type 0} {P : X → Y → Type 0} (o : Option X) → Kept (λ (t : X). Kept (P t) None) o
refused None = kept_none
refused (Some x) = kept_some kept_none

module _ (now : ℕ) {h : Side → List ℕ} {r : Side → Bool} {p : PairState} {ends : Sockets} (ok : PairOk h r p ends) where
  -- for each answer that the pair may be given and each end after it, the pair is in order
  answered : (call : Call) (said : Reply) → IsAsked p call
      → Kept (λ (t : answer.AnswerValue). Kept (λ (e : EndState). PairOk h r (after now p call t) (with_socket ends (side_of call) e))
      (end_after p call said (socket_of ends (side_of call)))) (told_by (socket_of ends (side_of call)) call said)
  answered (Read Client most) (reply.Bytes n) up = kept_over _ _ (kept_guard _ _ (λ told. kept_guard _ _ (λ may. at_client ok refl (bytes_in (of_client ok) n most may up))))
  answered (Read Target most) (reply.Bytes n) up = kept_over _ _ (kept_guard _ _ (λ told. kept_guard _ _ (λ may. at_target ok refl (bytes_in (of_target ok) n most may up))))
  answered (Read Client most) reply.End up = kept_some (kept_guard _ _ (λ may. at_client ok refl (end_met (of_client ok) may)))
  answered (Read Target most) reply.End up = kept_some (kept_guard _ _ (λ may. at_target ok refl (end_met (of_target ok) may)))
  answered (Read Client most) reply.Blocked up = kept_some (kept_guard _ _ (λ may. at_client ok refl (read_blocked (of_client ok) may)))
  answered (Read Target most) reply.Blocked up = kept_some (kept_guard _ _ (λ may. at_target ok refl (read_blocked (of_target ok) may)))
  answered (Write Client) (reply.Wrote n full) up = kept_some (kept_guard _ _ (λ may. at_client ok refl (wrote_out (of_client ok) n (not full) may up)))
  answered (Write Target) (reply.Wrote n full) up = kept_some (kept_guard _ _ (λ may. at_target ok refl (wrote_out (of_target ok) n (not full) may up)))
  answered (Write Client) reply.Blocked up = kept_some (kept_guard _ _ (λ may. at_client ok refl (write_blocked (of_client ok) may)))
  answered (Write Target) reply.Blocked up = kept_some (kept_guard _ _ (λ may. at_target ok refl (write_blocked (of_target ok) may)))
  answered (Join Client) reply.Joined asked = kept_some (kept_guard _ _ (λ may. at_client ok refl (of_client ok)))
  answered (Join Target) reply.Joined asked = kept_some (kept_guard _ _ (λ may. at_target ok refl (of_target ok)))
  answered (Join Client) reply.Blocked asked = kept_some (kept_guard _ _ (λ may. at_client ok refl (write_blocked (of_client ok) may)))
  answered (Join Target) reply.Blocked asked = kept_some (kept_guard _ _ (λ may. at_target ok refl (write_blocked (of_target ok) may)))
  answered (Shut Client) reply.Shut drained = kept_some (kept_some (at_client ok refl (passed_on (of_client ok) drained)))
  answered (Shut Target) reply.Shut drained = kept_some (kept_some (at_target ok refl (passed_on (of_target ok) drained)))
  answered (Write side) (reply.Failed kind) up = kept_some (kept_some (unmoved ok side))
  answered call reply.Interrupted asked = kept_some (kept_some (unmoved ok (side_of call)))
  answered call (reply.Failed kind) asked = kept_some (kept_guard _ _ (λ may. unmoved ok (side_of call)))
  answered call said asked = refused _

module _ {past : History} {st : State} {s g : ℕ} {notes : List ℕ} {c : Connection} (ok : EndsOk past st s g notes c) where
  -- what lies at the descriptor of a side
  pub its_end : (side : Side) (r : Registered) → end_there st c side ≡ Some r → r ≡ registered s g side (socket_of ok.ends side)
  its_end side r there = cc (ok.there side)

  told_is : (call : Call) (said : Reply) → told_of (record { kernel = st.kernel; connection = c }) call said ≡ told_by (socket_of ok.ends (side_of call)) call said
  told_is call said = grind (arith, ok.there)

  -- after a call the pair and its ends are in order
  pub pair_called : {r : Reply} (m : Made st c r)
      → PairOk (past s g) (λ side. is_pending st (token_at s side g) || is_nonempty notes) (after st.second c.pair m.call m.value) (with_socket ok.ends (side_of m.call) m.socket)
  pair_called {r} m =
      let is = its_end (side_of m.call) m.old m.there in
      kept_at (end_after c.pair m.call r (socket_of ok.ends (side_of m.call))) m.socket (rw is at m.replied)
      (kept_at (told_by (socket_of ok.ends (side_of m.call)) m.call r) m.value (sym (told_is m.call r) ∙ m.told)
      (answered st.second ok.pair m.call r (kept_at (next_call c.pair) m.call m.next (asked c.pair))))

  -- the end of the other side is left, and this one changes
  pub ends_there : (side : Side) (e : EndState) (other : Side) → end_at (ends_with st c side (Some (registered s g side e))) (descriptor c.ends other)
      ≡ Some (registered s g other (socket_of (with_socket ok.ends side e) other))
  ends_there side e other = grind (arith, end_same, end_kept, ok.there)

  -- a change at one end leaves the ends of other slots
  pub others_kept : {i : ℕ} (side : Side) (o : Option Registered) → (i ≡ s → ⊥) → (d : ℕ) (r : Registered) → end_at st.kernel.ends d ≡ Some r → r.token.slot ≡ i
      → end_at (ends_with st c side o) d ≡ Some r
  others_kept side o differ d r there of_i = end_kept st.kernel.ends (descriptor c.ends side) d o (ok.there side) there
      (λ same. differ (let slots = ap (λ (n : EndName). n.slot) same in cc))
