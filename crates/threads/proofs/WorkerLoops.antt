-- What the calls of a worker's loop do with the tickets and the slots that it is obliged to put.
use Rattle.std.{proofs.{Common.{◌≡◌, ◌≢◌, ℕ, zero, suc, ◌+◌, ◌-◌, ◌<◌, Bool, true, false, cond, List, [], ◌∷◌, ◌++◌, length, length-set, sym, ◌∙◌, refl, ap, arith, inl, inr, append_assoc}, lemmas.{List.{get_or-set_same, map-append, append-nil, set-set, Concat.flat_map-append, Elements.All-append, Sums.{sum_by-append, sum_by-set}}, Option.{get_or_from_slice_get, slice_get-get_or, slice_get_read, slice_get_within}, Bool.{ltb-true, ltb-false}}, Math.Seq.map-set_same}, specs.{List.slice_set, Prelude.{◌==◌, ◌&&◌, Option, Some, None, Result, Ok, slice_get, map, nat_lt, if◌then◌else◌}}}
use Rattle.claims.specs.{declared.view.Exchange.Exchange, Views.minted_by, Seats.SeatState}
use Rattle.queues.specs.declared.{history.History.History, ticket.Ticket.Ticket}
use Rattle.sizes.specs.declared.faults.ServerFault.{ServerFault}
use Rattle.shared.specs.{declared.shared.Own.Own, Acts.Made, Hands.HandState, Outgoing.{Inserted, outgoing, tickets_out, slots_out}}
use Rattle.turns.specs.{declared.worker.{HandPut.HandPut, Worked.Worked}, Turns.{TicketsKept, SlotsKept, TurnMade, WorkerTurn, Handled, Playing}}
use Rattle.threads.{proofs.Divided.End, specs.{Divided.ends_of, declared.{ending.Why.{Why, TheVariants.FaultFound}, working.Owned.Owned}, LoopEnds.faults_by, WorkerLoops.{times_of, freed, Run, seat_acts, due_from, fault_in, faults_of, IsRun, TurnsMade, takes_of, times_by, times_given, SlotsGiven, Changes, OthersKept, OneRan, tickets_in, Took, WorkerMayEnd, WorkerEnded, WorkerRan}}}
use Rattle.rounds.{specs.{Acts.made_by, Openings.times}, proofs.Acts.{all_none, all_one, acts_none, acts_one, acts_both, due-append}}
use Rattle.turns.specs.declared.worker.Worked.TheVariants as worked

-- how often a ticket, or a slot, stands in lists one after the other

times-append : (u : Ticket) (xs ys : List Ticket) → times_of u (xs ++ ys) ≡ times_of u xs + times_of u ys
times-append u = sum_by-append (λ (t : Ticket). cond ((t.slot == u.slot) && (t.generation == u.generation)) 1 0)

slots-append : (s : ℕ) (xs ys : List ℕ) → times s (xs ++ ys) ≡ times s xs + times s ys
slots-append s = sum_by-append (λ (x : ℕ). cond (x == s) 1 0)

made-append : (u : Ticket) (xs ys : List Run) → times_of u (due_from (xs ++ ys)) ≡ times_of u (due_from xs) + times_of u (due_from ys)
made-append u xs ys = rw (map-append, due-append) (times-append u (due_from xs) (due_from ys))

freed-append : (s : ℕ) (xs ys : List Run) → times s (freed (xs ++ ys)) ≡ times s (freed xs) + times s (freed ys)
freed-append s xs ys = rw flat_map-append (slots-append s (freed xs) (freed ys))

inserted : {T : Type 0} {t : T} {old new : List T} (count : List T → ℕ) → ((xs ys : List T) → count (xs ++ ys) ≡ count xs + count ys) → Inserted t old new
    → count new ≡ count (t ∷ []) + count old
inserted {t = t} count append more =
    omega (arith, ap count more.is, ap count more.was, append more.before (t ∷ more.after), append (t ∷ []) more.after, append more.before more.after)

-- what an end of a queue has put
abbrev puts : {T : Type 0} → History T → List T
puts {T} history = map (λ (put : ℕ × T). put.1) history.put

-- Turns

-- a turn with this ticket, by its answer and its exchanges
abbrev run_of : Ticket → Result Worked ServerFault → List Exchange → Run
run_of t answer exchanges = record { ticket = t; answer = answer; exchanges = exchanges }

-- what it freed is given or in hand
slots_one : (t : Ticket) (answer : Result Worked ServerFault) (a b : Own) → SlotsKept t answer a b
    → (es : List Exchange) (s : ℕ) → times s (slots_out b) ≡ times s (slots_out a) + times s (freed (run_of t answer es ∷ []))
slots_one t (Ok worked.Ended) a b given es s = by (nat_lt t.generation 140737488355327) refl
  where
    by : (below : Bool) → nat_lt t.generation 140737488355327 ≡ below
        → times s (slots_out b) ≡ times s (slots_out a) + times s ((if below then t.slot ∷ [] else []) ++ [])
    by true is = omega (arith, inserted (times s) (slots-append s) (given.slots (ltb-true t.generation 140737488355327 is)))
    by false is = rw (given.last (ltb-false t.generation 140737488355327 is)) (omega arith)
slots_one t _ a b same es s = omega (arith, ap (times s) same)

-- and what it made is put or in hand
tickets_one : (t : Ticket) (minted : ℕ) (a b : Own) → TicketsKept t minted a b
    → (u : Ticket) → times_of u (tickets_out b) ≡ times_of u (tickets_out a) + times_of u (made_by minted t ++ [])
tickets_one t zero a b same u = omega (arith, ap (times_of u) same)
tickets_one t (suc n) a b put u = omega (arith, inserted (times_of u) (times-append u) put.tickets)

turns_none : {s : SeatState} → TurnsMade [] s s
turns_none {s} = record { each = all_none (IsRun s.table.words); made = acts_none s }

turns_one : {words : ℕ} {t : Ticket} {answer : Result Worked ServerFault} {a b : Own} → a.seat.table.words ≡ words → (made : TurnMade words t answer a b)
    → TurnsMade (run_of t answer made.exchanges ∷ []) a.seat b.seat
turns_one {t = t} {answer = answer} {a = a} {b = b} same made = record {
  each = all_one (IsRun a.seat.table.words) (run_of t answer made.exchanges) (rw same made.are);
  made = acts_one (record { ticket = t; exchanges = made.exchanges }) a.seat b.seat made.done.seat;
}

turns_both : {xs ys : List Run} {a b c : SeatState} → TurnsMade xs a b → TurnsMade ys b c → TurnsMade (xs ++ ys) a c
turns_both {xs} {ys} {a} {b} {c} one two = record {
  each = All-append (IsRun a.table.words) xs ys one.each (rw one.made.table at two.each);
  made = rw map-append (acts_both (seat_acts xs) (seat_acts ys) a b c one.made two.made);
}

-- the first ones met no fault
faults_both : (xs ys : List Run) {faults : List ServerFault} → faults_of xs ≡ [] → faults_of ys ≡ faults → faults_of (xs ++ ys) ≡ faults
faults_both xs ys none met = rw (flat_map-append, none) met

-- A worker's ends of the queues of free slots

set_at : (xs : List End) (n : ℕ) (y : End) → n < length xs → slice_get (slice_set xs n y) n ≡ Some y
set_at xs n y within = slice_get_read (slice_set xs n y) (length xs) n y (sym (length-set xs n y)) within (sym (get_or-set_same xs n y y within))

set_elsewhere : (xs : List End) (n k : ℕ) (y : End) → k ≢ n → slice_get (slice_set xs n y) k ≡ slice_get xs k
set_elsewhere [] n k y other = refl
set_elsewhere (x ∷ xs) zero zero y other = absurd (other refl)
set_elsewhere (x ∷ xs) (suc n) (suc k) y other = set_elsewhere xs n k y (λ same. other (ap suc same))
set_elsewhere (x ∷ xs) _ _ y other = refl

-- the end with this number was used, if there is one, and else the first: it was this end and is that one
pub record IsUsed (number : ℕ) (old : List End) (was is : End) (new : List End) : Type 0 where
  pub at : ℕ
  pub there : slice_get old at ≡ Some was
  pub new_is : new ≡ slice_set old at is
  pub mine : number < length old → at ≡ number

pub others_kept : {number : ℕ} {old new : List End} {was is : End} → IsUsed number old was is new → number < length old → OthersKept number old new
others_kept {old = old} {is = is} used within other apart = rw used.new_is (set_elsewhere old used.at other is (rw (used.mine within) apart))

-- it used the first, which it did not exchange
first_used : {number : ℕ} {f g h i : End} {xs ys zs : List End} → (g ≡ f) × (ys ≡ xs) → (i ≡ h) × (zs ≡ ys) → (number < suc (length xs) → 0 ≡ number)
    → IsUsed number (f ∷ xs) g h (i ∷ zs)
first_used was next mine = record { at = 0; there = rw was.0; new_is = rw (next.0, next.1, was.1); mine = mine }

-- a worker exchanges two of its ends, uses one, and exchanges them again
pub exchanged : (p : ℕ) {f g h i : End} {xs ys zs : List End} → Changes p f g xs ys → Changes p h i ys zs → IsUsed p (f ∷ xs) g h (i ∷ zs)
exchanged zero one two = first_used (one.first refl) (two.first refl) (λ within. refl)
exchanged (suc n) {f} {g} {h} {i} {xs} {ys} {zs} one two = by (slice_get xs n) refl
  where
    less : suc n - 1 ≡ n
    less = omega arith

    by : (got : Option End) → slice_get xs n ≡ got → IsUsed (suc n) (f ∷ xs) g h (i ∷ zs)
    by None is =
        let was = one.none (rw less is) in
        first_used was (two.none (rw (was.1, less) is)) (λ within. absurd (let there = slice_get-get_or xs n f (omega arith) in cc (is, there)))
    by (Some o) is =
        let was : (g ≡ o) × (ys ≡ slice_set xs n f) = rw (less, is) at (one.other (omega arith)) in
        let next : (i ≡ f) × (zs ≡ slice_set (slice_set xs n f) n h) = rw (less, was.1, set_at xs n f (slice_get_within xs n o is)) at (two.other (omega arith)) in
        record { at = suc n; there = rw (is, was.0); new_is = rw (next.0, next.1, set-set xs n f h); mine = λ within. refl }

given_out : (s : ℕ) (a : Own) → times s (slots_out a) ≡ times_by s a.free + times s a.hand.slots
given_out s a = slots-append s (puts a.free.history) a.hand.slots

-- the end in use, as the turn's `own` had it, took nothing, and these slots are free now and given or in hand
gave : {fs : List ℕ} {number : ℕ} {a b : Owned} {g : End} (d : Own) → IsUsed number (ends_of a) g d.free (ends_of b) → d.free.history.taken ≡ g.history.taken
    → d.hand ≡ b.own.hand → ((s : ℕ) → times s (slots_out d) ≡ times s (slots_out (record a.own { free = g })) + times s fs) → SlotsGiven fs a b
gave {a = a} {g = g} d used took hand slots =
    let there = get_or_from_slice_get (ends_of a) used.at g g used.there in
    record {
      took = ap takes_of used.new_is ∙ map-set_same (λ (end : End). end.history.taken) (ends_of a) used.at d.free g (took ∙ ap (λ (end : End). end.history.taken) (sym there));
      slots = λ s. rw (← hand) (omega (
        arith,
        ap (times_given s) used.new_is,
        slots s,
        given_out s d,
        given_out s (record a.own { free = g }),
        ap (times_by s) there,
        sum_by-set (times_by s) (ends_of a) used.at d.free g (slice_get_within (ends_of a) used.at g used.there),
      ));
    }

-- nothing is free that was not
gave_none : {a : Owned} {b : Own} → b.free.history.taken ≡ a.own.free.history.taken → slots_out b ≡ slots_out a.own → SlotsGiven [] a (record a { own = b })
gave_none {a} {b} took out = gave {number = 0} {a = a} {b = record a { own = b }} {g = a.own.free} b
    (record { at = 0; there = refl; new_is = refl; mine = λ within. refl }) took refl (λ s. omega (arith, ap (times s) out))

-- A worker

-- nothing was taken and nothing was run, and what was to be put is put or in hand
pub worker_none : {a : Owned} {b : Own} → tickets_out b ≡ tickets_out a.own → b.ready.history.taken ≡ a.own.ready.history.taken → slots_out b ≡ slots_out a.own
    → b.free.history.taken ≡ a.own.free.history.taken → b.seat ≡ a.own.seat → WorkerRan [] [] a (record a { own = b })
worker_none {a} out taken slots took seat = record {
  ran = [];
  did = record { turns = rw seat turns_none; tickets = λ u. omega (arith, ap (times_of u) out); slots = gave_none took slots };
  met = refl;
  taken = rw taken (sym (append-nil (tickets_in a.own)));
}

-- nothing was done since
pub worker_same : {a : Owned} → WorkerRan [] [] a a
worker_same = worker_none refl refl refl refl refl

pub worker_both : {left : List Ticket} {faults : List ServerFault} {a b c : Owned} → WorkerRan [] [] a b → WorkerRan left faults b c → WorkerRan left faults a c
worker_both one two = record {
  ran = one.ran ++ two.ran;
  did = record {
    turns = turns_both one.did.turns two.did.turns;
    tickets = λ u. omega (arith, one.did.tickets u, two.did.tickets u, made-append u one.ran two.ran);
    slots = record {
      took = two.did.slots.took ∙ one.did.slots.took;
      slots = λ s. omega (arith, one.did.slots.slots s, two.did.slots.slots s, freed-append s one.ran two.ran);
    };
  };
  met = faults_both one.ran two.ran one.met two.met;
  taken = simp (two.taken, one.taken, map-append, append_assoc, append-nil);
}

pub worker_then_ends : {mark : ℕ} {why : Why} {a b c : Owned} → WorkerRan [] [] a b → WorkerEnded mark why b c → WorkerEnded mark why a c
worker_then_ends one two = record { left = two.left; few = two.few; made = worker_both one two.made; reason = two.reason }

-- no ticket was left
pub worker_ends : {mark : ℕ} {why : Why} {a b : Owned} → WorkerRan [] (faults_by why) a b → WorkerMayEnd mark why b.own → WorkerEnded mark why a b
worker_ends made reason = record { left = []; few = inl refl; made = made; reason = reason }

module _ (a : Owned) {t : Ticket} {b : Own} (took : Took t a.own b) where
  -- what was taken, and what was to be put, once a ticket was taken
  taken_one : tickets_in b ≡ tickets_in a.own ++ t ∷ []
  taken_one = rw (took.took.taken, map-append)

  took_out : tickets_out b ≡ tickets_out a.own
  took_out = rw (took.took.taken, took.hand)

  -- a ticket was taken, and its turn was run
  pub worker_one : {answer : Result Worked ServerFault} {c : Owned} → OneRan t answer (record a { own = b }) c → c.own.ready.history.taken ≡ b.ready.history.taken
      → WorkerRan [] (fault_in answer) a c
  worker_one {answer} (es, did) taken = record {
    ran = run_of t answer es ∷ [];
    did = record {
      turns = rw took.seat at did.turns;
      tickets = λ u. omega (arith, did.tickets u, ap (times_of u) took_out);
      slots = record { took = rw (← took.free) did.slots.took; slots = λ s. rw (← took.free, ← took.hand) (did.slots.slots s) };
    };
    met = append-nil (fault_in answer);
    taken = rw taken taken_one;
  }

  -- a look found a fault once the ticket was taken, which stays in hand
  pub worker_kept : {mark : ℕ} {why : Why} {hand : HandState} → why ≡ FaultFound mark → hand ≡ record b.hand { tickets = b.hand.tickets ++ t ∷ [] }
      → WorkerEnded mark why a (record a { own = record b { hand = hand } })
  worker_kept is hand = record {
    left = t ∷ [];
    few = inr (is, refl);
    made = record {
      ran = [];
      did = record {
        turns = rw took.seat turns_none;
        tickets = λ u. rw (hand, ← append_assoc) (omega (arith, times-append u (tickets_out b) (t ∷ []), ap (times_of u) took_out));
        slots = gave_none (rw took.free) (rw (hand, took.free, took.hand));
      };
      met = rw is;
      taken = taken_one;
    };
    reason = rw is refl;
  }

-- a worker's turn, between two exchanges of its ends
pub one_ran : {words p : ℕ} {t : Ticket} {first : HandPut} {answer : Result Worked ServerFault} {S C T : Type 0}
    {acts : Handled C T → Made S} {plays : Playing C T} {from to : S} {a b : Owned} {c : Own} {g h : End}
    {xs : List End} → a.own.seat.table.words ≡ words → Changes p a.own.free g a.others.items xs
    → WorkerTurn acts plays words t first answer (record a.own { free = g }) c from to → b.own.seat ≡ c.seat → b.own.ready ≡ c.ready → b.own.hand.tickets ≡ c.hand.tickets
    → h.history.taken ≡ c.free.history.taken → outgoing h.history b.own.hand.slots ≡ slots_out c → Changes p h b.own.free xs b.others.items → OneRan t answer a b
one_ran {p = p} {t = t} {answer = answer} {a = a} {b = b} {c = c} {h = h} same one made seat ready tickets took slots two =
    let turn = made.turn.0 in
    let put = made.put in (
      turn.exchanges,
      record {
        turns = rw (put.seat, ← seat) at (turns_one (rw put.seat same) turn);
        tickets = λ u. rw (ready, tickets) (omega (arith, tickets_one t (minted_by turn.exchanges) made.begun c turn.done.tickets u, ap (times_of u) put.tickets));
        slots = gave (record c { free = h; hand = b.own.hand }) (exchanged p one two) (took ∙ (turn.done.took.slots ∙ put.took.slots)) refl
            (λ s. rw slots (omega (arith, slots_one t answer made.begun c turn.done.slots turn.exchanges s, ap (times s) put.slots)));
      },
    )
