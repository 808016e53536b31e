-- What follows for every pair: that its next call is possible, and what an answer, a report, the idle limit and any
-- list of them do to it.
use Rattle.std.{proofs.{Common.{Bool, List, None, Option, Some, [], append-nil, append_assoc, arith, inl, inr, length, option_and_then, refl, sym, take, take-append-drop, true, ℕ, ◌++◌, ◌↔◌, ◌∙◌, ◌∷◌, ◌≡◌, ◌≤◌, ◌⊎◌}, Math.Seq.drop-nil, lemmas.{Grind.common_steps, Option.{cond_some, option_and_then_some}}}, specs.{Option.{option_or}, Prelude.{IfSome, if◌then◌else◌, option_map}}}
use Rattle.flow.{proofs.Front.{front_offers, take-front, waiting-dropped}, specs.Stream.{waiting}}
use Rattle.relay_core.specs.{Runs.{brought, Answered, Event, Expired, Reported, brought_by, carried_by, ever_brought, ever_carried, pair_after, through, carried, or_nothing, answered}, Idle.{is_overdue, timed_out}, Laws.{IsRunOf, IsClosedLast, AnswersNext, AnswersAreEvents, AnswersAreToNextCalls, AnswersKeepOrder, AnswersKeepPlace, AnswersPassEndLast, ExpiriesChangeVerdictAlone, FailuresAreTold, IsAtRest, IsOverdue, IsPossible, LivePairsRest, OnlyOverduePairsExpire, PassesEndLast, RunsKeepOrder, RunsKeepPlace, RunsPassEndLast, TellsOf, pair_place}, Order.{call_for, next_call, offer}, Pairs.{PairState, is_live, noted, stream_of, verdict}, Replies.{AnswerValue, after, fits}, declared.{call.Call.{Call}, verdict.Fault.{Fault}}}
use Rattle.token.specs.{Sides.{inward, opposite}, declared.{direction.Direction.{Direction}, side.Side.{Side}}}
use Rattle.relay_core.specs.declared.verdict.Verdict.TheVariants as verdict

-- ---- the next call is possible: nothing in the pair speaks against it

call_is_possible : (p : PairState) (d : Direction) → IfSome (call_for p d) (IsPossible p)
call_is_possible p d = grind (arith, common_steps, front_offers)

either : {X : Type 0} (P : X → Type 0) (b : Bool) (o p : Option X) → IfSome o P → IfSome p P → IfSome (if b then option_or o p else None) P
either P b o p this that = grind (arith, common_steps)

pub asked_is_possible : (p : PairState) (call : Call) → next_call p ≡ Some call → IsPossible p call
asked_is_possible p call e = rw e at (either (IsPossible p) (is_live (verdict p)) _ _ (call_is_possible p p.turn) (call_is_possible p (opposite p.turn)))

-- ---- one answer

-- what a write takes of its offer are the first bytes that wait
pub take-offer : (p : PairState) (side : Side) (n : ℕ) → n ≤ length (offer p side) → take n (offer p side) ≡ take n (waiting (stream_of p (inward side)))
take-offer p side n h = take-front (stream_of p (inward side)) n h

pub answers_keep_order : AnswersKeepOrder
answers_keep_order now p call reply d = grind (arith, append_assoc, append-nil, take-append-drop, waiting-dropped)

passes_end_last : (now : ℕ) (p : PairState) (call : Call) (reply : AnswerValue) → IsPossible p call → fits p call reply ≡ true
    → (d : Direction) → PassesEndLast (stream_of p d) (stream_of (after now p call reply) d)
passes_end_last now p call reply possible fit d = grind (arith, common_steps, waiting-dropped, drop-nil)

pub answers_pass_end_last : AnswersPassEndLast
answers_pass_end_last now p call reply a = passes_end_last now p call reply (asked_is_possible p call a.next) a.fit

faultless : (p : PairState) (call : Call) → next_call p ≡ Some call → p.failure ≡ None
faultless p call next = grind (arith, common_steps)

tells : (now : ℕ) (p : PairState) (call : Call) (reply : AnswerValue) (fault : Fault) → p.failure ≡ None
    → (verdict (after now p call reply) ≡ verdict.Failed fault) ↔ TellsOf call reply fault
tells now p call reply fault none = grind (arith, common_steps)

pub failures_are_told : FailuresAreTold
failures_are_told now p call reply fault a = tells now p call reply fault (faultless p call a.next)

pub answers_keep_place : AnswersKeepPlace
answers_keep_place now p call reply = grind (arith, common_steps)

-- what one answer does is what the answer to the call that comes next does
pub answers_are_to_next_calls : AnswersAreToNextCalls
answers_are_to_next_calls now p q reply e = option_and_then_some _ (next_call p) q e (λ call next fitted.
    let c = cond_some (fits p call reply) (after now p call reply) q fitted in
    record { call = call; answers = record { next = next; fit = c.0 }; after_it = sym c.1 })

-- ---- a live pair that has no next call, and the idle limit

at_rest : (p : PairState) (d : Direction) → call_for p d ≡ None → IsAtRest p d
at_rest p d none = grind (arith, common_steps)

no_call : (calls : Direction → Option Call) (live : Bool) (t d : Direction) → live ≡ true → (if live then option_or (calls t) (calls (opposite t)) else None) ≡ None → calls d ≡ None
no_call calls live t d e none = grind (arith, common_steps)

pub live_pairs_rest : LivePairsRest
live_pairs_rest p live none d = at_rest p d (no_call (call_for p) (is_live (verdict p)) p.turn d (rw live refl) none)

overdue_so : (now limit : ℕ) (p : PairState) → is_overdue now limit p ≡ true → IsOverdue now limit p
overdue_so now limit p h = grind (arith, common_steps)

so_overdue : (now limit : ℕ) (p : PairState) → IsOverdue now limit p → is_overdue now limit p ≡ true
so_overdue now limit p h = grind (arith, common_steps)

pub exactly : (now limit : ℕ) (p : PairState) (told : Bool) → told ≡ is_overdue now limit p → (told ≡ true) ↔ IsOverdue now limit p
exactly now limit p told is = rw is (overdue_so now limit p, so_overdue now limit p)

pub only_overdue_pairs_expire : OnlyOverduePairsExpire
only_overdue_pairs_expire now limit p = record {
  overdue = λ o. rw (so_overdue now limit p o) refl;
  other = λ h. rw h refl;
  exact = exactly now limit p _ refl;
}

alone : (b : Bool) (p : PairState) → (if b then timed_out p else p) ≡ record p { failure = (if b then timed_out p else p).failure }
alone b p = grind (arith, common_steps)

pub expiries_change_verdict_alone : ExpiriesChangeVerdictAlone
expiries_change_verdict_alone now limit p = alone (is_overdue now limit p) p

-- ---- events

-- what an event or a list of them keeps, by the bytes that come and go in each direction
record Keeps (brings carries : Direction → List ℕ) (p q : PairState) : Type 0 where
  pub order : (d : Direction) → waiting (stream_of p d) ++ brings d ≡ carries d ++ waiting (stream_of q d)
  pub end_last : (d : Direction) → IsClosedLast (stream_of p d) → IsClosedLast (stream_of q d)
  pub place : pair_place q ≡ pair_place p

moved_nothing : (p q : PairState) → (q ≡ noted p) ⊎ ((q ≡ timed_out p) ⊎ (q ≡ p)) → Keeps (λ d. []) (λ d. []) p q
moved_nothing p q e = grind (arith, common_steps, append-nil)

answer_keeps : (now : ℕ) (p : PairState) (call : Call) (reply : AnswerValue) → AnswersNext p call reply
    → Keeps (λ d. brought d call reply) (λ d. carried p d call reply) p (after now p call reply)
answer_keeps now p call reply a = record {
  order = answers_keep_order now p call reply;
  end_last = λ d. (answers_pass_end_last now p call reply a d).closed_last;
  place = answers_keep_place now p call reply;
}

event_keeps : (p q : PairState) (event : Event) → pair_after p event ≡ Some q → Keeps (λ d. brought_by p d event) (λ d. carried_by p d event) p q
event_keeps p q (Answered now reply) e =
    let s = answers_are_to_next_calls now p q reply e in
    rw s.answers.next (rw (← s.after_it) at (answer_keeps now p s.call reply s.answers))
event_keeps p q Reported e = moved_nothing p q (inl (cc))
event_keeps p q (Expired now limit) e = moved_nothing p q (inr (inl (sym (cond_some (is_overdue now limit p) (timed_out p) q e).1)))

seam : (r b1 b2 c1 c2 s t : List ℕ) → r ++ b1 ≡ c1 ++ s → s ++ b2 ≡ c2 ++ t → r ++ (b1 ++ b2) ≡ (c1 ++ c2) ++ t
seam r b1 b2 c1 c2 s t first rest = grind (arith, append_assoc)

run_keeps : (p q : PairState) (events : List Event) → through p events ≡ Some q → Keeps (λ d. ever_brought p d events) (λ d. ever_carried p d events) p q
run_keeps p q [] h = moved_nothing p q (inr (inr (cc)))
run_keeps p q (event ∷ events) h = option_and_then_some (λ m. through m events) (pair_after p event) q h (λ m is rest.
    let s = event_keeps p m event is in
    let t = run_keeps m q events rest in
    record {
      order = λ d. rw is (search (seam, s.order d, t.order d));
      end_last = λ d kept. t.end_last d (s.end_last d kept);
      place = t.place ∙ s.place;
    })

pub runs_keep_order : RunsKeepOrder
runs_keep_order p q events h = (run_keeps p q events h).order

all_left : (r b c s : List ℕ) → r ++ b ≡ c ++ s → s ≡ [] → c ≡ r ++ b
all_left r b c s e last = grind (arith, append-nil)

pub runs_pass_end_last : RunsPassEndLast
runs_pass_end_last p q events c h =
    let keeps = run_keeps p q events h in
    record { kept = λ d. keeps.end_last d (c d); last = λ d shut. search (all_left, keeps.order d, (keeps.end_last d (c d)).empty shut) }

pub runs_keep_place : RunsKeepPlace
runs_keep_place p q events h = (run_keeps p q events h).place

pub answers_are_events : AnswersAreEvents
answers_are_events now p [] = record { run = refl; brought = λ d. refl; carried = λ d. refl }
answers_are_events now p (reply ∷ replies) =
    let rest : (m : PairState) → IsRunOf now m replies = λ m. answers_are_events now m replies in
    record {
      run = λ i. option_and_then (λ (m : PairState). (rest m).run i) (answered now p reply);
      brought = λ d i. brought_by p d (Answered now reply) ++ or_nothing (option_map (λ (m : PairState). (rest m).brought d i) (answered now p reply));
      carried = λ d i. carried_by p d (Answered now reply) ++ or_nothing (option_map (λ (m : PairState). (rest m).carried d i) (answered now p reply));
    }
