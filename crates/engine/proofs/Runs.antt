-- What one call's answer does to a wire, from what the wire's call says of it; and what one answer more does to a run,
-- and to what the wires counted of it.
use Rattle.std.{proofs.{Common.{◌≡◌, ◌⊎◌, inl, inr, ℕ, ◌≤◌, true, false, List, [], ◌++◌, length, take, Option, Some, None, refl, sym, ◌∙◌, ap, append-nil, add-zero, ◌+◌, Bool, ◌∷◌, append_assoc, length-append, zero-add, add_assoc, arith, option_map, unwrap_or}, lemmas.{Grind.common_steps, Option.option_and_then_some}, KnownBytes.{Appends-nil, Consumes-nil, Consumes-trans, Appends-trans}}, specs.{Prelude.{if◌then◌else◌, OnSome}, Io.KnownBytes.{Consumes, Appends, Keeps}, declared.io.ErrorKind.ErrorKind}}
use Rattle.relay_core.{specs.{declared.{Direction.Direction, Side.{Side, TheVariants.{Client, Target}}, call.Call.{Call, TheVariants.{Write, Read}}, verdict.Fault.{Fault, TheVariants.{Broken, Idle}}}, Calls.side_of, Pairs.{PairState, verdict}, Order.{offer, next_call}, Replies.{AnswerValue, Bytes, Wrote, Blocked, fits, after}, Runs.{brought, carried, answered, over, all_brought, all_carried}, Idle.{is_overdue, expired}, Laws.{TellsOf, IsOverdue}}, proofs.Pairs.{take-offer, answers_are_to_next_calls, failures_are_told, only_overdue_pairs_expire}}
use Rattle.engine.specs.{Classes.kind_of_error, Wires.{Asked, Given, Refused, WireView, Rises}, Turns.{IsAnsweredBy, asked, is_failed, is_blocked, way_from, way_to, one_if, count_on, same_side, MadeCall, made_if, made_on, AreCalled, IsServed, FailsBy, IsTurn}, Steps.{IsErrorReply, IsError, IsStep, IsAnswered, IsMove}}
use Rattle.relay_core.specs.declared.verdict.Verdict.TheVariants as verdict

-- ---- one call

pub stays_at : {n m : ℕ} → m ≡ n → Rises n m 0
stays_at e = grind (arith, common_steps)

pub nothing_read : (a b : Option (List ℕ)) → Keeps a b → Consumes a b []
nothing_read a b left = grind (arith, common_steps)

pub nothing_written : (a b : Option (List ℕ)) → Keeps a b → Appends a b []
nothing_written a b kept = grind (arith, common_steps, append-nil)

-- a count of 0 moved nothing
pub none_read : (a b : Option (List ℕ)) (n : ℕ) (buffer : List ℕ) → n ≡ 0 → Consumes a b (take n buffer) → Keeps a b
none_read a b n buffer e taken = grind (arith, common_steps)

pub none_written : (a b : Option (List ℕ)) (n : ℕ) (offered : List ℕ) → n ≡ 0 → Appends a b (take n offered) → Keeps a b
none_written a b n offered e taken = grind (arith, common_steps, append-nil)

-- a count that changed rose
pub raised : (f g : ℕ) → (g ≡ f → ⊥) → (g ≡ f) ⊎ Rises f g 1 → Rises f g 1
raised f g moved either = grind (arith, common_steps)

pub bytes_read : (p : PairState) (side : Side) (n most : ℕ) (buffer : List ℕ) → 1 ≤ n → n ≤ length buffer → n ≤ most
    → (fits p (Read side most) (Bytes (take n buffer)) ≡ true) × (brought (way_from side) (Read side most) (Bytes (take n buffer)) ≡ take n buffer)
bytes_read p side n most buffer some within small = grind (arith, common_steps)

pub bytes_written : (p : PairState) (side : Side) (n : ℕ) → 1 ≤ n → n ≤ length (offer p side)
    → (fits p (Write side) (Wrote n) ≡ true) × (carried p (way_to side) (Write side) (Wrote n) ≡ take n (offer p side))
bytes_written p side n some within = grind (arith, common_steps, take-offer)

-- an error's answer moves nothing, and fits
record IsIdle (p : PairState) (call : Call) (error : ErrorKind) (reply : AnswerValue) : Type 0 where
  pub fit : fits p call reply ≡ true
  pub brings : (d : Direction) → brought d call reply ≡ []
  pub carries : (d : Direction) → carried p d call reply ≡ []
  pub told : IsAnsweredBy (Refused error) reply

error_idle : (p : PairState) (call : Call) (error : ErrorKind) (reply : AnswerValue) → fits p call Blocked ≡ true → IsErrorReply (kind_of_error error) reply → IsIdle p call error reply
error_idle p call error reply may sort = grind (arith, common_steps)

module _ {S : Type 0} {does : Asked → Given → S → S → Type 0} {told : S → WireView} {old new : S} {now : ℕ} {call : Call} {p q : PairState} where
  -- an answer that moves nothing
  pub unmoved : (given : Given) (reply : AnswerValue) → IsAnsweredBy given reply → does (asked p call) given old new → fits p call reply ≡ true → q ≡ after now p call reply
      → brought (way_from (side_of call)) call reply ≡ [] → carried p (way_to (side_of call)) call reply ≡ []
      → Keeps (told old).remaining (told new).remaining → Keeps (told old).written (told new).written
      → Rises (told old).faults (told new).faults (if is_failed reply then 1 else 0) → Rises (told old).blocks (told new).blocks (if is_blocked reply then 1 else 0)
      → IsStep told does call now p q old new
  unmoved given reply tells did fit run brings carries left kept faults blocks = record {
    reply = reply;
    fit = fit;
    run = run;
    served = record {
      read = rw brings (nothing_read _ _ left);
      written = rw carries (nothing_written _ _ kept);
      faults = faults;
      blocks = blocks;
      made = record { given = given; told = tells; did = did };
    };
  }

  -- an error, classed by what the wire counted
  pub erred : (error : ErrorKind) (reply : AnswerValue) {faults blocks : ℕ} → fits p call Blocked ≡ true → q ≡ after now p call reply
      → Keeps (told old).remaining (told new).remaining → Keeps (told old).written (told new).written → faults ≡ (told old).faults → blocks ≡ (told old).blocks
      → IsError (kind_of_error error) reply faults (told new).faults blocks (told new).blocks → does (asked p call) (Refused error) old new → IsStep told does call now p q old new
  erred error reply may run left kept f b e did =
      let idle = error_idle p call error reply may e.sort in
      unmoved (Refused error) reply idle.told did idle.fit run (idle.brings _) (idle.carries _) left kept (rw f at e.failed) (rw b at e.waited)

-- ---- one answer more

-- one answer more, at the end of a run
over_more : (now : ℕ) (m q : PairState) (reply : AnswerValue) → answered now m reply ≡ Some q → (replies : List AnswerValue) (p : PairState) → over now p replies ≡ Some m
    → over now p (replies ++ reply ∷ []) ≡ Some q
over_more now m q reply a [] p h = let same : p ≡ m = cc in rw (same, a) refl
over_more now m q reply a (first ∷ replies) p h =
    option_and_then_some (λ x. over now x replies) (answered now p first) m h (λ x is rest. rw is (over_more now m q reply a replies x rest))

-- what a list of answers comes to, one after another, be it bytes, calls or a count
record IsSum {X : Type 0} (join : X → X → X) (none : X) (now : ℕ) (one : PairState → Call → AnswerValue → X) (whole : PairState → List AnswerValue → X) : Type 0 where
  pub assoc : (a b c : X) → join (join a b) c ≡ join a (join b c)
  pub before : (a : X) → join none a ≡ a
  pub behind : (a : X) → join a none ≡ a
  pub empty : (p : PairState) → whole p [] ≡ none
  pub first : (p : PairState) (reply : AnswerValue) (replies : List AnswerValue) → whole p (reply ∷ replies)
      ≡ join (unwrap_or (option_map (λ (call : Call). one p call reply) (next_call p)) none) (unwrap_or (option_map (λ (q : PairState). whole q replies) (answered now p reply)) none)

module _ {X : Type 0} {join : X → X → X} {none : X} {now : ℕ} {one : PairState → Call → AnswerValue → X} {whole : PairState → List AnswerValue → X}
    (s : IsSum join none now one whole) where
  -- the end of a list stands after the rest
  one_more : (reply : AnswerValue) (m : PairState) (replies : List AnswerValue) (p : PairState) → over now p replies ≡ Some m
      → whole p (replies ++ reply ∷ []) ≡ join (whole p replies) (whole m (reply ∷ []))
  one_more reply m [] p h = let same : p ≡ m = cc in rw (s.empty p, s.before) (rw same refl)
  one_more reply m (first ∷ replies) p h =
      option_and_then_some (λ x. over now x replies) (answered now p first) m h
      (λ x is rest. rw (s.first p first (replies ++ reply ∷ []), s.first p first replies, is) (rw (one_more reply m replies x rest, s.assoc) refl))

  -- what one answer alone comes to
  once : (p : PairState) {call : Call} {reply : AnswerValue} {q : PairState} → next_call p ≡ Some call → answered now p reply ≡ Some q → whole p (reply ∷ []) ≡ one p call reply
  once p {reply = reply} {q = q} next ran = rw (s.first p reply [], ran, next, s.empty q) (s.behind _)

brought_sum : (now : ℕ) (d : Direction) → IsSum ◌++◌ [] now (λ p. brought d) (λ p. all_brought now p d)
brought_sum now d = record { assoc = append_assoc; before = λ a. refl; behind = append-nil; empty = λ p. refl; first = λ p reply replies. refl }

carried_sum : (now : ℕ) (d : Direction) → IsSum ◌++◌ [] now (λ p. carried p d) (λ p. all_carried now p d)
carried_sum now d = record { assoc = append_assoc; before = λ a. refl; behind = append-nil; empty = λ p. refl; first = λ p reply replies. refl }

count_sum : (now : ℕ) (test : AnswerValue → Bool) (side : Side) → IsSum ◌+◌ 0 now (λ p. one_if test side) (count_on test side now)
count_sum now test side = record { assoc = add_assoc; before = zero-add; behind = add-zero; empty = λ p. refl; first = λ p reply replies. refl }

made_sum : (now : ℕ) (side : Side) → IsSum ◌++◌ [] now (made_if side) (made_on side now)
made_sum now side = record { assoc = append_assoc; before = λ a. refl; behind = append-nil; empty = λ p. refl; first = λ p reply replies. refl }

-- a call moves nothing on the other side
still : (side : Side) (p : PairState) (call : Call) (reply : AnswerValue) → fits p call reply ≡ true → same_side (side_of call) side ≡ false
    → (brought (way_from side) call reply ≡ []) × (carried p (way_to side) call reply ≡ [])
still side p call reply fit other = grind (arith, common_steps)

-- calls after calls
made_then : {S : Type 0} (told : S → WireView) (does : Asked → Given → S → S → Type 0) (calls more : List MadeCall) (a b c : S) → AreCalled told does calls a b
    → AreCalled told does more b c → AreCalled told does (calls ++ more) a c
made_then told does [] more a b c first next = rw first at next
made_then told does (call ∷ calls) more a b c first next = (first.0, first.1, made_then told does calls more first.0 b c first.2 next)

rises_more : (a b c n k : ℕ) → Rises a b n → Rises b c k → Rises a c (n + k)
rises_more a b c n k first next = omega arith

module _ {S : Type 0} {now : ℕ} {told : S → WireView} {does : Asked → Given → S → S → Type 0} where
  module _ {p : PairState} {call : Call} {reply : AnswerValue} {q : PairState} (next : next_call p ≡ Some call) (ran : answered now p reply ≡ Some q) where
    -- the wire of the call's side
    served_here : {old new : S} → IsAnswered told does call p reply old new → IsServed told does now old new (side_of call) p (reply ∷ [])
    served_here {new = new} s =
        let side = side_of call in
        let here : same_side side side ≡ true = grind arith in
        record {
          read = rw (once (brought_sum now (way_from side)) p next ran) s.read;
          written = rw (once (carried_sum now (way_to side)) p next ran) s.written;
          faults = rw (once (count_sum now is_failed side) p next ran, here) s.faults;
          blocks = rw (once (count_sum now is_blocked side) p next ran, here) s.blocks;
          made = rw (once (made_sum now side) p next ran, here) (new, record { called = s.made; faults = s.faults; blocks = s.blocks }, refl);
        }

    -- the wire of the other side
    served_elsewhere : {wire : S} (side : Side) → fits p call reply ≡ true → same_side (side_of call) side ≡ false → IsServed told does now wire wire side p (reply ∷ [])
    served_elsewhere side fit other =
        let none = still side p call reply fit other in
        record {
          read = rw (once (brought_sum now (way_from side)) p next ran, none.0) (Consumes-nil _);
          written = rw (once (carried_sum now (way_to side)) p next ran, none.1) (Appends-nil _);
          faults = rw (once (count_sum now is_failed side) p next ran, other) (stays_at refl);
          blocks = rw (once (count_sum now is_blocked side) p next ran, other) (stays_at refl);
          made = rw (once (made_sum now side) p next ran, other) refl;
        }

  -- a wire on which no call was made
  served_none : {p : PairState} {wire : S} (side : Side) → IsServed told does now wire wire side p []
  served_none side = record { read = Consumes-nil _; written = Appends-nil _; faults = stays_at refl; blocks = stays_at refl; made = refl }

  served_more : {side : Side} {p m : PairState} {reply : AnswerValue} {replies : List AnswerValue} {a b c : S} → over now p replies ≡ Some m
      → IsServed told does now a b side p replies → IsServed told does now b c side m (reply ∷ []) → IsServed told does now a c side p (replies ++ reply ∷ [])
  served_more {side = side} {a = a} {b = b} {c = c} run s t = record {
    read = rw (one_more (brought_sum now (way_from side)) _ _ _ _ run) (Consumes-trans _ _ _ _ _ s.read t.read);
    written = rw (one_more (carried_sum now (way_to side)) _ _ _ _ run) (Appends-trans _ _ _ _ _ s.written t.written);
    faults = rw (one_more (count_sum now is_failed side) _ _ _ _ run) (rises_more (told a).faults (told b).faults (told c).faults _ _ s.faults t.faults);
    blocks = rw (one_more (count_sum now is_blocked side) _ _ _ _ run) (rises_more (told a).blocks (told b).blocks (told c).blocks _ _ s.blocks t.blocks);
    made = rw (one_more (made_sum now side) _ _ _ _ run) (made_then told does _ _ a b c s.made t.made);
  }

-- this many answers have come
pub record Runs (made now : ℕ) (old ran : PairState) (client target : Side → PairState → List AnswerValue → Type 0) : Type 0 where
  pub replies : List AnswerValue
  pub many : length replies ≡ made
  pub run : over now old replies ≡ Some ran
  pub by_client : client Client old replies
  pub by_target : target Target old replies

module _ {A B : Type 0} {now : ℕ} {told : A → WireView} {does : Asked → Given → A → A → Type 0} {told_b : B → WireView} {does_b : Asked → Given → B → B → Type 0} where
  module _ {call : Call} {p q : PairState} (next : next_call p ≡ Some call) where
    pub moved_client : {client client_now : A} {target : B} → Client ≡ side_of call → IsStep told does call now p q client client_now
        → IsMove now p q (IsServed told does now client client_now) (IsServed told_b does_b now target target)
    moved_client here s =
        let ran : answered now p s.reply ≡ Some q = rw (next, s.fit) (ap Some (sym s.run)) in
        record { reply = s.reply; run = ran; by_client = rw here (served_here next ran s.served); by_target = served_elsewhere next ran Target s.fit (rw (← here) refl) }

    pub moved_target : {client : A} {target target_now : B} → Target ≡ side_of call → IsStep told_b does_b call now p q target target_now
        → IsMove now p q (IsServed told does now client client) (IsServed told_b does_b now target target_now)
    moved_target here s =
        let ran : answered now p s.reply ≡ Some q = rw (next, s.fit) (ap Some (sym s.run)) in
        record { reply = s.reply; run = ran; by_client = served_elsewhere next ran Client s.fit (rw (← here) refl); by_target = rw here (served_here next ran s.served) }

  -- ---- a run of several calls

  pub starts : {p : PairState} {client : A} {target : B} → Runs 0 now p p (IsServed told does now client client) (IsServed told_b does_b now target target)
  starts = record { replies = []; many = refl; run = refl; by_client = served_none Client; by_target = served_none Target }

  pub goes_on : {made : ℕ} {p m q : PairState} {a b c : A} {t u v : B} → Runs made now p m (IsServed told does now a b) (IsServed told_b does_b now t u)
      → IsMove now m q (IsServed told does now b c) (IsServed told_b does_b now u v) → Runs (made + 1) now p q (IsServed told does now a c) (IsServed told_b does_b now t v)
  goes_on {p = p} {m = m} {q = q} r s = record {
    replies = r.replies ++ s.reply ∷ [];
    many = length-append r.replies (s.reply ∷ []) ∙ ap (λ (n : ℕ). n + 1) r.many;
    run = over_more now m q s.reply s.run r.replies p r.run;
    by_client = served_more r.run r.by_client s.by_client;
    by_target = served_more r.run r.by_target s.by_target;
  }

-- ---- the end of a turn

live_call : (p : PairState) (call : Call) → next_call p ≡ Some call → verdict p ≡ verdict.Live
live_call p call next = grind (arith, common_steps)

none_held : (now limit : ℕ) (ran : PairState) → next_call ran ≡ None → next_call (expired now limit ran) ≡ None
none_held now limit ran none = grind (arith, common_steps)

module _ (now limit : ℕ) (ran : PairState) where
  told_last : (call : Call) (reply : AnswerValue) (fault : Fault) → TellsOf call reply fault → FailsBy now limit ran (reply ∷ []) fault
  told_last call reply fault t = grind (arith, common_steps)

  told_later : (first : AnswerValue) (replies : List AnswerValue) (fault : Fault) → FailsBy now limit ran replies fault → FailsBy now limit ran (first ∷ replies) fault
  told_later first replies (Broken side call kind) last = (first ∷ last.0, ap (λ (xs : List AnswerValue). first ∷ xs) last.1)
  told_later first replies Idle last = last

  told_idle : (replies : List AnswerValue) (fault : Fault) → IsOverdue now limit ran → verdict.Failed Idle ≡ verdict.Failed fault → FailsBy now limit ran replies fault
  told_idle replies fault o e = grind (arith, common_steps)

  -- an answer that fails a pair is the last one, and names a call that failed
  fails_last : (q : PairState) (fault : Fault) → verdict q ≡ verdict.Failed fault → (replies : List AnswerValue) (p : PairState)
      → verdict p ≡ verdict.Live → over now p replies ≡ Some q → FailsBy now limit ran replies fault
  fails_last q fault failed [] p live h = let same : p ≡ q = cc in absurd (cc (ap verdict same))
  fails_last q fault failed (first ∷ []) p live h =
      let s = answers_are_to_next_calls now p q first (option_and_then_some (λ x. Some x) (answered now p first) q h (λ x is same. is ∙ same)) in
      told_last s.call first fault ((failures_are_told now p s.call first fault s.answers).0 (sym (ap verdict s.after_it) ∙ failed))
  fails_last q fault failed (first ∷ second ∷ rest) p live h =
      option_and_then_some (λ x. over now x (second ∷ rest)) (answered now p first) q h
      (λ x is more. option_and_then_some (λ y. over now y rest) (answered now x second) q more
      (λ y answer _. let s = answers_are_to_next_calls now x y second answer in
      told_later first (second ∷ rest) fault (fails_last q fault failed (second ∷ rest) x (live_call x s.call s.answers.next) more)))

  fails : (replies : List AnswerValue) (p : PairState) (fault : Fault) → over now p replies ≡ Some ran → verdict p ≡ verdict.Live → (b : Bool) → is_overdue now limit ran ≡ b
      → verdict (expired now limit ran) ≡ verdict.Failed fault → FailsBy now limit ran replies fault
  fails replies p fault run live true is failed =
      let held = only_overdue_pairs_expire now limit ran in
      let o = held.exact.0 is in told_idle replies fault o (sym (held.overdue o) ∙ failed)
  fails replies p fault run live false is failed =
      fails_last ran fault (sym (ap verdict ((only_overdue_pairs_expire now limit ran).other is)) ∙ failed) replies p live run

-- no call is left, or the budget is spent
spent : {m n : ℕ} (o : Option Call) → (o ≡ None) ⊎ (m ≡ n) → OnSome o (m ≡ n)
spent o why = grind (arith, common_steps)

pub ends : {now limit budget made : ℕ} {p ran q : PairState} {client target : Side → PairState → List AnswerValue → Type 0} → made ≤ budget
    → (next_call ran ≡ None) ⊎ (made ≡ budget) → q ≡ expired now limit ran → Runs made now p ran client target → IsTurn budget now limit p q client target
ends {now = now} {limit = limit} {p = p} {ran = ran} {q = q} few why held r = record {
  replies = r.replies;
  few = omega (arith, r.many, few);
  ran = ran;
  run = r.run;
  held = held;
  whole = spent (next_call q) (elim why [ inl none ↦ inl (ap next_call held ∙ none_held now limit ran none) | inr all ↦ inr (r.many ∙ all) ]);
  fails = λ fault live failed. fails now limit ran r.replies p fault r.run live (is_overdue now limit ran) refl (sym (ap verdict held) ∙ failed);
  by_client = r.by_client;
  by_target = r.by_target;
}
