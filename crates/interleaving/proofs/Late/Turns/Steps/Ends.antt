-- The two ends of the slot's connection over wires that rest, and the same ends where what is late has not come: what the
-- kernel does at one of them, and what is kept of both.
pub use Rattle.interleaving.{proofs.{Rest.Acts.Weights.{same_is, same_self}, Runs.run_on}, specs.{Threads.{Network, Spurious, System, Vanish, on_kernel, run, step}, Late.{Delay, Polling, Wire, comes, end_here, in_poll, is_input, on, report_of, seen_as, waits}}}
pub use Rattle.kernel_model.specs.{Ends.{EndState, arrival, failure, finish, is_readable, is_writable, new_room, opened}, Kernel.{KernelState, Registered, changed, end_at, open_both, reported}, Names.{are_distinct, has, same, with_name, without_name, without_names}, Outcome.{Told, guard}, declared.{both.Descriptors.Descriptors, reply.Reply.Reply}}
pub use Rattle.readiness.{proofs.Runs.{Heard, both_down, guarded, heard, mapped, some_is}, specs.Machine.{Call, WillBeTold, after_call, may_call, reads_then}}
pub use Rattle.std.{proofs.{Common.{Bool, Contains, List, None, Option, Some, [], ap, append-nil, arith, false, if◌then◌else◌, inl, inr, length, map, nat_le, not, option_and_then, option_map, refl, sym, true, unwrap_or, ℕ, ◌&&◌, ◌++◌, ◌==◌, ◌||◌, ◌∙◌, ◌∷◌, ◌≡◌, ◌≢◌, ◌⊎◌}, lemmas.{Bool.{and_parts, cases_eq, not-true, or_cases, or_left, or_parts, or_right}, Option.option_and_then_some}}, specs.{Cmp.{first_so, second_so}, List.{filter, list_all}, Option.{is_none, is_some}}}
pub use Rattle.token.specs.{Names.EndName, declared.{name.Name.{Name, TheVariants.{End, Listener, Waker}}, side.Side.{Side, TheVariants.{Client, Target}}}}
pub use Rattle.world.{proofs.Headline.Ends.Pairs.Holders.Events.Lists.{has_reported, has_with, has_without, reported_has}, specs.{Calls.{descriptor, when}, Steps.change_at, declared.event.{Change.{Change, TheVariants.{Arrive, Fin, Reset, Room}}, Reported.Reported}}}
pub use Rattle.interleaving.specs.Threads as alone
pub use Rattle.kernel_model.specs.Kernel as kernel
pub use Rattle.readiness.specs.Machine as machine
pub use Rattle.kernel_model.specs.declared.reply.Reply.TheVariants as reply
pub use Rattle.world.specs.declared.event.Reported.TheVariants as reports

-- Names

pub has_filter : (n : Name) (p : Name → Bool) (xs : List Name) → has n (filter p xs) ≡ true → (has n xs ≡ true) × (p n ≡ true)
has_filter n p [] h = cc
has_filter n p (x ∷ xs) h = let rest = has_filter n p xs in let is = same_is n x in grind arith

still_has : (n : Name) (p : Name → Bool) (xs : List Name) → has n xs ≡ true → p n ≡ true → has n (filter p xs) ≡ true
still_has n p [] h passes = cc
still_has n p (x ∷ xs) h passes = let rest = still_has n p xs in let is = same_is n x in grind arith

-- without the name m
pub has_less : (n m : Name) (xs : List Name) → has n (without_name m xs) ≡ true → (has n xs ≡ true) × (not (same m n) ≡ true)
has_less n m = has_filter n (λ x. not (same m x))

pub less_has : (n m : Name) (xs : List Name) → has n xs ≡ true → not (same m n) ≡ true → has n (without_name m xs) ≡ true
less_has n m = still_has n (λ x. not (same m x))

has_push : (n m : Name) (xs : List Name) → has n (xs ++ m ∷ []) ≡ true → (has n xs ≡ true) ⊎ (n ≡ m)
has_push n m [] h = let is = same_is n m in inr (grind arith)
has_push n m (x ∷ xs) h = let rest = has_push n m xs in grind arith

-- a name that is queued was so before, or is the one that is queued then
pub has_with_back : (n m : Name) (xs : List Name) → has n (with_name m xs) ≡ true → (has n xs ≡ true) ⊎ (n ≡ m)
has_with_back n m xs h = let push = has_push n m xs in grind arith

pub has_reported_back : (n m : Name) (b : Bool) (xs : List Name) → has n (reported xs m b) ≡ true → (has n xs ≡ true) ⊎ ((n ≡ m) × (b ≡ true))
has_reported_back n m b xs h = let back = has_with_back n m xs in grind arith

-- what is so of all names of a list
pub all_has : (p : Name → Bool) (n : Name) (xs : List Name) → list_all p xs ≡ true → has n xs ≡ true → p n ≡ true
all_has p n [] all h = cc
all_has p n (x ∷ xs) all h = let rest = all_has p n xs in let is = same_is n x in grind arith

-- The ends of the slot's connection of generation g, by side

abbrev pub two : Descriptors
two = record { client = 0; target = 1 }

abbrev pub token : ℕ → Side → EndName
token g side = record { slot = 0; side = side; generation = g }

abbrev pub open_as : ℕ → (Side → EndState) → List (Option Registered)
open_as g f = Some (record { token = token g Client; socket = f Client }) ∷ Some (record { token = token g Target; socket = f Target }) ∷ []

pub end_as : (g : ℕ) (f : Side → EndState) (side : Side) → end_at (open_as g f) (descriptor two side) ≡ Some (record { token = token g side; socket = f side })
end_as g f side = grind arith

pub on_here : {X : Type 0} (side : Side) (x : X) (f : Side → X) → on side x f side ≡ x
on_here side x f = grind arith

pub on_same : {X : Type 0} (side : Side) (f : Side → X) (j : Side) → on side (f side) f j ≡ f j
on_same side f j = grind arith

pub open_twice : (g : ℕ) (side : Side) (x y : EndState) (f : Side → EndState) → open_as g (on side y (on side x f)) ≡ open_as g (on side y f)
open_twice g side x y f = grind arith

pub open_same : (g : ℕ) (side : Side) (f : Side → EndState) → open_as g (on side (f side) f) ≡ open_as g f
open_same g side f = grind arith

pub changed_at : (k : KernelState) (g : ℕ) (f : Side → EndState) (side : Side) (change : EndState → Option (Told EndState Bool)) → k.ends ≡ open_as g f
    → changed k (descriptor two side) change
    ≡ option_map (λ (t : Told EndState Bool). record k { ends = open_as g (on side t.value f); queue = reported k.queue (End (token g side)) t.told }) (change (f side))
changed_at k g f side change is = grind arith

pub called_at : (k : KernelState) (g : ℕ) (f : Side → EndState) (side : Side) (call : EndState → Option EndState) → k.ends ≡ open_as g f
    → kernel.called k (descriptor two side) call ≡ option_map (λ (e : EndState). record k { ends = open_as g (on side e f) }) (call (f side))
called_at k g f side call is = grind arith

-- The network

abbrev pub is_short : Change → Bool
is_short (Arrive bytes) = nat_le (length bytes.items) 1024
is_short change = true

abbrev pub effect : Change → EndState → Option (Told EndState Bool)
effect (Arrive bytes) e = arrival e bytes.items
effect Fin e = finish e
effect Reset e = failure e
effect Room e = new_room e

abbrev pub at_end : KernelState → ℕ → (Side → EndState) → Side → Told EndState Bool → KernelState
at_end k g f side t = record k { ends = open_as g (on side t.value f); queue = reported k.queue (End (token g side)) t.told }

pub change_at_end : (k : KernelState) (g : ℕ) (f : Side → EndState) (side : Side) (c : Change) → k.ends ≡ open_as g f
    → change_at k (descriptor two side) c ≡ when (is_short c) (option_map (at_end k g f side) (effect c (f side)))
change_at_end k g f side (Arrive bytes) is = ap (when (is_short (Arrive bytes))) (changed_at k g f side (λ (e : EndState). arrival e bytes.items) is)
change_at_end k g f side Fin is = changed_at k g f side finish is
change_at_end k g f side Reset is = changed_at k g f side failure is
change_at_end k g f side Room is = changed_at k g f side new_room is

-- what such a step has done
pub net_back : {X Y Z : Type 0} (b : Bool) (F : X → Y) (G : Y → Z) (o : Option X) (z : Z) → option_map G (when b (option_map F o)) ≡ Some z
    → (b ≡ true) × (x : X) × (o ≡ Some x) × (z ≡ G (F x))
net_back b F G o z h = grind arith

pub network_here : (st : System) (g : ℕ) (f : Side → EndState) (side : Side) (c : Change) → st.ends ≡ Some two → st.kernel.ends ≡ open_as g f
    → step st (Network side c) ≡ option_map (λ (k : KernelState). record st { kernel = k }) (when (is_short c) (option_map (at_end st.kernel g f side) (effect c (f side))))
network_here st g f side c ends real = ap (λ (o : Option Descriptors). option_and_then (λ (ends : Descriptors). on_kernel st (change_at st.kernel (descriptor ends side) c)) o) ends
    ∙ ap (on_kernel st) (change_at_end st.kernel g f side c real)

-- what is late comes
pub network_there : (st : System) (g : ℕ) (s : Side → EndState) (q b : List Name) (side : Side) (c : Change) (t : Told EndState Bool) → st.ends ≡ Some two → is_short c ≡ true
    → effect c (s side) ≡ Some t → step (seen_as st (open_as g s) q b) (Network side c) ≡ Some (seen_as st (open_as g (on side t.value s)) (reported q (End (token g side)) t.told) b)
network_there st g s q b side c t ends fit is =
    rw (ends, change_at_end (record st.kernel { ends = open_as g s; queue = q }) g s side c refl, fit, is) refl

abbrev pub may_come : Change → Bool
may_come c = is_input c && is_short c

-- it leads to the socket f; more is queued, and only this end's name
pub record Came (st : System) (g : ℕ) (s : Side → EndState) (q b : List Name) (side : Side) (late : List Change) (f : EndState) : Type 0 where
  pub queue : List Name
  pub leads : run (seen_as st (open_as g s) q b) (map (Network side) late) ≡ Some (seen_as st (open_as g (on side f s)) queue b)
  pub back : (m : Name) → has m queue ≡ true → (has m q ≡ true) ⊎ (m ≡ End (token g side))
  pub none : late ≡ [] → queue ≡ q

-- What is late leads from one socket to another
pub data Settles : EndState → List Change → EndState → Type 0 where
  Settled : {e : EndState} → Settles e [] e
  After : {e f : EndState} {c : Change} {late : List Change} (t : Told EndState Bool) → may_come c ≡ true → effect c e ≡ Some t → Settles t.value late f → Settles e (c ∷ late) f

come : (st : System) (g : ℕ) (s : Side → EndState) (q b : List Name) (side : Side) (x f : EndState) (late : List Change) → st.ends ≡ Some two → Settles x late f
    → Came st g (on side x s) q b side late f
come st g s q b side x f [] ends Settled =
    record { queue = q; leads = rw (open_twice g side x x s) refl; back = λ m h. inl h; none = λ e. refl }
come st g s q b side x f (c ∷ late) ends (After t may is rest) =
    let effect_is : effect c (on side x s side) ≡ Some t = rw (on_here side x s) is in
    let one = network_there st g (on side x s) q b side c t ends (and_parts _ _ may).1 effect_is in
    let r = come st g s (reported q (End (token g side)) t.told) b side t.value f late ends rest in
    record {
      queue = r.queue;
      leads = rw (one, open_twice g side x t.value s) (r.leads ∙ rw (open_twice g side t.value f s, open_twice g side x f s) refl);
      back = λ m h. elim (r.back m h) [
        | inl was ↦ elim (has_reported_back m (End (token g side)) t.told q was) [ inl old ↦ inl old | inr new ↦ inr new.0 ]
        | inr is ↦ inr is
      ];
      none = λ e. cc;
    }

pub comes_at : (st : System) (g : ℕ) (s : Side → EndState) (q b : List Name) (side : Side) (f : EndState) (late : List Change) → st.ends ≡ Some two → Settles (s side) late f
    → Came st g s q b side late f
comes_at st g s q b side f late ends due =
    let r = come st g s q b side (s side) f late ends due in
    record { queue = r.queue; leads = rw (open_same g side s, open_twice g side (s side) f s) at r.leads; back = r.back; none = r.none }

-- An end with its wire

-- a report that names reading is queued, or taken and not passed on yet
abbrev pub soon : Option Polling → Name → Bool
soon None n = false
soon (Some p) n = has n p.left && p.reading n

abbrev pub coming : List Name → Option Polling → Name → Bool
coming queue poll n = has n queue || soon poll n

-- one change more is late
settle_more : {e f : EndState} {late : List Change} (c : Change) (t : Told EndState Bool) → Settles e late f → may_come c ≡ true → effect c f ≡ Some t → Settles e (late ++ c ∷ []) t.value
settle_more c t Settled may is = After t may is Settled
settle_more c t (After u first one rest) may is = After u first one (settle_more c t rest may is)

-- while nothing is late, the two sockets are one
same_socket : {e f : EndState} {late : List Change} → Settles e late f → late ≡ [] → e ≡ f
same_socket Settled none = refl
same_socket (After t may is rest) none = cc

-- What happens to the other direction: room comes, or a call other than a read has an answer that is no failure. It comes
-- to the same before a change that concerns reading as after it, and leaves what can be read

abbrev goes : Change → EndState → Option EndState
goes c e = option_map (λ (t : Told EndState Bool). t.value) (effect c e)

abbrev Crosses : (EndState → Option (Told EndState Bool)) → Type 0
Crosses does = (c : Change) (e t : EndState) (u : Told EndState Bool) → is_input c ≡ true → goes c e ≡ Some t → does t ≡ Some u
    → let v = unwrap_or (does e) u in (does e ≡ Some v) × (v.told ≡ u.told) × (goes c v.value ≡ Some u.value)

record IsAside (does : EndState → Option (Told EndState Bool)) : Type 0 where
  crosses : Crosses does
  beside : (e : EndState) (u : Told EndState Bool) → does e ≡ Some u
      → (is_readable u.value ≡ is_readable e) × (u.value.read_armed ≡ e.read_armed)

abbrev pub is_failed : Reply → Bool
is_failed (reply.Failed kind) = true
is_failed r = false

abbrev answered : Call → Reply → EndState → Option (Told EndState Bool)
answered call r e = option_map (λ (f : EndState). record { value = f; told = false }) (after_call e call r)

room_crosses : Crosses new_room
room_crosses c e t u in_ is does = grind arith

call_crosses : (call : Call) (r : Reply) → may_call false call ≡ true → is_failed r ≡ false → Crosses (answered call r)
call_crosses call r other sound c e t u in_ is does = grind arith

room_beside : (e : EndState) (u : Told EndState Bool) → new_room e ≡ Some u
    → (is_readable u.value ≡ is_readable e) × (u.value.read_armed ≡ e.read_armed)
room_beside e u is = grind arith

call_beside : (call : Call) (r : Reply) → may_call false call ≡ true → is_failed r ≡ false → (e : EndState) (u : Told EndState Bool)
    → answered call r e ≡ Some u → (is_readable u.value ≡ is_readable e) × (u.value.read_armed ≡ e.read_armed)
call_beside call r other sound e u is = grind arith

-- so it may come before all that is late
settle_aside : {does : EndState → Option (Told EndState Bool)} {e f : EndState} {late : List Change} {u : Told EndState Bool} → IsAside does
    → Settles e late f → does f ≡ Some u → (v : Told EndState Bool) × (does e ≡ Some v) × (v.told ≡ u.told) × Settles v.value late u.value
settle_aside {u = u} aside Settled is = (u, is, refl, Settled)
settle_aside aside (After {e = e} {c = c} t may made rest) is =
    let r = settle_aside aside rest is in
    let x = aside.crosses c e t.value r.0 (and_parts (is_input c) _ may).0 (rw made refl) r.1 in
    mapped _ _ _ x.2 (λ next comes same. (_, x.0, x.1 ∙ r.2, After next may comes (rw same at r.3)))

-- there is nothing to read, and the system reports what comes next
pub record Rests (e : EndState) : Type 0 where
  pub empty : is_readable e ≡ false
  pub armed : e.read_armed ≡ true

-- the wire does not read, and there is something to read, whose report will be passed on to it
pub record Asleep (e : EndState) (comes : Bool) (wire : Wire) : Type 0 where
  pub reads : wire.reads ≡ false
  pub told : wire.told ≡ false
  pub readable : is_readable e ≡ true
  pub coming : comes ≡ true

-- nothing is late but while the wire is asleep
pub data Waits (e : EndState) (comes : Bool) (wire : Wire) (late : List Change) : Type 0 where
  Prompt : late ≡ [] → Waits e comes wire late
  Behind : Asleep e comes wire → Waits e comes wire late

-- the socket is e, and x where this is late; `comes` says whether a report is coming
pub record EndOk (e : EndState) (comes : Bool) (wire : Wire) (late : List Change) (x : EndState) : Type 0 where
  pub due : Settles x late e
  pub waits : Waits e comes wire late
  pub rests : wire.reads ≡ false → wire.told ≡ false → Rests x

-- what waits still does
on_still : {e f : EndState} {b c : Bool} {wire next : Wire} {late : List Change} → (Asleep e b wire → Asleep f c next) → Waits e b wire late → Waits f c next late
on_still on (Prompt none) = Prompt none
on_still on (Behind asleep) = Behind (on asleep)

-- where more comes
pub eased : {e x : EndState} {b c : Bool} {wire : Wire} {late : List Change} → (is_readable e ≡ true → b ≡ true → c ≡ true) → EndOk e b wire late x → EndOk e c wire late x
eased more ok = record { due = ok.due; waits = on_still (λ a. record { reads = a.reads; told = a.told; readable = a.readable; coming = more a.readable a.coming }) ok.waits; rests = ok.rests }

-- the wire reads or has heard: nothing is late
pub awake : (e : EndState) (b : Bool) (wire : Wire) → (wire.reads ≡ true) ⊎ (wire.told ≡ true) → EndOk e b wire [] e
awake e b wire up = record { due = Settled; waits = Prompt refl; rests = λ reads told. elim up [ inl r ↦ cc | inr t ↦ cc ] }

-- nothing is late where the wire reads or has heard, or where there is nothing to read
pub same_here : {e x : EndState} {b : Bool} {wire : Wire} {late : List Change} → EndOk e b wire late x → (wire.reads ≡ false → wire.told ≡ false → is_readable e ≡ true → ⊥) → (late ≡ []) × (x ≡ e)
same_here ok never = elim ok.waits [
  | Prompt none ↦ (none, same_socket ok.due none)
  | Behind a ↦ absurd (never a.reads a.told a.readable)
]

-- what is late is reported
pub told_soon : {e x : EndState} {b : Bool} {wire : Wire} {late : List Change} → EndOk e b wire late x → late ≢ [] → b ≡ true
told_soon ok some = elim ok.waits [ Prompt none ↦ absurd (some none) | Behind a ↦ a.coming ]

-- nothing is missed
pub missed : {e x : EndState} {b : Bool} {wire : Wire} {late : List Change} → EndOk e b wire late x → wire.reads ≡ false → wire.told ≡ false
    → (is_readable e ≡ false → e.read_armed ≡ true) × (is_readable e ≡ true → b ≡ true)
missed ok reads told = elim ok.waits [
  | Prompt none ↦ (let rests = rw (same_socket ok.due none) at (ok.rests reads told) in
      (λ empty. rests.armed, λ some. (let never = rests.empty in cc)))
  | Behind a ↦ (λ empty. (let never = a.readable in cc), λ some. a.coming)
]

-- after a change that concerns reading there is something to read, and it is reported if the last read would have blocked
heard_at : (c : Change) (e : EndState) (t : Told EndState Bool) → may_come c ≡ true → effect c e ≡ Some t → Heard e t
heard_at (Arrive bytes) e t may is = heard (machine.Bytes bytes.items) e t is
heard_at Fin e t may is = heard machine.Fin e t is
heard_at Reset e t may is = heard machine.Error e t is
heard_at Room e t may is = cc

-- a call that does not fail has the same reply there
pub record Answered (x : EndState) (b : Bool) (wire : Wire) (late : List Change) (f : EndState) (call : Call) (r : Reply) : Type 0 where
  pub there : EndState
  pub is : after_call x call r ≡ Some there
  pub ok : EndOk f b (record wire { reads = reads_then wire.reads call r }) late there

-- a change that does not wait comes there too
pub record Moved (e x : EndState) (b : Bool) (wire : Wire) (late : List Change) (c : Change) (t : Told EndState Bool) : Type 0 where
  pub there : Told EndState Bool
  pub is : effect c x ≡ Some there
  pub told : there.told ≡ t.told
  pub ok : EndOk t.value (b || t.told) wire late there.value

module _ {e x : EndState} {b : Bool} {wire : Wire} {late : List Change} (ok : EndOk e b wire late x) where
  comes_now : (c : Change) (t : Told EndState Bool) → effect c e ≡ Some t → (not wire.reads && not wire.told) ≡ false → Moved e x b wire late c t
  comes_now c t is up =
      let same = same_here ok (λ reads told some. cc) in
      let awoken : (wire.reads ≡ true) ⊎ (wire.told ≡ true) = grind arith in
      record { there = t; is = rw same.1 is; told = refl; ok = rw same.0 (awake t.value (b || t.told) wire awoken) }

  -- what happens to the other direction alone
  aside_ok : {does : EndState → Option (Told EndState Bool)} → IsAside does → (u : Told EndState Bool) → does e ≡ Some u → (c : Bool)
      → (b ≡ true → c ≡ true) → (v : Told EndState Bool) × (does x ≡ Some v) × (v.told ≡ u.told) × EndOk u.value c wire late v.value
  aside_ok aside u is c more =
      let d = settle_aside aside ok.due is in
      let here = aside.beside e u is in
      let there = aside.beside x d.0 d.1 in (
        d.0,
        d.1,
        d.2,
        record {
          due = d.3;
          waits = on_still (λ a. record { reads = a.reads; told = a.told; readable = here.0 ∙ a.readable; coming = more a.coming }) ok.waits;
          rests = λ reads told. (let r = ok.rests reads told in record { empty = there.0 ∙ r.empty; armed = there.1 ∙ r.armed });
        },
      )

  pub moves : (c : Change) (t : Told EndState Bool) → effect c e ≡ Some t → waits wire c ≡ false → Moved e x b wire late c t
  moves Room t is up =
      let room : IsAside new_room = record { crosses = room_crosses; beside = room_beside } in
      let a = aside_ok room t is (b || t.told) (or_left b t.told) in
      record { there = a.0; is = a.1; told = a.2; ok = a.3 }
  moves c t is up = comes_now c t is up

  -- one that waits is late
  pub waited : (c : Change) (t : Told EndState Bool) → effect c e ≡ Some t → is_short c ≡ true → waits wire c ≡ true → EndOk t.value (b || t.told) wire (late ++ c ∷ []) x
  waited c t is fit wait =
      let parts = and_parts (is_input c) (not wire.reads && not wire.told) wait in
      let may : may_come c ≡ true = rw (parts.0, fit) refl in
      let asleep = both_down wire.reads wire.told parts.1 in
      let h = heard_at c e t may is in
      let coming : (b || t.told) ≡ true = elim ok.waits [
        | Prompt none ↦ or_right _ t.told (h.told (rw (same_socket ok.due none) at (ok.rests asleep.0 asleep.1).armed))
        | Behind a ↦ or_left _ t.told a.coming
      ] in
      record {
        due = settle_more c t ok.due may is;
        waits = Behind (record { reads = asleep.0; told = asleep.1; readable = h.readable; coming = coming });
        rests = ok.rests;
      }

  -- a read: the wire reads, so nothing is late
  reads_now : (f : EndState) (most : ℕ) (r : Reply) → wire.reads ≡ true → after_call e (machine.Read most) r ≡ Some f → (reads_then wire.reads (machine.Read most) r ≡ false → Rests f)
      → Answered x b wire late f (machine.Read most) r
  reads_now f most r up is rests =
      let same = same_here ok (λ reads told some. cc) in
      record { there = f; is = rw same.1 is; ok = rw same.0 (record { due = Settled; waits = Prompt refl; rests = λ reads told. rests reads }) }

  other_call : (f : EndState) (call : Call) (r : Reply) → may_call false call ≡ true → after_call e call r ≡ Some f → is_failed r ≡ false → reads_then wire.reads call r ≡ wire.reads
      → Answered x b wire late f call r
  other_call f call r other is sound same =
      let call_aside : IsAside (answered call r) =
      record { crosses = call_crosses call r other sound; beside = call_beside call r other sound } in
      let a = aside_ok call_aside (record { value = f; told = false }) (rw is refl) b (λ h. h) in
      mapped _ _ _ a.1 (λ there comes value. record { there = there; is = comes; ok = rw same (rw value at a.3) })

  pub answers : (f : EndState) (call : Call) (r : Reply) → may_call wire.reads call ≡ true → after_call e call r ≡ Some f → is_failed r ≡ false → Answered x b wire late f call r
  answers f (machine.Read most) reply.Blocked up is sound =
      let g = guarded _ _ _ is in
      reads_now f most reply.Blocked up is (λ asleep. rw g.1 (record { empty = not-true _ g.0; armed = refl }))
  answers f call (reply.Failed kind) up is sound = cc
  answers f (machine.Read most) r up is sound = reads_now f most r up is (λ asleep. cc)
  answers f call r up is sound = other_call f call r refl is sound refl

  -- a read that the wire answers by itself would block there
  pub would_block : (most : ℕ) → wire.reads ≡ false → wire.told ≡ false → after_call x (machine.Read most) reply.Blocked ≡ Some x
  would_block most reads told =
      let rests = ok.rests reads told in
      rw (rests.empty, ap (λ a. record x { read_armed = a }) (sym rests.armed)) refl

  pub looks : EndOk e b (record { reads = wire.reads || wire.told; told = false }) late x
  looks = record {
    due = ok.due;
    waits = on_still (λ a. record { reads = rw (a.reads, a.told) refl; told = refl; readable = a.readable; coming = a.coming }) ok.waits;
    rests = λ reads told. (let none = or_parts _ _ reads in ok.rests none.0 none.1);
  }

-- One end becomes another, and of the other end no less is coming
pub changed_end : (g : ℕ) (queue : List Name) (poll : Option Polling) (next : List Name) (after : Option Polling) (side : Side) {f s : Side → EndState} {wires : Side → Wire}
    {late : Side → List Change} {e x : EndState} {wire : Wire} {more : List Change} → EndOk e (coming next after (End (token g side))) wire more x
    → ((j : Side) → (j ≡ side → ⊥) → is_readable (f j) ≡ true → coming queue poll (End (token g j)) ≡ true → coming next after (End (token g j)) ≡ true)
    → ((j : Side) → EndOk (f j) (coming queue poll (End (token g j))) (wires j) (late j) (s j))
    → (j : Side) → EndOk (on side e f j) (coming next after (End (token g j))) (on side wire wires j) (on side more late j) (on side x s j)
changed_end g queue poll next after Client here beside all Client = here
changed_end g queue poll next after Client here beside all Target = eased (beside Target (λ is. cc)) (all Target)
changed_end g queue poll next after Target here beside all Client = eased (beside Client (λ is. cc)) (all Client)
changed_end g queue poll next after Target here beside all Target = here

-- What is kept

-- what the threads see of the kernel, and the batch
pub record Rim : Type 0 where
  pub ends : Option Descriptors
  pub sockets : List (Option Registered)
  pub queue : List Name
  pub batch : List Name

abbrev pub rim : System → Rim
rim st = record { ends = st.ends; sockets = st.kernel.ends; queue = st.kernel.queue; batch = st.batch }

-- a name of the slot, which has a connection of this generation, or none
abbrev pub is_named : Option ℕ → Name → Bool
is_named o Listener = true
is_named o Waker = true
is_named None (End n) = false
is_named (Some g) (End n) = same (End (token g n.side)) (End n)

pub record AllNamed (o : Option ℕ) (names : List Name) : Type 0 where
  pub each : (n : Name) → has n names ≡ true → is_named o n ≡ true

-- the sockets here and there
pub data Both (r : Rim) (wires : Side → Wire) (poll : Option Polling) (late : Side → List Change) (there : List (Option Registered)) : Option ℕ → Type 0 where
  Away : r.ends ≡ None → r.sockets ≡ there → (there ≡ []) ⊎ (there ≡ None ∷ None ∷ []) → ((side : Side) → late side ≡ []) → Both r wires poll late there None
  Opened : {g : ℕ} (f s : Side → EndState) → r.ends ≡ Some two → r.sockets ≡ open_as g f → there ≡ open_as g s
      → ((side : Side) → EndOk (f side) (coming r.queue poll (End (token g side))) (wires side) (late side) (s side)) → Both r wires poll late there (Some g)

-- a poll in progress, whose names are the slot's, if it was not handed over before the slot's sockets closed
pub data Polls (batch : List Name) (early : Bool) (o : Option ℕ) : Option Polling → Type 0 where
  Idle : Polls batch early o None
  Busy : {p : Polling} → batch ≡ [] → nat_le (length p.names.items) 256 ≡ true → are_distinct p.names.items ≡ true → (early ≡ false → AllNamed o p.names.items)
      → (early ≡ true → o ≡ None) → ((n : Name) → has n p.left ≡ true → has n p.names.items ≡ true) → Polls batch early o (Some p)

pub record Joined (r : Rim) (wires : Side → Wire) (poll : Option Polling) (d : Delay) (there : List (Option Registered)) (queue : List Name) : Type 0 where
  pub generation : Option ℕ
  pub ends : Both r wires poll d.late there generation
  pub known : AllNamed generation r.queue
  pub polls : Polls r.batch d.early generation poll
  pub on_way : (n : Name) → has n queue ≡ true → (has n r.queue || in_poll d.early poll n) ≡ true

-- What is queued

pub more_or : (a b c : Bool) → (a ≡ true → b ≡ true) → (a || c) ≡ true → (b || c) ≡ true
more_or a b c more h = grind arith

pub way_reported : (n : Name) (t : Bool) (real q : List Name) (also : Name → Bool) → ((m : Name) → has m q ≡ true → (has m real || also m) ≡ true)
    → (m : Name) → has m (reported q n t) ≡ true → (has m (reported real n t) || also m) ≡ true
way_reported n t real q also way m h =
    let back = has_reported_back m n t q h in
    grind (arith, way m, has_reported m n t real, reported_has n t real)

pub known_reported : {o : Option ℕ} (n : Name) (t : Bool) (queue : List Name) → is_named o n ≡ true → AllNamed o queue → AllNamed o (reported queue n t)
known_reported {o} n t queue here all = record { each = λ m h. elim (has_reported_back m n t queue h) [ inl was ↦ all.each m was | inr new ↦ rw new.0 here ] }

pub known_filter : {o : Option ℕ} (p : Name → Bool) (queue : List Name) → AllNamed o queue → AllNamed o (filter p queue)
known_filter p queue all = record { each = λ m h. all.each m (has_filter m p queue h).0 }

-- what is reported is coming
pub coming_told : (n : Name) (t : Bool) (queue : List Name) (poll : Option Polling) → (coming queue poll n || t) ≡ true → coming (reported queue n t) poll n ≡ true
coming_told n t queue poll h = grind (arith, has_reported n n t queue, reported_has n t queue)

pub coming_still : (n m : Name) (t : Bool) (queue : List Name) (poll : Option Polling) → coming queue poll m ≡ true → coming (reported queue n t) poll m ≡ true
coming_still n m t queue poll = more_or (has m queue) (has m (reported queue n t)) (soon poll m) (has_reported m n t queue)

-- Reports without cause, and polls

-- the slot's connection, with its generation and its sockets
abbrev pub Shape : Option Descriptors → List (Option Registered) → Option (ℕ × (Side → EndState)) → Type 0
Shape ends sockets None = ends ≡ None
Shape ends sockets (Some x) = (ends ≡ Some two) × (sockets ≡ open_as x.0 x.1)

abbrev pub generation_of : Option (ℕ × (Side → EndState)) → Option ℕ
generation_of o = option_map (λ (x : ℕ × (Side → EndState)). x.0) o

abbrev pub name_here : Option ℕ → Reported → Option Name
name_here o reports.Listener = Some Listener
name_here o reports.Waker = Some Waker
name_here o (reports.End s side) = option_map (λ (g : ℕ). End (token g side)) o

pub named_here : (o : Option ℕ) (who : Reported) (n : Name) → name_here o who ≡ Some n → is_named o n ≡ true
named_here o who n is = grind (arith, same_self)

abbrev pub queue_more : System → Name → System
queue_more st n = record st { kernel = record st.kernel { queue = with_name n st.kernel.queue } }

pub spurious_is : (st : System) (o : Option (ℕ × (Side → EndState))) → Shape st.ends st.kernel.ends o → (who : Reported)
    → step st (Spurious who) ≡ option_map (queue_more st) (name_here (generation_of o) who)
spurious_is st o shape reports.Listener = refl
spurious_is st o shape reports.Waker = refl
spurious_is st None shape (reports.End s side) = rw shape refl
spurious_is st (Some x) shape (reports.End s side) = rw (shape.0, shape.1, end_as x.0 x.1 side) refl

abbrev pub quiet_here : ℕ → Option (ℕ × (Side → EndState)) → Reported → Bool
quiet_here backlog o reports.Listener = backlog == 0
quiet_here backlog o reports.Waker = true
quiet_here backlog None (reports.End s side) = true
quiet_here backlog (Some x) (reports.End s side) = not (is_readable (x.1 side) || is_writable (x.1 side))

abbrev pub queue_less : System → Name → System
queue_less st n = record st { kernel = record st.kernel { queue = without_name n st.kernel.queue } }

over_guard : {X Y : Type 0} (b : Bool) (F : X → Y) (x : X) → option_map F (guard b x) ≡ guard b (F x)
over_guard b F x = grind arith

pub vanish_is : (st : System) (o : Option (ℕ × (Side → EndState))) → Shape st.ends st.kernel.ends o → (who : Reported) → step st (Vanish who)
    ≡ option_and_then (λ (n : Name). guard (has n st.kernel.queue && quiet_here st.kernel.backlog o who) (queue_less st n)) (name_here (generation_of o) who)
vanish_is st o shape reports.Listener = over_guard _ _ _
vanish_is st o shape reports.Waker = over_guard _ _ _
vanish_is st None shape (reports.End s side) = rw shape refl
vanish_is st (Some x) shape (reports.End s side) = rw (shape.0, shape.1, end_as x.0 x.1 side) (over_guard _ _ _)

pub has_itself : (n : Name) (q : List Name) → has n (with_name n q) ≡ true
has_itself n q = reported_has n true q refl

pub all_from : (p : Name → Bool) (xs : List Name) → ((n : Name) → has n xs ≡ true → p n ≡ true) → list_all p xs ≡ true
all_from p [] each = refl
all_from p (x ∷ xs) each = rw (each x (or_left _ (has x xs) (same_self x))) (all_from p xs (λ n h. each n (or_right _ _ h)))

-- each of these names is reported without cause
pub record Reports (st : System) (e : List (Option Registered)) (q b : List Name) (names : List Name) : Type 0 where
  pub queue : List Name
  pub leads : (more : List alone.Step) → run (seen_as st e q b) (map report_of names ++ more) ≡ run (seen_as st e queue b) more
  pub has_all : (n : Name) → has n names ≡ true → has n queue ≡ true
  pub keeps : (n : Name) → has n q ≡ true → has n queue ≡ true
  pub back : (n : Name) → has n queue ≡ true → (has n q ≡ true) ⊎ (has n names ≡ true)

report_here : (st : System) (o : Option (ℕ × (Side → EndState))) → Shape st.ends st.kernel.ends o → (n : Name) → is_named (generation_of o) n ≡ true → step st (report_of n) ≡ Some (queue_more st n)
report_here st o shape Listener is = refl
report_here st o shape Waker is = refl
report_here st None shape (End n) is = cc
report_here st (Some x) shape (End n) is = spurious_is st (Some x) shape (reports.End 0 n.side) ∙ ap (λ (m : Name). Some (queue_more st m)) (same_is (End (token x.0 n.side)) (End n) is)

pub reports_all : (st : System) (e : List (Option Registered)) (q b : List Name) (o : Option (ℕ × (Side → EndState))) → Shape st.ends e o → (names : List Name) → AllNamed (generation_of o) names
    → Reports st e q b names
reports_all st e q b o shape [] named = record { queue = q; leads = λ more. refl; has_all = λ n h. cc; keeps = λ n h. h; back = λ n h. inl h }
reports_all st e q b o shape (n ∷ names) named =
    let one = report_here (seen_as st e q b) o shape n (named.each n (or_left (same n n) _ (same_self n))) in
    let r = reports_all st e (with_name n q) b o shape names (record { each = λ m h. named.each m (or_right (same m n) _ h) }) in
    record {
      queue = r.queue;
      leads = λ more. rw one (r.leads more);
      has_all = λ m h. elim (or_cases (same m n) (has m names) h) [ inl is ↦ r.keeps m (rw (same_is m n is) (has_itself n q)) | inr later ↦ r.has_all m later ];
      keeps = λ m h. r.keeps m (has_with m n q h);
      back = λ m h. elim (r.back m h) [
        | inl was ↦ elim (has_with_back m n q was) [ inl old ↦ inl old | inr is ↦ inr (or_left _ (has m names) (rw is (same_self n))) ]
        | inr later ↦ inr (or_right (same m n) _ later)
      ];
    }

pub not_in : (early : Bool) (n : Name) → in_poll early None n ≡ false
not_in early n = grind arith

-- what is coming to an end is on its way
pub coming_way : {batch : List Name} {early : Bool} {g : ℕ} {poll : Option Polling} (queue : List Name) (n : Name) → Polls batch early (Some g) poll → coming queue poll n ≡ true
    → (has n queue || in_poll early poll n) ≡ true
coming_way {early = early} queue n Idle h = let was : has n queue ≡ true = grind arith in or_left (has n queue) (in_poll early None n) was
coming_way {early = false} queue n (Busy {p} none few once named gone within) h = elim (or_cases (has n queue) (soon (Some p) n) h) [
  | inl was ↦ or_left _ _ was
  | inr taken ↦ or_right _ _ (within n (first_so (has n p.left) _ taken))
]
coming_way {early = true} queue n (Busy none few once named gone within) h = let never = gone refl in cc

-- once what is late has come, what is queued there is on its way
pub came_way : {st : System} {g : ℕ} {s : Side
    → EndState} {q b : List Name} {side : Side} {late : List Change} {f e x : EndState} {wire : Wire} {early : Bool} {poll : Option Polling} {batch : List Name} (queue : List Name)
    → Polls batch early (Some g) poll → EndOk e (coming queue poll (End (token g side))) wire late x → ((m : Name) → has m q ≡ true → (has m queue || in_poll early poll m) ≡ true)
    → (c : Came st g s q b side late f) → (m : Name) → has m c.queue ≡ true → (has m queue || in_poll early poll m) ≡ true
came_way {g = g} {side = side} queue polls ok way c m h = elim ok.waits [
  | Prompt none ↦ way m (rw (c.none none) at h)
  | Behind a ↦ elim (c.back m h) [ inl was ↦ way m was | inr is ↦ rw is (coming_way queue (End (token g side)) polls a.coming) ]
]

-- all that is late comes
pub record All_come (st : System) (g : ℕ) (f s : Side → EndState) (q b : List Name) (late : Side → List Change) : Type 0 where
  pub queue : List Name
  pub leads : run (seen_as st (open_as g s) q b) (comes late (Client ∷ Target ∷ [])) ≡ Some (seen_as st (open_as g f) queue b)
  pub back : (m : Name) → has m queue ≡ true → not (same (End (token g Client)) m) ≡ true → not (same (End (token g Target)) m) ≡ true → has m q ≡ true

not_it : (n m : Name) → not (same n m) ≡ true → m ≡ n → ⊥
not_it n m other is = let never = rw (is, same_self n) at other in cc

pub all_come : (g : ℕ) {late : Side → List Change} {wires : Side → Wire} {coming : Side → Bool} (st : System) (q b : List Name) (f s : Side → EndState) → st.ends ≡ Some two
    → ((side : Side) → EndOk (f side) (coming side) (wires side) (late side) (s side)) → All_come st g f s q b late
all_come g {late} st q b f s ends oks =
    let c1 = comes_at st g s q b Client (f Client) (late Client) ends (oks Client).due in
    let c2 = comes_at st g (on Client (f Client) s) c1.queue b Target (f Target) (late Target) ends (oks Target).due in
    record {
      queue = c2.queue;
      leads = rw (append-nil (map (Network Target) (late Target))) (run_on (map (Network Client) (late Client)) _ _ _ c1.leads ∙ c2.leads);
      back = λ m h client target.
          let first : has m c1.queue ≡ true = elim (c2.back m h) [ inl was ↦ was | inr is ↦ absurd (not_it _ _ target is) ] in
          elim (c1.back m first) [ inl was ↦ was | inr is ↦ absurd (not_it _ _ client is) ];
    }
