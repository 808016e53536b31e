-- What every step keeps of a wire, its socket and its reports, and so what holds after any list of steps.
use Rattle.std.{proofs.{Common.{◌≡◌, ◌⊎◌, Bool, true, false, ◌||◌, List, [], ◌∷◌, ◌++◌, ℕ, None, Option, Some, refl, ◌∙◌, inl, inr, not, ◌&&◌, zero, suc, length, Contains, option_map, sym, length-append, lt-ltb, ltb-true, arith}, lemmas.{Bool.{or_left, not-true, or_parts, or_right}, List.Elements.Contains-push, Option.option_and_then_some}}, specs.Cmp.{first_so, second_so}}
use Rattle.kernel_model.specs.{Ends.{EndState, is_readable, is_nonempty, is_writable, new_room}, Outcome.{Told, guard}, declared.reply.Reply.Reply}
use Rattle.readiness.specs.Machine.{Bytes, Call, Calls, Change, Comes, Error, Fin, HasRoom, IsCovered, Join, Looks, MissesNothing, Old, Polled, Read, Shut, Spurious, Step, Tells, Unasked, Vanished, Way, WillBeTold, WiresMissNothing, Write, after_call, end_changed, end_is_quiet, may_call, new_way, reads_then, run, step, tells}
use Rattle.token.specs.declared.{kind.Kind.Kind}
use Rattle.kernel_model.specs.declared.reply.Reply.TheVariants as reply

-- what a test let through
pub guarded : {X : Type 0} (b : Bool) (x y : X) → guard b x ≡ Some y → (b ≡ true) × (y ≡ x)
guarded true x y h = (refl, cc)
guarded false x y h = cc

pub some_is : {X : Type 0} {x y : X} → Some x ≡ Some y → y ≡ x
some_is h = cc

-- the value that became this one
pub mapped : {X Y Z : Type 0} (f : X → Y) (o : Option X) (y : Y) → option_map f o ≡ Some y → ((x : X) → o ≡ Some x → y ≡ f x → Z) → Z
mapped f None y h next = cc
mapped f (Some x) y h next = next x refl (some_is h)

pub both_down : (a b : Bool) → (not a && not b) ≡ true → (a ≡ false) × (b ≡ false)
both_down a b h = (not-true a (first_so (not a) (not b) h), not-true b (second_so (not a) (not b) h))

-- after each change there is something to read, and it is reported if the last read would have blocked
pub record Heard (e : EndState) (t : Told EndState Bool) : Type 0 where
  pub readable : is_readable t.value ≡ true
  pub told : e.read_armed ≡ true → t.told ≡ true

nonempty_more : (xs ys : List ℕ) → is_nonempty ys ≡ true → is_nonempty (xs ++ ys) ≡ true
nonempty_more xs ys h =
    let some = ltb-true 0 (length ys) h in
    let all = length-append xs ys in
    lt-ltb 0 (length (xs ++ ys)) (omega arith)

pub heard : (c : Change) (e : EndState) (t : Told EndState Bool) → end_changed e c ≡ Some t → Heard e t
heard (Bytes bytes) e t h =
    let g = guarded _ _ t h in
    rw g.1 (record { readable = or_left _ (e.fin || e.err) (nonempty_more e.unread bytes (first_so (is_nonempty bytes) _ g.0)); told = λ armed. armed })
heard Fin e t h = rw (guarded _ _ t h).1 (record { readable = or_right (is_nonempty e.unread) true refl; told = λ armed. armed })
heard Error e t h = rw (guarded _ _ t h).1 (record { readable = or_right (is_nonempty e.unread) _ (or_right e.fin true refl); told = or_left e.read_armed e.write_armed })

pub failed_reads : (reads : Bool) (call : Call) (kind : Kind) → reads_then reads call (reply.Failed kind) ≡ true
failed_reads reads (Read most) kind = refl
failed_reads reads _ kind = refl

-- what a poll takes names reading if there is something to read
named : (readable names : Bool) → (not readable || names) ≡ true → readable ≡ true → names ≡ true
named true names h is = h
named false names h is = cc

-- a report that does not name reading is passed on
behind_first : {X : Type 0} (rest : List Bool) → X ⊎ Contains (false ∷ rest) true → X ⊎ Contains rest true
behind_first rest (inl queued) = inl queued
behind_first rest (inr (zero, below, is)) = cc
behind_first rest (inr (suc k, below, is)) = inr (k, omega arith, is)

still_coming : {X : Type 0} (queued told : Bool) → (queued ≡ true) ⊎ X → ((queued || told) ≡ true) ⊎ X
still_coming queued told (inl was) = inl (or_left queued told was)
still_coming queued told (inr rest) = inr rest

-- of what concerns reading, two sockets are the same
record IsBeside (e f : EndState) : Type 0 where
  readable : is_readable f ≡ is_readable e
  armed : f.read_armed ≡ e.read_armed

-- a call other than a read leaves it
beside : (call : Call) (r : Reply) (e f : EndState) → may_call false call ≡ true → after_call e call r ≡ Some f → IsBeside e f
beside (Read most) r e f other is = cc
beside (Write offer) (reply.Wrote n full) e f other is = rw (guarded _ _ f is).1 (record { readable = refl; armed = refl })
beside (Write offer) reply.Blocked e f other is = rw (guarded _ _ f is).1 (record { readable = refl; armed = refl })
beside (Write offer) reply.Interrupted e f other is = rw (some_is is) (record { readable = refl; armed = refl })
beside (Write offer) (reply.Failed kind) e f other is = rw (some_is is) (record { readable = refl; armed = refl })
beside Join reply.Interrupted e f other is = rw (some_is is) (record { readable = refl; armed = refl })
beside Join reply.Joined e f other is = rw (guarded _ _ f is).1 (record { readable = refl; armed = refl })
beside Join reply.Blocked e f other is = rw (guarded _ _ f is).1 (record { readable = refl; armed = refl })
beside Join (reply.Failed kind) e f other is = rw (guarded _ _ f is).1 (record { readable = refl; armed = refl })
beside Shut reply.Shut e f other is = rw (some_is is) (record { readable = refl; armed = refl })
beside Shut reply.Interrupted e f other is = rw (some_is is) (record { readable = refl; armed = refl })
beside Shut (reply.Failed kind) e f other is = rw (guarded _ _ f is).1 (record { readable = refl; armed = refl })
beside call r e f other is = cc

reads_before : (reads : Bool) (call : Call) (r : Reply) → may_call false call ≡ true → reads_then reads call r ≡ false → reads ≡ false
reads_before reads (Read most) r other none = cc
reads_before reads call (reply.Failed kind) other none = let never = failed_reads reads call kind in cc
reads_before reads (Write offer) r other none = none
reads_before reads Join r other none = none
reads_before reads Shut r other none = none

module _ {w : Way} (held : MissesNothing w) where
  -- a step that leaves what can be read, and what is coming
  stays : (v : Way) → (v.reads ≡ false → v.told ≡ false → (w.reads ≡ false) × (w.told ≡ false)) → IsBeside w.socket v.socket
      → (is_readable w.socket ≡ true → WillBeTold w → WillBeTold v) → MissesNothing v
  stays v asleep same on reads told =
      let was = asleep reads told in
      let it = held was.0 was.1 in
      record {
        armed = λ none. same.armed ∙ it.armed (sym same.readable ∙ none);
        coming = λ some. (let readable = sym same.readable ∙ some in on readable (it.coming readable));
      }

  changes : (c : Change) (t : Told EndState Bool) → end_changed w.socket c ≡ Some t → MissesNothing (record w { socket = t.value; queued = w.queued || t.told })
  changes c t is reads told =
      let h = heard c w.socket t is in
      let it = held reads told in
      record { armed = λ none. (let some = h.readable in cc); coming = λ _. by h it (is_readable w.socket) refl }
    where
      by : Heard w.socket t → IsCovered w → (b : Bool) → is_readable w.socket ≡ b → WillBeTold (record w { socket = t.value; queued = w.queued || t.told })
      by h it true some = still_coming w.queued t.told (it.coming some)
      by h it false none = inl (or_right w.queued t.told (h.told (it.armed none)))

  -- the wire reads no more after a read that would block
  reads : (most : ℕ) (r : Reply) (f : EndState) → w.reads ≡ true → after_call w.socket (Read most) r ≡ Some f → MissesNothing (record w { socket = f; reads = reads_then w.reads (Read most) r })
  reads most reply.Blocked f may is none told =
      let g = guarded (not (is_readable w.socket)) _ f is in
      let empty = not-true (is_readable w.socket) g.0 in
      rw g.1 (record { armed = λ _. refl; coming = λ some. (let never = empty in cc) })
  reads most (reply.Failed kind) f may is none told = cc
  reads most r f may is none told = cc

  others : (call : Call) (r : Reply) (f : EndState) → may_call false call ≡ true → after_call w.socket call r ≡ Some f → MissesNothing (record w { socket = f; reads = reads_then w.reads call r })
  others call r f other is = stays _ (λ none told. (reads_before w.reads call r other none, told)) (beside call r w.socket f other is) (λ some will. will)

  calls : (call : Call) (r : Reply) (f : EndState) → may_call w.reads call ≡ true → after_call w.socket call r ≡ Some f → MissesNothing (record w { socket = f; reads = reads_then w.reads call r })
  calls (Read most) r f may is = reads most r f may is
  calls (Write offer) r f may is = others (Write offer) r f refl is
  calls Join r f may is = others Join r f refl is
  calls Shut r f may is = others Shut r f refl is

  -- the poller passes on a report
  telling : (v : Way) (taken : List Bool) → w.taken ≡ taken → tells w taken ≡ Some v → MissesNothing v
  telling v [] is h = cc
  telling v (true ∷ rest) is h = rw (some_is h) (λ none told. (let yes : (w.told || true) ≡ true = or_right w.told true refl in cc))
  telling v (false ∷ rest) is h = rw (some_is h)
      (stays _ (λ none told. (none, (or_parts w.told false told).0)) (record { readable = refl; armed = refl }) (λ some will. behind_first rest (rw is at will)))

  keeps : (v : Way) (made : Step) → step w made ≡ Some v → MissesNothing v
  keeps v (Comes c) h = mapped _ _ v h (λ t is after. rw after (changes c t is))
  keeps v HasRoom h = mapped _ (new_room w.socket) v h (λ t is after.
      let g = guarded (not w.socket.room && not w.socket.err) _ t is in
      rw (after, g.1) (stays _ (λ none told. (none, told)) (record { readable = refl; armed = refl }) (λ some. still_coming w.queued w.socket.write_armed)))
  keeps v Spurious h = rw (some_is h) (stays _ (λ none told. (none, told)) (record { readable = refl; armed = refl }) (λ some will. inl refl))
  -- none is withdrawn while there is something to read
  keeps v Vanished h =
      let g = guarded (w.queued && end_is_quiet w.socket) _ v h in
      let empty = (both_down (is_readable w.socket) (is_writable w.socket) (second_so w.queued _ g.0)).0 in
      rw g.1 (stays _ (λ none told. (none, told)) (record { readable = refl; armed = refl }) (λ some. (let never = empty in cc)))
  keeps v (Polled names) h =
      let g = guarded (w.queued && (not (is_readable w.socket) || names)) _ v h in
      let naming = named (is_readable w.socket) names (second_so w.queued _ g.0) in
      rw g.1 (stays _ (λ none told. (none, told)) (record { readable = refl; armed = refl }) (λ some will. inr (rw (naming some) (Contains-push w.taken true))))
  keeps v Tells h = telling v w.taken refl h
  keeps v Old h = rw (some_is h) (λ none told. cc)
  keeps v Looks h = rw (some_is h) (stays _ (λ none told. or_parts w.reads w.told none) (record { readable = refl; armed = refl }) (λ some will. will))
  keeps v (Calls call r) h = option_and_then_some _ _ v h (λ f is ran. let g = guarded (may_call w.reads call) _ v ran in rw g.1 (calls call r f g.0 is))
  keeps v (Unasked most) h = rw (guarded (not w.reads && not w.told) w v h).1 held

ran : (steps : List Step) (w to : Way) → MissesNothing w → run w steps ≡ Some to → MissesNothing to
ran [] w to held h = rw (some_is h) held
ran (s ∷ steps) w to held h = option_and_then_some (λ v. run v steps) (step w s) to h (λ v is more. ran steps v to (keeps held v s is) more)

-- a connection opens with a wire that reads
pub wires_miss_nothing : WiresMissNothing
wires_miss_nothing side told steps w h = ran steps (new_way side told) w (λ none heard. cc) h
