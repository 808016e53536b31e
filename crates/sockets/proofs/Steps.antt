-- One event more that was passed on, and that a socket stays the same connection while it is told how long to wait.
use Rattle.std.proofs.{Common.{◌≡◌, ◌∙◌, ◌+◌, ◌<◌, ◌++◌, [], ◌∷◌, ℕ, List, Option, Some, None, length, refl, slice_index_or, take}, lemmas.List.take_more}
use Rattle.mio.specs.declared.event.event.Event.{Event}
use Rattle.sockets.specs.{Fronts.{Step, PassedOn, ArePassedOn}, Sockets.{Limits, Probing, Waits}, declared.{forwarding.Patience.Patience, socket.Socket.Socket}}

last_one : {P : Type 0} (did : Step → P → P → Type 0) (events : List Event) (event : Event) (a b c : P) → ArePassedOn did events a b → did (PassedOn event) b c
    → ArePassedOn did (events ++ event ∷ []) a c
last_one did [] event a b c same step = (c, rw same at step, refl)
last_one did (e ∷ events) event a b c (next, first, rest) step = (next, first, last_one did events event next b c rest step)

pub one_more : {P : Type 0} (did : Step → P → P → Type 0) (events : List Event) (k : ℕ) (d : Event) (a b c : P) → k < length events
    → ArePassedOn did (take k events) a b → did (PassedOn (slice_index_or events k d)) b c → ArePassedOn did (take (k + 1) events) a c
one_more did events k d a b c within before step = rw (take_more events k d within) (last_one did (take k events) (slice_index_or events k d) a b c before step)

pub same_after : (patience : Patience) (a b : Socket) → Waits (λ made old new. new.stream ≡ old.stream) patience a b → b.stream ≡ a.stream
same_after patience a b (between, first, last) = by patience.connect patience.keepalive first last where
  by : (c k : Option ℕ) → Limits (λ made old new. new.stream ≡ old.stream) c a between → Probing (λ made old new. new.stream ≡ old.stream) k between b
      → b.stream ≡ a.stream
  by (Some c) (Some k) first last = last ∙ first
  by (Some c) None first last = rw last first
  by None (Some k) first last = rw first at last
  by None None first last = rw (last, first)
