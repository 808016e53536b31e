-- What holds of an outcome, by what holds of the threads' ends.
use Rattle.std.{proofs.{Common.{List, All, map, ap}, lemmas.List.Elements.{All-map, All-weaker}}, specs.Prelude.{Option, None, Some, IfSome, ℕ}}
use Rattle.settings.specs.Addresses.{SocketAddress}
use Rattle.sockets.specs.{declared.forwarding.Forwarding.Forwarding, Fronts.{IsAt, IsFreshFront, Watched}}

pub if_some_map : {A : Type 0} {P Q : A → Type 0} (o : Option A) → ((x : A) → P x → Q x) → IfSome o P → IfSome o Q
if_some_map None so is = is
if_some_map (Some x) so is = so x is

-- fresh fronts connect clients to the target that was asked for
pub targets : {P : Type 0} (address : SocketAddress) (forwarding : Forwarding) (pollers : ℕ) (fronts : List (Watched P)) → IsAt address forwarding.target
    → All (IsFreshFront forwarding pollers) fronts → All (λ seen. IsAt address seen.target) (map (λ (front : Watched P). front.seen) fronts)
targets {P} address forwarding pollers fronts at are = All-map (λ seen. IsAt address seen.target) (λ (front : Watched P). front.seen) fronts
    (All-weaker (IsFreshFront forwarding pollers) (λ front. IsAt address front.seen.target) (λ front is. rw (ap (λ (f : Watched P). f.seen.target) is) at) fronts are)
