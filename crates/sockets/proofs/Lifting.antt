-- Where nothing new is known of the connection, its limit stands.
use Rattle.std.proofs.{Common.{◌≡◌, ◌∙◌, ℕ, Bool, Option, sym}, lemmas.Bool.true≢false}
use Rattle.sockets.specs.Sockets.{StreamMade, Lifts}

pub unlifted :
    {S : Type 0} (did : StreamMade → S → S → Type 0) (limit : Option ℕ) (was is : Bool) (before after : S) → is ≡ was → after ≡ before
    → Lifts did limit was is before after
unlifted did limit was is before after same kept = record {
  lifted = λ limited unjoined joined. absurd (true≢false (sym joined ∙ (same ∙ unjoined)));
  unlimited = λ none. kept;
  kept = λ same. kept;
}
