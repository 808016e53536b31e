-- What one moment more adds.
use Rattle.std.{proofs.Common.{◌≡◌, ℕ, ◌-◌, if◌then◌else◌, List, [], ◌∷◌, ◌++◌, Some, None, refl, ◌∙◌, ap, arith, max}, specs.Option.option_or}
use Rattle.token.specs.declared.side.Side.TheVariants.{Client, Target}
use Rattle.record_lines.specs.declared.act.Act.{Act}
use Rattle.record_reader.{proofs.Accounts.first_of_more, specs.{Moments.{IsTimes, Moment, answers, longest_still, moved_last, moved_since, act_moves, sends, when_moment}, declared.times.Times.Times}}

moved_more : (since : ℕ) (moments : List Moment) (m : Moment) → moved_since (moved_last since moments) m ≡ moved_last since (moments ++ m ∷ [])
moved_more since [] m = refl
moved_more since (n ∷ moments) m = moved_more (moved_since since n) moments m

max_max : (a b c : ℕ) → max (max a b) c ≡ max a (max b c)
max_max a b c = grind arith

max_none : (a : ℕ) → max 0 a ≡ max a 0
max_none a = grind arith

longest_more : (since : ℕ) (moments : List Moment) (m : Moment)
    → max (longest_still since moments) (m.at - moved_last since moments) ≡ longest_still since (moments ++ m ∷ [])
longest_more since [] m = max_none (m.at - since)
longest_more since (n ∷ moments) m =
    max_max (n.at - since) (longest_still (moved_since since n) moments) (m.at - moved_last (moved_since since n) moments)
    ∙ ap (λ s. max (n.at - since) s) (longest_more (moved_since since n) moments m)

pub times_more : (s t : Times) (at : ℕ) (a : Act)
    → t.opened ≡ s.opened → t.answered ≡ option_or s.answered (if answers a then Some at else None)
    → t.client ≡ option_or s.client (if sends Client a then Some at else None)
    → t.target ≡ option_or s.target (if sends Target a then Some at else None)
    → t.moved ≡ (if act_moves a then at else s.moved) → t.silence ≡ max s.silence (at - s.moved)
    → (opened : ℕ) (moments : List Moment) → IsTimes opened moments s → IsTimes opened (moments ++ record { at = at; act = a } ∷ []) t
times_more s t at a opened' answered' client' target' moved' silence' opened moments is =
    let m : Moment = record { at = at; act = a } in
    record {
      opened = opened' ∙ is.opened;
      answered = answered' ∙ first_of_more (when_moment answers) moments m s.answered is.answered;
      client = client' ∙ first_of_more (when_moment (sends Client)) moments m s.client is.client;
      target = target' ∙ first_of_more (when_moment (sends Target)) moments m s.target is.target;
      moved = moved' ∙ ap (λ (n : ℕ). moved_since n m) is.moved ∙ moved_more opened moments m;
      silence = silence' ∙ ap (λ (n : ℕ). max n (at - s.moved)) is.silence ∙ ap (λ (n : ℕ). max (longest_still opened moments) (at - n)) is.moved
          ∙ longest_more opened moments m;
    }
