-- What one act more adds.
use Rattle.std.{proofs.{Common.{◌≡◌, ℕ, ◌+◌, Bool, false, ◌||◌, List, [], ◌∷◌, ◌++◌, Option, Some, None, refl, ◌∙◌, ap, sym, arith, min}, Math.Bool.{or-false}, lemmas.List.{Sums.{sum_by_push}, Folds.{list_any-append}}}, specs.{Prelude.sum_by, List.list_any, Option.{option_or, unwrap_or}}}
use Rattle.token.specs.declared.side.Side.{Side, TheVariants.{Client, Target}}
use Rattle.record_lines.specs.declared.act.Act.{Act}
use Rattle.record_reader.specs.{declared.account.{Half.Half, Account.Account}, Accounts.{IsAccount, IsHalf, is_beginning, count_capped, drops_wire, ends_at, act_fault, first_found, joins, last_of, offered_to_target, read_at, sender, settles, shuts_at, written_at}}

or_none : {X : Type 0} (o : Option X) → option_or o None ≡ o
or_none None = refl
or_none (Some x) = refl

or_or : {X : Type 0} (o p q : Option X) → option_or (option_or o p) q ≡ option_or o (option_or p q)
or_or None p q = refl
or_or (Some x) p q = refl

pub first_of_more : {A X : Type 0} (f : A → Option X) (acts : List A) (a : A) (o : Option X) → o ≡ first_found f acts
    → option_or o (f a) ≡ first_found f (acts ++ a ∷ [])
first_of_more f [] a o is = ap (λ p. option_or p (f a)) is ∙ sym (or_none (f a))
first_of_more f (b ∷ acts) a o is =
    ap (λ p. option_or p (f a)) is ∙ or_or (f b) (first_found f acts) (f a)
    ∙ ap (λ p. option_or (f b) p) (first_of_more f acts a (first_found f acts) refl)

last_of_more : {X : Type 0} (f : Act → Option X) (acts : List Act) (a : Act) (o : Option X) → o ≡ last_of f acts
    → option_or (f a) o ≡ last_of f (acts ++ a ∷ [])
last_of_more f [] a o is = ap (λ p. option_or (f a) p) is ∙ or_none (f a)
last_of_more f (b ∷ acts) a o is =
    ap (λ p. option_or (f a) p) is ∙ sym (or_or (f a) (last_of f acts) (f b))
    ∙ ap (λ p. option_or p (f b)) (last_of_more f acts a (last_of f acts) refl)

any_more : (p : Act → Bool) (acts : List Act) (a : Act) (so : Bool) → so ≡ list_any p acts → (so || p a) ≡ list_any p (acts ++ a ∷ [])
any_more p acts a so is =
    ap (λ b. b || p a) is ∙ ap (λ b. list_any p acts || b) (sym (or-false (p a))) ∙ sym (list_any-append p acts (a ∷ []))

capped : (n m s : ℕ) → n ≡ count_capped s → min (n + m) 18446744073709551615 ≡ count_capped (s + m)
capped n m s is = grind arith

sum_more : (f : Act → ℕ) (acts : List Act) (a : Act) (n : ℕ) → n ≡ count_capped (sum_by f acts)
    → min (n + f a) 18446744073709551615 ≡ count_capped (sum_by f (acts ++ a ∷ []))
sum_more f acts a n is = capped n (f a) (sum_by f acts) is ∙ ap count_capped (sym (sum_by_push f acts a))

pub half_more : (side : Side) (h g : Half) (a : Act)
    → g.read ≡ min (h.read + read_at side a) 18446744073709551615 → g.written ≡ min (h.written + written_at side a) 18446744073709551615
    → g.ended ≡ (h.ended || ends_at side a) → g.shut ≡ (h.shut || shuts_at side a)
    → (acts : List Act) → IsHalf side acts h → IsHalf side (acts ++ a ∷ []) g
half_more side h g a reads writes ends shuts acts is = record {
  read = reads ∙ sum_more (read_at side) acts a h.read is.read;
  written = writes ∙ sum_more (written_at side) acts a h.written is.written;
  ended = ends ∙ any_more (ends_at side) acts a h.ended is.ended;
  shut = shuts ∙ any_more (shuts_at side) acts a h.shut is.shut;
}

pub account_more : (b c : Account) (a : Act)
    → ((acts : List Act) → IsHalf Client acts b.client → IsHalf Client (acts ++ a ∷ []) c.client)
    → ((acts : List Act) → IsHalf Target acts b.target → IsHalf Target (acts ++ a ∷ []) c.target)
    → c.offer ≡ option_or b.offer (offered_to_target a) → c.fault ≡ option_or b.fault (act_fault a)
    → c.sender ≡ option_or (sender a) b.sender → c.joined ≡ (b.joined || joins a) → c.had_turn ≡ (b.had_turn || is_beginning a)
    → c.dropped ≡ (b.dropped || drops_wire a) → c.is_quiet ≡ settles a
    → (acts : List Act) → IsAccount acts b → IsAccount (acts ++ a ∷ []) c
account_more b c a client target offer fault sends joins' begins' drops' quiet acts is = record {
  client = client acts is.client;
  target = target acts is.target;
  first_offer = offer ∙ first_of_more offered_to_target acts a b.offer is.first_offer;
  first_fault = fault ∙ first_of_more act_fault acts a b.fault is.first_fault;
  last_sender = sends ∙ last_of_more sender acts a b.sender is.last_sender;
  joined = joins' ∙ any_more joins acts a b.joined is.joined;
  had_turn = begins' ∙ any_more is_beginning acts a b.had_turn is.had_turn;
  dropped = drops' ∙ any_more drops_wire acts a b.dropped is.dropped;
  quiet = quiet ∙ ap (λ (o : Option Bool). unwrap_or o false) (last_of_more (λ (x : Act). Some (settles x)) acts a (last_of (λ (x : Act). Some (settles x)) acts) refl);
}
