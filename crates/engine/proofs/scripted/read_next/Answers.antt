use Rattle.std.proofs.{Common.{◌≡◌, ℕ, List, ◌∷◌, ◌++◌, take, drop, ap, sym, ◌∙◌, append_assoc, rules}, lemmas.List.take-append-drop}
use Rattle.engine.specs.{Wires.bytes_of, declared.scripted.Play.TheVariants.Bytes}
use Rattle.engine.proofs.scripted.read_next.Goals as goal

parts : (n : ℕ) (bytes rest : List ℕ) → bytes ++ rest ≡ take n bytes ++ (drop n bytes ++ rest)
parts n bytes rest = ap (λ xs. xs ++ rest) (sym (take-append-drop n bytes)) ∙ append_assoc (take n bytes) (drop n bytes) rest

pub returns-then-count-len-clause-given : goal.returns-then-count-len-clause-given
returns-then-count-len-clause-given c =
    let popped : c.args.reads.now.items ≡ Bytes c.in-Some-Bytes.bytes ∷ c.pop_front.new.self.items = search rules in
    rw (popped, c.push_front_reserved.ensures.items, c.drop_front.ensures, c.copy_front-count.ensures.bytes, c.as_slice.ensures.value)
    (parts c.copy_front-count.result c.in-Some-Bytes.bytes.items (bytes_of c.pop_front.new.self.items))
