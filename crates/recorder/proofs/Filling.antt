-- One line more, and one file more.
use Rattle.std.{proofs.{lemmas.Fmt.contents_after_writes, Common.{◌≡◌, ◌≤◌, ℕ, ◌+◌, Bool, false, List, [], ◌∷◌, ◌++◌, Option, Some, None, length, refl, ap, sym, ◌∙◌, rules}, lemmas.List.length-append}, specs.{Fmt.WritesInCalls, Prelude.max}}
use Rattle.arrayvec.specs.declared.array_string.ArrayString.{ArrayString}
use Rattle.record_lines.specs.{Parts.{AddsParts, Are, Begins}, declared.{act.Record.Record, header.Header.Header}}
use Rattle.recorder.specs.Lines.{HoldsLines, greatest_of, header_line, is_full, joined, record_line, part_text, texts_of}

unknown : (new : Option (List (List ℕ))) (texts : List (List ℕ)) → new ≡ None → Are new texts
unknown (Some ys) texts is = absurd (cc)
unknown None texts is = search rules

added_to : (bytes text : List ℕ) (texts : List (List ℕ)) (old new : Option (List (List ℕ)))
    → Are old (text ∷ texts) → AddsParts bytes old new → Are new ((text ++ bytes) ∷ texts)
added_to bytes text texts (Some []) new are adds = absurd (cc)
added_to bytes text texts (Some (x ∷ xs)) (Some ys) are adds = cc
added_to bytes text texts (Some (x ∷ xs)) None are adds = search rules
added_to bytes text texts None new are adds = unknown new _ adds

begun_after : (texts : List (List ℕ)) (old new : Option (List (List ℕ))) → Are old texts → Begins old new → Are new ([] ∷ texts)
begun_after texts (Some xs) (Some ys) are begins = cc
begun_after texts (Some xs) None are begins = search rules
begun_after texts None new are begins = unknown new _ begins

pub written_text : (n : ℕ) (s t : ArrayString n) (bs : List ℕ) → s.bytes ≡ []
    → WritesInCalls (λ (s : ArrayString n) (bs : List ℕ) (t : ArrayString n). t.bytes ≡ s.bytes ++ bs) s bs t → t.bytes ≡ bs
written_text n s t bs empty writes =
    contents_after_writes _ (λ (s : ArrayString n). s.bytes) (λ w bs v is. is) s bs t writes ∙ ap (λ xs. xs ++ bs) empty

pub holds_first : (header header' : Header) (most : ℕ) (bytes : List ℕ) (old new : Option (List (List ℕ))) (size greatest : ℕ) (over : Bool)
    → Are old ([] ∷ []) → AddsParts bytes old new → bytes ≡ header_line header → size ≡ length bytes → size ≤ most
    → header' ≡ header → greatest ≡ 0 → over ≡ false → HoldsLines header' most [] new size greatest over
holds_first header header' most bytes old new size greatest over empty added is sized fits same none goes =
    let sum : length (header_line header) ≡ size = ap length (sym is) ∙ sym sized in
    rw same (record {
      last = [];
      before = [];
      all = refl;
      written = added_to (header_line header) [] [] old new empty (rw (sym is) added);
      fit = (rw sum fits, search rules);
      long = sum;
      highest = sym none;
      lost = search rules;
      end = sym goes;
    })

pub holds_line : (header header' : Header) (most most' : ℕ) (r : Record) (records : List Record) (bytes : List ℕ)
    (old new : Option (List (List ℕ))) (size more greatest greatest' most_of_all : ℕ) (over over' : Bool)
    → HoldsLines header most records old size greatest over → AddsParts bytes old new → bytes ≡ record_line r
    → more ≡ size + length bytes → more ≤ most → header' ≡ header → most' ≡ most → greatest' ≡ greatest
    → most_of_all ≡ max greatest' r.after → over ≡ false → over' ≡ is_full r.act
    → HoldsLines header' most' (r ∷ records) new more most_of_all over'
holds_line header header' most most' r records bytes old new size more greatest greatest' most_of_all over over' h added is sized fits same same' great great' goes end =
    let text : List ℕ = part_text header h.before h.last in
    let sum : length (text ++ record_line r) ≡ more =
    length-append text (record_line r) ∙ ap (λ n. n + length (record_line r)) h.long ∙ ap (λ xs. size + length xs) (sym is) ∙ sym sized in
    rw same (rw same' (record {
      last = r ∷ h.last;
      before = h.before;
      all = ap (λ xs. r ∷ xs) h.all;
      written = added_to (record_line r) text (texts_of header h.before) old new h.written (rw (sym is) added);
      fit = (rw sum fits, h.fit.1);
      long = sum;
      highest = ap (λ n. max n r.after) (h.highest ∙ sym great) ∙ sym great';
      lost = ((h.end ∙ goes, h.lost.0), h.lost.1);
      end = sym end;
    }))

pub holds_file : (header header' : Header) (most most' : ℕ) (records : List Record) (bytes : List ℕ)
    (old begun new : Option (List (List ℕ))) (size more greatest greatest' : ℕ) (over over' : Bool)
    → HoldsLines header most records old size greatest over → Begins old begun → AddsParts bytes begun new
    → bytes ≡ header_line (record header { from = Some greatest }) → more ≡ length bytes → more ≤ most
    → header' ≡ header → most' ≡ most → greatest' ≡ greatest → over' ≡ false → HoldsLines header' most' records new more greatest' over'
holds_file header header' most most' records bytes old begun new size more greatest greatest' over over' h begins added is sized fits same same' great goes =
    let line : ℕ → List ℕ = λ n. header_line (record header { from = Some n }) in
    let first : bytes ≡ line (greatest_of (h.last ++ joined h.before)) = is ∙ ap line (sym (ap greatest_of h.all ∙ h.highest)) in
    let texts : List (List ℕ) = texts_of header (h.last ∷ h.before) in
    let sum : length (line (greatest_of (h.last ++ joined h.before))) ≡ more = ap length (sym first) ∙ sym sized in
    rw same (rw same' (record {
      last = [];
      before = h.last ∷ h.before;
      all = h.all;
      written = rw (sym first) (added_to bytes [] texts begun new (begun_after texts old begun h.written begins) added);
      fit = (rw sum fits, h.fit);
      long = sum;
      highest = h.highest ∙ sym great;
      lost = (search rules, h.lost);
      end = sym goes;
    }))
