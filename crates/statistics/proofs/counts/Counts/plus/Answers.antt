use Rattle.std.proofs.Common.{ℕ, ◌≡◌, ◌<◌, ◌≤◌, List, length, map, refl, set, sym, ap, ◌∙◌, arith, rules}
use Rattle.std.specs.{List.{zip}, Prelude.{slice_index}}
use Rattle.std.proofs.lemmas.{Grind.{same_number_lists}, Slice.Zip.{length-zip, get_or-zip}, List.{length-map, length-set, get_or-map, get_or-set_same, get_or-set_other}}
use borrow.Author.Count.{below_more}
use Rattle.statistics.specs.Counts.{sum}
use Rattle.statistics.specs.declared.counts.Counts.{Counts}
use Rattle.statistics.proofs.counts.Counts.plus.Goals as goal

-- numbers are the sums of two others, each with its like
are_sums : (xs ys zs : List ℕ) (n : ℕ) → length xs ≡ n → length ys ≡ n → length zs ≡ n
    → ((k : ℕ) → k < n → slice_index zs k ≡ sum (slice_index xs k) (slice_index ys k)) → zs ≡ map (λ pair. sum pair.0 pair.1) (zip xs ys)
are_sums xs ys zs n long_x long_y long_z each =
    let pairs : length (zip xs ys) ≡ n = length-zip xs ys ∙ omega (arith, long_x, long_y) in
    same_number_lists zs _ (long_z ∙ sym (length-map _ _ ∙ pairs))
    (λ k h. let inside : k < n = omega (arith, h, long_z) in
    each k inside ∙ sym (get_or-map _ (zip xs ys) k (0, 0) 0 (omega (arith, pairs, inside))
    ∙ ap (λ pair. sum pair.0 pair.1) (get_or-zip xs ys k (0, 0) (omega (arith, long_x, inside)) (omega (arith, long_y, inside)))))

pub loop-place-preserved : goal.loop-place-preserved
loop-place-preserved c =
    let sums = c.loop-place.sums.numbers in
    let more = c.saturating_add.result in
    let inside : c.loop-place.place < length sums = search (rules, c.loop-place.invariant.long) in record {
      long = length-set sums c.loop-place.place more ∙ c.loop-place.invariant.long;
      summed = below_more (λ (k : ℕ). slice_index (set sums c.loop-place.place more) k ≡ sum (slice_index c.args.self.numbers k) (slice_index c.args.more.now.numbers k))
          c.loop-place.place
          (λ k h. get_or-set_other sums c.loop-place.place k more 0 (omega (arith, h)) ∙ c.loop-place.invariant.summed k h)
          (get_or-set_same sums c.loop-place.place more 0 inside ∙ c.saturating_add.ensures);
    }

pub returns : goal.returns
returns c =
    let numbers = c.args.self.numbers in
    let all : length numbers ≤ c.loop-place.place = search rules in
    ap (λ (ns : List ℕ). let counts : Counts = record { numbers = ns } in counts)
    (are_sums numbers c.args.more.now.numbers c.loop-place.sums.numbers (length numbers) refl (search rules) c.loop-place.invariant.long
    (λ k h. c.loop-place.invariant.summed k (omega (arith, h, all))))
