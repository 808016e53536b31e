use Rattle.std.proofs.{Common.{◌≡◌, ℕ, ◌+◌, ◌<◌, List, [], ◌∷◌, ◌++◌, length, take, get_or, ap, ◌∙◌, arith}, lemmas.List.take_more}
use Rattle.statistics.specs.{Counts.{Step, Loaded, AreSums, added}, declared.{counts.Counts.Counts, totals.Totals.Totals}}
use Rattle.statistics.proofs.statistics.Statistics.sums.Goals as goal

-- the sums of places, one after the other
module _ {M : Type 0} (did : Step → M → Type 0) where
  sums_more : (places : List M) (place : M) (before sums : Totals) (counts : Counts) → AreSums did places before sums → did (Loaded counts) place
      → AreSums did (places ++ place ∷ []) before (added counts sums)
  sums_more [] place before sums counts same read = (counts, read, ap (λ (t : Totals). added counts t) same)
  sums_more (first ∷ places) place before sums counts rest read = (rest.0, rest.1, sums_more places place (added rest.0 before) sums counts rest.2 read)

  -- of one place more of a list
  sums_next : (places seen : List M) (i : ℕ) (place : M) (before sums now : Totals) (counts : Counts) → seen ≡ places → i < length seen → place ≡ get_or seen i place
      → AreSums did (take i places) before sums → did (Loaded counts) place → now ≡ added counts sums → AreSums did (take (i + 1) places) before now
  sums_next places seen i place before sums now counts same inside is rest read next =
      rw (next, ← same, take_more seen i place inside, ← is) (sums_more (take i seen) place before sums counts (rw same rest) read)

pub loop-place-preserved : goal.loop-place-preserved
loop-place-preserved g c = let same : c.deref-place-items.result.now ≡ c.args.self.now.places = cc in record {
  sums = sums_next g.M.Memory.did c.args.self.now.places c.deref-place-items.result.now c.loop-place.place-index c.place-item.result c.none-totals.result c.loop-place.totals
      c.with-totals.result c.read.result same c.loop-place-test.true c.place-item.is c.loop-place.invariant.sums c.read.ensures c.with-totals.ensures;
  slots = ap (λ (t : Totals). t.slots) c.with-totals.ensures ∙ c.loop-place.invariant.slots;
  live = (let now = ap (λ (t : Totals). t.live) c.with-totals.ensures in let before = c.loop-place.invariant.live in omega arith);
}
