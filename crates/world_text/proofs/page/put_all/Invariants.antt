use Rattle.std.{proofs.Common.{List, ℕ, Option, drop}, specs.List.flat_map}
use Rattle.world_text.specs.Pages.{AddsText}
use Rattle.world_text.proofs.page.put_all.Given as goal

-- what is left, added to what is written, is all of it, added to what was written
abbrev pub invariant-loop-item : goal.invariant-loop-item
invariant-loop-item g l = (new : Option (List ℕ)) → AddsText l.page new (flat_map g.T.Listed.text (drop l.item-index l.items)) → AddsText l.fn.page new (flat_map g.T.Listed.text l.items)
