use Rattle.std.proofs.Common.{List, ℕ, Option, drop}
use Rattle.world_text.specs.Pages.{AddsText, pieces_text}
use Rattle.world_text.proofs.page.Page.put.Given as goal

-- what is left, added to what is written, is all pieces, added to what was written
abbrev pub invariant-loop-piece : goal.invariant-loop-piece
invariant-loop-piece l = (new : Option (List ℕ)) → AddsText l.self new (pieces_text (drop l.piece-index l.pieces)) → AddsText l.fn.self new (pieces_text l.pieces)
