use Rattle.std.{proofs.Common.{◌≡◌, ◌+◌, ◌≤◌, ◌++◌, length, take}, specs.Prelude.option_map}
use Rattle.script_text.specs.Events.{all_names}
use Rattle.script_text.proofs.events.names.Given as goal

-- the names so far, and those of the words that are left, are the names of all words
abbrev pub invariant-loop-word : goal.invariant-loop-word
invariant-loop-word l =
    (all_names l.fn.words ≡ option_map (λ rest. take l.count l.room ++ rest) (all_names l.words))
    × (length l.fn.words ≡ l.count + length l.words)
    × (l.count ≤ 256)

abbrev pub decreases-loop-word : goal.decreases-loop-word
decreases-loop-word l = length l.words
