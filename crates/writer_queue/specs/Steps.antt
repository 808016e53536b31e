-- What is done to the count of lines that are left out.
use Rattle.std.specs.Prelude.{ℕ}

-- one step on a count that threads share: 1 was added, or all that was there was taken
pub data CountStep : Type 0 where
  Added : CountStep
  Taken : ℕ → CountStep
