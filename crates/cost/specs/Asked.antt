-- The cost of a page, asked of lent arrays. Assumes nothing.
use Rattle.std.specs.Prelude.{ℕ}
use Rattle.machine.specs.Cost.{Costed, cost_by}
use Rattle.arrays.specs.declared.Arrays.{Arrays}
use Rattle.arrays.specs.Reading.{state_of}
use Rattle.formed.specs.Test.{formed_of}

-- Of any arrays: by the rule, with 1 for those that are not well formed.
unfoldable pub cost_on : Arrays → ℕ → Costed
cost_on a n = cost_by (formed_of a) (state_of a).core n
