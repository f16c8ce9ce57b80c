-- The test of a layer in numbers, entry by entry. Assumes nothing.
use Rattle.std.specs.Prelude.{ℕ, ◌+◌, Bool, ◌&&◌, List, get_or, eqb, leb, ltb}
use Rattle.capabilities.specs.Lists.{pick}

-- At V or F and above a number is 0.
unfoldable pub is_unused : ℕ → ℕ → Bool
is_unused i n = eqb n 0

-- A page below V shows, if any, a frame below F.
unfoldable pub shows_below : ℕ → ℕ → ℕ → Bool
shows_below f p n = ltb n (f + 2)

-- A frame below F is Mapped if the tally has one page for it, and else has none.
unfoldable pub is_counted : List ℕ → ℕ → ℕ → Bool
is_counted t k n = leb n 2 && eqb (get_or t k 0) (pick (eqb n 2) 1 0)
