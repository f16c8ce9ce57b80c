-- A range of virtual cells. Assumes nothing.
use Rattle.std.specs.Prelude.{ℕ, ◌+◌, ◌*◌, Bool, ◌&&◌, leb, ltb}
use Rattle.capabilities.specs.declared.Range.{Range}

-- A cell lies in a range.
unfoldable pub inside : Range → ℕ → Bool
inside r c = leb r.base c && ltb c (r.base + r.length)

-- A page lies in a range of whole pages if its first cell does.
abbrev pub page_inside : Range → ℕ → Bool
page_inside r p = inside r (16 * p)
