-- Ranges of cells: what they share, and how far a cell is from one. Assumes nothing.
use Rattle.std.specs.Prelude.{ℕ, ◌+◌, ◌-◌, Bool, ◌&&◌, leb, ltb}
use Rattle.capabilities.specs.declared.Range.{Range}

-- So many cells from one on.
abbrev pub span : ℕ → ℕ → Range
span first cells = record { base = first; length = cells }

-- Each begins before the other ends: they have a cell in common (maps:Meaning.shares_means).
unfoldable pub shares : Range → Range → Bool
shares p q = ltb q.base (p.base + p.length) && ltb p.base (q.base + q.length)

-- The first begins no earlier and ends no later than the second.
unfoldable pub within : Range → Range → Bool
within p q = leb q.base p.base && leb (p.base + p.length) (q.base + q.length)

-- "Distance is to its closest cell, 0 inside": what a cell lacks to the first of them, or has above the last. A difference below 0 is 0.
unfoldable pub distance : ℕ → Range → ℕ
distance c p = (p.base - c) + (c - (p.base + p.length - 1))

-- A range "runs past the end".
unfoldable pub beyond : ℕ → Range → Bool
beyond end p = ltb end (p.base + p.length)
