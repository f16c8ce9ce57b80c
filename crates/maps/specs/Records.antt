-- Document 02, 2026-07: "Over a lent slice of reservation records, in the table's order". Assumes nothing.
use Rattle.std.specs.Prelude.{ℕ, ◌+◌, Bool, true, not, ◌&&◌, ◌||◌, List, [], ◌∷◌, length, ltb, eqb}
use Rattle.table.specs.declared.Reservation.{Reservation}

-- Each begins where the one before it ends, and has a cell.
unfoldable pub tile_from : ℕ → List Reservation → Bool
tile_from from [] = true
tile_from from (r ∷ l) = (eqb r.base from && ltb 0 r.length) && tile_from (from + r.length) l

-- How many cells they have; where they tile from cell 0, their end.
unfoldable pub cells_of : List Reservation → ℕ
cells_of [] = 0
cells_of (r ∷ l) = r.length + cells_of l

-- "Errors: only 25, the records are none or over 64, have a length 0, don't tile from cell 0 or end above 4,096".
unfoldable pub bad_records : List Reservation → Bool
bad_records l = (eqb (length l) 0 || ltb 64 (length l)) || (not (tile_from 0 l) || ltb 4096 (cells_of l))
