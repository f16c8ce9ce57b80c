-- The machine's own table: a well-formed one has 1 to 64 reservations that tile 16 × V cells, V at most 256. Assumes nothing.
use Prim.Native.Nat.{ℕ, ◌+◌, ◌*◌}
use native.Mathlib.Omega.{arith}
use mathlib.Core.Bool.{Bool, true, false, not, ◌&&◌, ◌||◌}
use mathlib.Core.List.{List, [], ◌∷◌}
use mathlib.Core.Path.{◌≡◌, refl}
use lib.Dec.{eqb, ltb}
use lib.ListN.{length}
use borrow.Author.Tests.{eq-eqb, ne_eqb, lt-ltb, le-ltb}
use Rattle.capabilities.proofs.Choice.{both}
use Rattle.pages.proofs.Formed as formed
use Rattle.table.specs.declared.Reservation.{Reservation}
use Rattle.table.specs.Rows.{live}
use Rattle.table.specs.Tiling.{tiles}
use Rattle.table.proofs.Tiled.{tiles_begin, tiles_none}
use Rattle.table.proofs.Sound.{sound}
use Rattle.reservations.proofs.CoreKept.{core_facts}
use Rattle.maps.specs.Records.{tile_from, cells_of, bad_records}
use Rattle.maps.specs.Promises.{OwnTableNever}

-- The table's tiling is one of records, and has as many cells as lie between its ends.
tiles_from : (from upto : ℕ) (l : List Reservation) → tiles from upto l ≡ true → tile_from from l ≡ true
unfolding tile_from
tiles_from from upto [] e = refl
tiles_from from upto (r ∷ l) e =
    let g = tiles_begin from upto r l e in
    both (eqb r.base from && ltb 0 r.length) (tile_from (from + r.length) l)
    (both (eqb r.base from) (ltb 0 r.length) (eq-eqb r.base from g.base) (lt-ltb 0 r.length g.some))
    (tiles_from (from + r.length) upto l g.rest)

tiles_cells : (from upto : ℕ) (l : List Reservation) → tiles from upto l ≡ true → from + cells_of l ≡ upto
unfolding cells_of
tiles_cells from upto [] e = omega (arith, tiles_none from upto e)
tiles_cells from upto (r ∷ l) e = omega (arith, tiles_cells (from + r.length) upto l (tiles_begin from upto r l e).rest)

none_bad : (a b c d : Bool) → a ≡ false → b ≡ false → c ≡ true → d ≡ false → (a || b) || (not c || d) ≡ false
none_bad a b c d p q r s i = (p i || q i) || (not (r i) || s i)

pub own_table_never : OwnTableNever
unfolding bad_records
own_table_never core e =
    let l = live core.table in
    let g = core_facts core e in
    let t = sound (16 * core.pages.v) core.table g.rows in
    let v = (formed.sound core.pages g.layer).v_most in
    let cells = tiles_cells 0 (16 * core.pages.v) l t.tiled in
    none_bad (eqb (length l) 0) (ltb 64 (length l)) (tile_from 0 l) (ltb 4096 (cells_of l))
    (ne_eqb (length l) 0 (λ z. omega (arith, z, t.used, t.some)))
    (le-ltb 64 (length l) (omega (arith, t.used, t.most)))
    (tiles_from 0 (16 * core.pages.v) l t.tiled)
    (le-ltb 4096 (cells_of l) (omega (arith, cells, v)))
