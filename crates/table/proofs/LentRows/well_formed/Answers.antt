-- `table::LentRows::well_formed` meets its contract.
use mathlib.Core.Path.{sym, ap, ◌∙◌}
use Prim.Native.Nat.{ℕ}
use mathlib.Core.Bool.{Bool, ◌&&◌}
use lib.Dec.{eqb, ltb, leb}
use lib.ListN.{length, take, drop, length-map}
use Rattle.table.specs.Rows.{live}
use Rattle.table.specs.Tiling.{tiles, takers_sound, revokings, sized}
use Rattle.table.specs.Numbers.{row_from, table_of, all_written}
use Rattle.table.specs.Sound.{all_zero}
use Rattle.table.proofs.Testing.{test_parts}
use Rattle.table.proofs.LentRows.well_formed.Goals as goal

pub returns : goal.returns
unfolding sized
returns c =
    let a = c.args in
    let l = a.self.rows.now in
    let n = a.self.count in
    let t = table_of l n in
    let tiling = (tiles 0 a.cells (live t) && takers_sound (live t)) && all_written (take n l) in
    let fits : ℕ → Bool = λ k. eqb k 64 && (ltb 0 n && leb n 64) in
    ap (λ b. (fits (length l) && b) && (c.rest_zero.result && leb c.revokings.result 1)) c.tiled.ensures
    ∙ ap (λ b. (fits (length l) && tiling) && (b && leb c.revokings.result 1)) c.rest_zero.ensures
    ∙ ap (λ k. (fits (length l) && tiling) && (all_zero (drop n l) && leb k 1)) c.revokings.ensures
    ∙ ap (λ k. (fits k && tiling) && (all_zero (drop n l) && leb (revokings (live t)) 1)) (sym (length-map l row_from))
    ∙ test_parts a.cells l n
