-- A well-formed table as plain facts, and a table made of its used and unused rows. Assumes nothing.
use Rattle.std.specs.Prelude.{Some}
use Prim.Native.Nat.{ℕ, ◌+◌, ◌<◌, ◌≤◌}
use native.Mathlib.Omega.{arith}
use mathlib.Core.Bool.{Bool, true, ◌&&◌}
use mathlib.Core.List.{List, ◌++◌}
use mathlib.Core.Path.{◌≡◌, sym, ap, ◌∙◌}
use borrow.Author.Tests.{eqb-true, eq-eqb, ltb-true, lt-ltb, leb-true, le-leb}
use lib.Dec.{eqb, ltb, leb}
use lib.ListN.{length, drop, set, length-append, length-set, take-append-drop}
use lib.Seq.{take-append_seam, drop-append_seam, set-append_left}
use Rattle.capabilities.proofs.Choice.{and_left, and_right}
use Rattle.table.specs.declared.Reservation.{Reservation}
use Rattle.table.specs.Table.{Table}
use Rattle.table.specs.Rows.{live, table}
use Rattle.table.specs.Find.{with_row}
use Rattle.table.specs.Tiling.{tiles, all_blank, revokings, sized, table_sound}
use Rattle.table.proofs.Truth.{both}
use Rattle.table.proofs.Moving.{live_length}

pub record Sound (cells : ℕ) (t : Table) : Type 0 where
  pub rows : length t.rows ≡ 64
  pub some : 0 < t.count
  pub most : t.count ≤ 64
  pub used : length (live t) ≡ t.count
  pub tiled : tiles 0 cells (live t) ≡ true
  pub unused : all_blank (drop t.count t.rows) ≡ true
  pub single : revokings (live t) ≤ 1

module _ (cells : ℕ) (t : Table) where
  abbrev bounds : Bool
  bounds = ltb 0 t.count && leb t.count 64

  abbrev tail : Bool
  tail = all_blank (drop t.count t.rows) && leb (revokings (live t)) 1

  pub sound : table_sound cells t ≡ true → Sound cells t
  unfolding table_sound sized
  sound e =
      let front = and_left (sized t && tiles 0 cells (live t)) tail e in
      let back = and_right (sized t && tiles 0 cells (live t)) tail e in
      let s = and_left (sized t) (tiles 0 cells (live t)) front in
      let n = and_right (eqb (length t.rows) 64) bounds s in
      let rows : length t.rows ≡ 64 = eqb-true (length t.rows) 64 (and_left (eqb (length t.rows) 64) bounds s) in
      let some : 0 < t.count = ltb-true 0 t.count (and_left (ltb 0 t.count) (leb t.count 64) n) in
      let most : t.count ≤ 64 = leb-true t.count 64 (and_right (ltb 0 t.count) (leb t.count 64) n) in
      record {
        rows = rows;
        some = some;
        most = most;
        used = omega (arith, live_length t);
        tiled = and_right (sized t) (tiles 0 cells (live t)) front;
        unused = and_left (all_blank (drop t.count t.rows)) (leb (revokings (live t)) 1) back;
        single = leb-true (revokings (live t)) 1 (and_right (all_blank (drop t.count t.rows)) (leb (revokings (live t)) 1) back);
      }

  pub sound_back : length t.rows ≡ 64 → 0 < t.count → t.count ≤ 64 → tiles 0 cells (live t) ≡ true → all_blank (drop t.count t.rows) ≡ true → revokings (live t) ≤ 1 → table_sound cells t ≡ true
  unfolding table_sound sized
  sound_back rows some most tiled unused single =
      both (sized t && tiles 0 cells (live t)) tail
      (both (sized t) (tiles 0 cells (live t))
      (both (eqb (length t.rows) 64) bounds (eq-eqb (length t.rows) 64 rows)
      (both (ltb 0 t.count) (leb t.count 64) (lt-ltb 0 t.count some) (le-leb t.count 64 most)))
      tiled)
      (both (all_blank (drop t.count t.rows)) (leb (revokings (live t)) 1) unused (le-leb (revokings (live t)) 1 single))

-- A table of used rows l and unused rows z.
pub live_made : (l z : List Reservation) → live (table (l ++ z) (length l)) ≡ l
unfolding live
live_made l z = take-append_seam l z

pub made_sound : (cells : ℕ) (l z : List Reservation) → length l + length z ≡ 64 → 0 < length l → tiles 0 cells l ≡ true → all_blank z ≡ true → revokings l ≤ 1 → table_sound cells (table (l ++ z) (length l)) ≡ true
made_sound cells l z rows some tiled unused single =
    sound_back cells (table (l ++ z) (length l)) (length-append l z ∙ rows) some (omega arith)
    (ap (tiles 0 cells) (live_made l z) ∙ tiled)
    (ap all_blank (drop-append_seam l z) ∙ unused)
    (omega (arith, ap revokings (live_made l z)))

-- Its rows are the used ones and the unused ones.
pub rows_parts : (t : Table) → t.rows ≡ live t ++ drop t.count t.rows
unfolding live
rows_parts t = sym (take-append-drop t.count t.rows)

-- A row in use is put in place of the old one.
pub with_made : (cells : ℕ) (t : Table) (i : ℕ) (r : Reservation) → Sound cells t → i < length (live t) → with_row t (Some i) r ≡ table (set (live t) i r ++ drop t.count t.rows) (length (set (live t) i r))
unfolding with_row
with_made cells t i r s h =
    let n : t.count ≡ length (set (live t) i r) = sym (length-set (live t) i r ∙ s.used) in
    ap (λ l. table (set l i r) t.count) (rows_parts t)
    ∙ ap (λ l. table l t.count) (set-append_left (live t) (drop t.count t.rows) i r h)
    ∙ ap (table (set (live t) i r ++ drop t.count t.rows)) n
