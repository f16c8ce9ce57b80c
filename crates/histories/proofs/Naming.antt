-- Each reservation is the one that its holder and its base name. Assumes nothing.
use Rattle.std.specs.Prelude.{Option, Some, None}
use Prim.Native.Nat.{ℕ, zero, suc, ◌≤◌, ◌<◌}
use native.Mathlib.Omega.{arith}
use mathlib.Core.Bool.{Bool, true, false, not, true≢false}
use mathlib.Core.List.{List, [], ◌∷◌}
use mathlib.Core.Path.{◌≡◌, refl, sym, ap, ◌∙◌}
use borrow.Author.Tests.{eq-eqb, eqb-true, leb-true, lt-ltb}
use lib.Dec.{eqb}
use lib.ListN.{length, get_or}
use Rattle.capabilities.specs.Lists.{pick}
use Rattle.capabilities.proofs.Choice.{and_left}
use Rattle.table.specs.declared.Reservation.{Reservation}
use Rattle.table.specs.Table.{Table}
use Rattle.table.specs.Find.{seek, find_of, begins, missing}
use Rattle.table.specs.Rows.{held, blank, live, range_of}
use Rattle.table.specs.Tiling.{row_sound, table_sound}
use Rattle.table.proofs.Cells.{inside_made, no_shared_cell}
use Rattle.table.proofs.Finding.{found_at}
use Rattle.table.proofs.Sound.{sound}
use Rattle.table.proofs.Tiled.{tiled_row, row_some, row_holder}
use Rattle.table.proofs.Truth.{both}
use Rattle.words.specs.WordReasons.{unnamed}
use Rattle.histories.specs.Inv.{row_at}

seek_finds : (P : Reservation → Bool) (k : ℕ) (l : List Reservation) (i : ℕ) → i < length l → P (get_or l i blank) ≡ true → missing (seek P k l) ≡ false
unfolding seek
seek_finds P k [] i h e = absurd (omega arith)
seek_finds P k (r ∷ l) zero h e = rw e refl
seek_finds P k (r ∷ l) (suc i) h e = go (P r) refl (seek_finds P (suc k) l i (omega arith) e)
  where
    go : (b : Bool) → P r ≡ b → missing (seek P (suc k) l) ≡ false → missing (pick (P r) (Some k) (seek P (suc k) l)) ≡ false
    go true p f = rw p refl
    go false p f = rw p f

pub sound_row : (cells : ℕ) (t : Table) → table_sound cells t ≡ true → (i : ℕ) → i < length (live t) → row_sound (row_at t i) ≡ true
sound_row cells t ok i h = tiled_row cells (live t) 0 i (sound cells t ok).tiled h

module _ (cells : ℕ) (t : Table) (ok : table_sound cells t ≡ true) (i : ℕ) (h : i < length (live t)) where
  abbrev test : Reservation → Bool
  test = begins (row_at t i).holder (row_at t i).base

  pub find_row : find_of t (row_at t i).holder (row_at t i).base ≡ Some i
  unfolding find_of
  find_row = go (seek test 0 (live t)) refl
    where
      own : test (row_at t i) ≡ true
      own = both (eqb (row_at t i).base (row_at t i).base) (held (row_at t i) (row_at t i).holder) (eq-eqb (row_at t i).base (row_at t i).base refl) (eq-eqb (row_at t i).holder (row_at t i).holder refl)

      go : (f : Option ℕ) → seek test 0 (live t) ≡ f → f ≡ Some i
      go (Some j) e =
          let here = found_at test (live t) j blank e in
          let base : (row_at t j).base ≡ (row_at t i).base = eqb-true (row_at t j).base (row_at t i).base (and_left (eqb (row_at t j).base (row_at t i).base) (held (row_at t j) (row_at t i).holder) here.1) in
          let some = row_some (row_at t i) (sound_row cells t ok i h) in
          let more = row_some (row_at t j) (sound_row cells t ok j here.0) in
          ap Some
          (no_shared_cell cells t j i (row_at t i).base ok here.0 h (inside_made (range_of (row_at t j)) (row_at t i).base (omega arith) (omega arith))
          (inside_made (range_of (row_at t i)) (row_at t i).base (omega arith) (omega arith)))
      go None e = absurd (true≢false (sym (ap missing e) ∙ seek_finds test 0 (live t) i h own))

  -- Its holder is a party.
  pub holder_named : unnamed (row_at t i).holder ≡ false
  holder_named =
      let b : (row_at t i).holder ≤ 7 = leb-true (row_at t i).holder 7 (row_holder (row_at t i) (sound_row cells t ok i h)) in
      ap not (lt-ltb (row_at t i).holder 8 (omega arith))
