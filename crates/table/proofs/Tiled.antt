-- Laws of `tiles`: a front part may be exchanged for another that ends at the same cell. Assumes nothing.
use Prim.Native.Nat.{ℕ, zero, suc, ◌+◌, ◌<◌, ◌≤◌}
use native.Mathlib.Omega.{arith}
use mathlib.Core.Bool.{true, ◌&&◌, ◌||◌}
use mathlib.Core.List.{List, [], ◌∷◌, ◌++◌}
use mathlib.Core.Path.{◌≡◌, refl, ap, ◌∙◌}
use borrow.Author.Tests.{eqb-true, eq-eqb, ltb-true, lt-ltb}
use lib.Dec.{eqb, ltb, leb}
use lib.ListN.{length, get_or, drop}
use lib.Seq.{drop-cons}
use native.Mathlib.Numerals.{add-one}
use Rattle.capabilities.proofs.Choice.{and_left, and_right}
use Rattle.table.specs.declared.Reservation.{Reservation}
use Rattle.table.specs.declared.ReservationState.TheVariants.{Open}
use Rattle.table.specs.Rows.{is_open, is_blank, blank, reservation}
use Rattle.table.specs.Tiling.{row_sound, follows, tiles, all_blank, revokings, weight}
use Rattle.table.proofs.Truth.{both}

-- What a tiling says of its first reservation.
pub record Begins (from upto : ℕ) (r : Reservation) (l : List Reservation) : Type 0 where
  pub base : r.base ≡ from
  pub some : 0 < r.length
  pub row : row_sound r ≡ true
  pub rest : tiles (from + r.length) upto l ≡ true
  pub fits : from + r.length ≤ upto

pub tiles_none : (from upto : ℕ) → tiles from upto [] ≡ true → from ≡ upto
unfolding tiles
tiles_none from upto e = eqb-true from upto e

pub tiles_le : (from upto : ℕ) (l : List Reservation) → tiles from upto l ≡ true → from ≤ upto
unfolding tiles
tiles_le from upto [] e = omega (arith, eqb-true from upto e)
tiles_le from upto (r ∷ l) e = omega (arith, tiles_le (from + r.length) upto l (and_right (follows from r) (tiles (from + r.length) upto l) e))

pub row_some : (r : Reservation) → row_sound r ≡ true → 0 < r.length
row_some r e = ltb-true 0 r.length (and_left (ltb 0 r.length) (leb r.holder 7) (and_left (ltb 0 r.length && leb r.holder 7) (is_open r.state || eqb r.holder 0) e))

pub tiles_begin : (from upto : ℕ) (r : Reservation) (l : List Reservation) → tiles from upto (r ∷ l) ≡ true → Begins from upto r l
unfolding tiles
tiles_begin from upto r l e =
    let f = and_left (follows from r) (tiles (from + r.length) upto l) e in
    let s = and_right (eqb r.base from) (row_sound r) f in
    let q = and_right (follows from r) (tiles (from + r.length) upto l) e in
    record { base = eqb-true r.base from (and_left (eqb r.base from) (row_sound r) f); some = row_some r s; row = s; rest = q; fits = tiles_le (from + r.length) upto l q }

pub tiles_made : (from upto : ℕ) (r : Reservation) (l : List Reservation) → r.base ≡ from → row_sound r ≡ true → tiles (from + r.length) upto l ≡ true → tiles from upto (r ∷ l) ≡ true
unfolding tiles
tiles_made from upto r l b s q = both (follows from r) (tiles (from + r.length) upto l) (both (eqb r.base from) (row_sound r) (eq-eqb r.base from b) s) q

-- What stands above a seam may be exchanged.
pub tiles_swap : (upto : ℕ) (pre old new : List Reservation) → ((m : ℕ) → tiles m upto old ≡ true → tiles m upto new ≡ true) → (from : ℕ) → tiles from upto (pre ++ old) ≡ true → tiles from upto (pre ++ new) ≡ true
tiles_swap upto [] old new f from e = f from e
tiles_swap upto (r ∷ pre) old new f from e =
    let b = tiles_begin from upto r (pre ++ old) e in
    tiles_made from upto r (pre ++ new) b.base b.row (tiles_swap upto pre old new f (from + r.length) b.rest)

pub revokings_append : (l m : List Reservation) → revokings (l ++ m) ≡ revokings l + revokings m
unfolding revokings
revokings_append [] m = omega arith
revokings_append (r ∷ l) m = rw (revokings_append l m) (omega arith)

pub revokings_first : (r : Reservation) (l : List Reservation) → revokings (r ∷ l) ≡ weight r + revokings l
unfolding revokings
revokings_first r l = refl

-- A sound reservation of another length, and one that is Open, are sound.
pub row_holder : (r : Reservation) → row_sound r ≡ true → leb r.holder 7 ≡ true
row_holder r e = and_right (ltb 0 r.length) (leb r.holder 7) (and_left (ltb 0 r.length && leb r.holder 7) (is_open r.state || eqb r.holder 0) e)

pub row_resized : (r s : Reservation) → row_sound r ≡ true → s.state ≡ r.state → s.holder ≡ r.holder → 0 < s.length → row_sound s ≡ true
row_resized r s e same own h =
    both (ltb 0 s.length && leb s.holder 7) (is_open s.state || eqb s.holder 0)
    (both (ltb 0 s.length) (leb s.holder 7) (lt-ltb 0 s.length h) (ap (λ k. leb k 7) own ∙ row_holder r e))
    (ap (λ k. is_open k || eqb s.holder 0) same ∙ ap (λ k. is_open r.state || eqb k 0) own
    ∙ and_right (ltb 0 r.length && leb r.holder 7) (is_open r.state || eqb r.holder 0) e)

pub row_open : (base n holder taker : ℕ) → leb holder 7 ≡ true → 0 < n → row_sound (reservation base n Open holder taker) ≡ true
row_open base n holder taker e h = both (ltb 0 n && leb holder 7) true (both (ltb 0 n) (leb holder 7) (lt-ltb 0 n h) e) refl

-- Each row of a tiling is sound.
pub tiled_row : (upto : ℕ) (l : List Reservation) (from i : ℕ) → tiles from upto l ≡ true → i < length l → row_sound (get_or l i blank) ≡ true
tiled_row upto [] from i e h = absurd (omega arith)
tiled_row upto (r ∷ l) from zero e h = (tiles_begin from upto r l e).row
tiled_row upto (r ∷ l) from (suc i) e h = tiled_row upto l (from + r.length) i (tiles_begin from upto r l e).rest (omega arith)

pub tiled_some : (upto : ℕ) (l : List Reservation) (from i : ℕ) → tiles from upto l ≡ true → i < length l → 0 < (get_or l i blank).length
tiled_some upto l from i e h = row_some (get_or l i blank) (tiled_row upto l from i e h)

-- The next reservation begins where this one ends.
pub tiled_next : (upto : ℕ) (l : List Reservation) (from i : ℕ) → tiles from upto l ≡ true → suc i < length l → (get_or l (suc i) blank).base ≡ (get_or l i blank).base + (get_or l i blank).length
tiled_next upto [] from i e h = absurd (omega arith)
tiled_next upto (r ∷ []) from i e h = absurd (omega arith)
tiled_next upto (r ∷ (s ∷ l)) from zero e h =
    let g = tiles_begin from upto r (s ∷ l) e in
    let k = tiles_begin (from + r.length) upto s l g.rest in
    omega (arith, g, k)
tiled_next upto (r ∷ (s ∷ l)) from (suc i) e h = tiled_next upto (s ∷ l) (from + r.length) i (tiles_begin from upto r (s ∷ l) e).rest (omega arith)

-- No reservation of a tiling runs past its end.
pub tiled_fits : (upto : ℕ) (l : List Reservation) (from i : ℕ) → tiles from upto l ≡ true → i < length l → (get_or l i blank).base + (get_or l i blank).length ≤ upto
tiled_fits upto [] from i e h = absurd (omega arith)
tiled_fits upto (r ∷ l) from zero e h = let g = tiles_begin from upto r l e in omega (arith, g)
tiled_fits upto (r ∷ l) from (suc i) e h = tiled_fits upto l (from + r.length) i (tiles_begin from upto r l e).rest (omega arith)

-- What is left of the unused rows, one row more.
pub blank_more : (l : List Reservation) (i : ℕ) (d : Reservation) → i < length l → all_blank (drop i l) ≡ (is_blank (get_or l i d) && all_blank (drop (i + 1) l))
unfolding all_blank
blank_more l i d h = rw (add-one i, drop-cons l i d h)
