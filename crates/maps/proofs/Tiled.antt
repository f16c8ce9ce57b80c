-- Records that tile: each begins at its own cell, the first of them lowest. Assumes nothing.
use Prim.Native.Nat.{ℕ, ◌+◌, ◌<◌, ◌≤◌}
use native.Mathlib.Omega.{arith}
use mathlib.Core.Bool.{true, ◌&&◌}
use mathlib.Core.Logic.{inl, inr}
use mathlib.Core.List.{List, [], ◌∷◌}
use mathlib.Core.Path.{◌≡◌, sym, ◌∙◌, ap}
use lib.Dec.{eqb, ltb}
use borrow.Author.Tests.{eqb-true, ltb-true}
use Rattle.capabilities.specs.Lists.{In}
use Rattle.capabilities.proofs.Choice.{and_left, and_right}
use Rattle.table.specs.declared.Reservation.{Reservation}
use Rattle.maps.specs.Records.{tile_from}

-- What a tiling says of its first record.
pub record Begins (from : ℕ) (r : Reservation) (l : List Reservation) : Type 0 where
  pub base : r.base ≡ from
  pub some : 0 < r.length
  pub rest : tile_from (from + r.length) l ≡ true

pub tile_begin : (from : ℕ) (r : Reservation) (l : List Reservation) → tile_from from (r ∷ l) ≡ true → Begins from r l
unfolding tile_from
tile_begin from r l e =
    let first = eqb r.base from && ltb 0 r.length in
    let k = and_left first (tile_from (from + r.length) l) e in
    record {
      base = eqb-true r.base from (and_left (eqb r.base from) (ltb 0 r.length) k);
      some = ltb-true 0 r.length (and_right (eqb r.base from) (ltb 0 r.length) k);
      rest = and_right first (tile_from (from + r.length) l) e;
    }

-- None begins lower than the tiling.
pub tile_above : (from : ℕ) (l : List Reservation) (r : Reservation) → tile_from from l ≡ true → In r l → from ≤ r.base
tile_above from [] r e i = absurd i
tile_above from (x ∷ l) r e (inl i) = let g = tile_begin from x l e in omega (arith, g, ap (λ (y : Reservation). y.base) i)
tile_above from (x ∷ l) r e (inr i) =
    let g = tile_begin from x l e in
    omega (arith, tile_above (from + x.length) l r g.rest i)

-- Those behind the first begin above it.
pub tile_behind : (from : ℕ) (x : Reservation) (l : List Reservation) (r : Reservation) → tile_from from (x ∷ l) ≡ true → In r l → x.base < r.base
tile_behind from x l r e i = let g = tile_begin from x l e in omega (arith, g.base, g.some, tile_above (from + x.length) l r g.rest i)

-- Two with one base are one.
pub tile_one : (from : ℕ) (l : List Reservation) (r s : Reservation) → tile_from from l ≡ true → In r l → In s l → r.base ≡ s.base → r ≡ s
tile_one from [] r s e i j b = absurd i
tile_one from (x ∷ l) r s e (inl i) (inl j) b = i ∙ sym j
tile_one from (x ∷ l) r s e (inl i) (inr j) b = absurd (omega (arith, tile_behind from x l s e j, ap (λ (y : Reservation). y.base) i, b))
tile_one from (x ∷ l) r s e (inr i) (inl j) b = absurd (omega (arith, tile_behind from x l r e i, ap (λ (y : Reservation). y.base) j, b))
tile_one from (x ∷ l) r s e (inr i) (inr j) b = tile_one (from + x.length) l r s (tile_begin from x l e).rest i j b
