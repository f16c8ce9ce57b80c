-- What the tests of ranges say of cells. Two ranges that share a cell share the higher of their bases; one lies within another if its first
-- and its last cell do; the closest cell of a range to a cell is that cell itself, the first or the last. Assumes nothing.
use Prim.Native.Nat.{ℕ, ◌+◌, ◌-◌, ◌<◌, ◌≤◌}
use native.Mathlib.Omega.{arith}
use mathlib.Core.Bool.{Bool, true, false}
use mathlib.Core.Path.{◌≡◌, refl}
use lib.Dec.{leb, ltb}
use borrow.Author.Tests.{leb-true, leb-false, ltb-true, ltb-false, le-leb, lt-ltb}
use Rattle.capabilities.specs.declared.Range.{Range}
use Rattle.capabilities.specs.Range.{inside}
use Rattle.capabilities.proofs.Choice.{and_left, and_right, both}
use Rattle.table.proofs.Cells.{inside_bounds, inside_made}
use Rattle.maps.specs.Cells.{shares, within, distance}
use Rattle.maps.specs.Promises.{Common, SharesMeans, WithinMeans, apart, DistanceMeans}

-- ---- Sharing
module _ (p q : Range) where
  shares_bounds : shares p q ≡ true → (q.base < p.base + p.length) × (p.base < q.base + q.length)
  unfolding shares
  shares_bounds e = (
    ltb-true q.base (p.base + p.length) (and_left (ltb q.base (p.base + p.length)) (ltb p.base (q.base + q.length)) e),
    ltb-true p.base (q.base + q.length) (and_right (ltb q.base (p.base + p.length)) (ltb p.base (q.base + q.length)) e),
  )

  shares_made : q.base < p.base + p.length → p.base < q.base + q.length → shares p q ≡ true
  unfolding shares
  shares_made a b =
      both (ltb q.base (p.base + p.length)) (ltb p.base (q.base + q.length)) (lt-ltb q.base (p.base + p.length) a) (lt-ltb p.base (q.base + q.length) b)

  higher_base : (b : Bool) → leb p.base q.base ≡ b → 0 < p.length → 0 < q.length → shares p q ≡ true → Common p q
  higher_base true h s t e =
      let g = shares_bounds e in
      (q.base, (inside_made p q.base (leb-true p.base q.base h) g.0, inside_made q q.base (omega arith) (omega (arith, t))))
  higher_base false h s t e =
      let g = shares_bounds e in
      (p.base, (inside_made p p.base (omega arith) (omega (arith, s)), inside_made q p.base (let k = leb-false p.base q.base h in omega (arith, k)) g.1))

  common_shares : Common p q → shares p q ≡ true
  common_shares (c, (i, j)) =
      let a = inside_bounds p c i in
      let b = inside_bounds q c j in
      shares_made (omega (arith, a, b)) (omega (arith, a, b))

pub shares_means : SharesMeans
shares_means p q s t = (higher_base p q (leb p.base q.base) refl s t, common_shares p q)

-- ---- Lying within
module _ (p q : Range) where
  within_cells : within p q ≡ true → (c : ℕ) → inside p c ≡ true → inside q c ≡ true
  unfolding within
  within_cells e c i =
      let a = leb-true q.base p.base (and_left (leb q.base p.base) (leb (p.base + p.length) (q.base + q.length)) e) in
      let b = leb-true (p.base + p.length) (q.base + q.length) (and_right (leb q.base p.base) (leb (p.base + p.length) (q.base + q.length)) e) in
      let k = inside_bounds p c i in
      inside_made q c (omega (arith, a, k)) (omega (arith, b, k))

  cells_within : 0 < p.length → ((c : ℕ) → inside p c ≡ true → inside q c ≡ true) → within p q ≡ true
  unfolding within
  cells_within s h =
      let last = p.base + p.length - 1 in
      let a = inside_bounds q p.base (h p.base (inside_made p p.base (omega arith) (omega (arith, s)))) in
      let b = inside_bounds q last (h last (inside_made p last (omega (arith, s)) (omega (arith, s)))) in
      both (leb q.base p.base) (leb (p.base + p.length) (q.base + q.length)) (le-leb q.base p.base a.0)
      (le-leb (p.base + p.length) (q.base + q.length) (omega (arith, b, s)))

pub within_means : WithinMeans
within_means p q s = (within_cells p q, cells_within p q s)

-- ---- Distance
abbrev Closest : ℕ → Range → Type 0
Closest c p = (d : ℕ) × ((inside p d ≡ true) × (apart c d ≡ distance c p))

module _ (c : ℕ) (p : Range) (s : 0 < p.length) where
  -- From the base on the closest cell is the cell itself, or the last one.
  above_base : p.base ≤ c → (b : Bool) → ltb c (p.base + p.length) ≡ b → Closest c p
  unfolding distance
  above_base h true e = let k = ltb-true c (p.base + p.length) e in (c, (inside_made p c h k, omega (arith, h, k)))
  above_base h false e =
      let k = ltb-false c (p.base + p.length) e in
      let last = p.base + p.length - 1 in
      (last, (inside_made p last (omega (arith, s)) (omega (arith, s)), omega (arith, h, k, s)))

  closest : (b : Bool) → leb p.base c ≡ b → Closest c p
  unfolding distance
  closest true e = above_base (leb-true p.base c e) (ltb c (p.base + p.length)) refl
  closest false e = let k = leb-false p.base c e in (p.base, (inside_made p p.base (omega arith) (omega (arith, s)), omega (arith, k, s)))

  no_closer : (d : ℕ) → inside p d ≡ true → distance c p ≤ apart c d
  unfolding distance
  no_closer d i = let k = inside_bounds p d i in omega (arith, k)

pub distance_means : DistanceMeans
distance_means c p s = (closest c p s (leb p.base c) refl, no_closer c p s)
