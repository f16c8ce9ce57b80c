-- Which capabilities die, said for a loop and for a range that is empty. Assumes nothing.
use Prim.Native.Nat.{ℕ, ◌+◌, ◌-◌, ◌<◌, ◌≤◌, min}
use native.Mathlib.Omega.{arith}
use mathlib.Core.Bool.{Bool, true, false, ◌&&◌}
use mathlib.Core.Path.{◌≡◌, refl, ap, ◌∙◌}
use lib.Dec.{leb, ltb}
use borrow.Author.Tests.{leb-true, ltb-true, ltb-false, le-leb, lt-leb, le-ltb}
use Rattle.capabilities.specs.declared.Range.{Range}
use Rattle.capabilities.specs.Capability.{base_of}
use Rattle.capabilities.specs.Range.{inside}
use Rattle.capabilities.specs.Death.{dies, last_of}

-- A base lies in a range that is not empty if it lies between the first cell and the last.
to_last : (r : Range) (x : ℕ) → 0 < r.length → x < 65536 → (leb r.base x && leb x (last_of r)) ≡ inside r x
unfolding inside last_of
to_last r x h k = ap (λ b. leb r.base x && b) (go (ltb x (r.base + r.length)) refl)
  where
    go : (b : Bool) → ltb x (r.base + r.length) ≡ b → leb x (min (r.base + (r.length - 1)) 65535) ≡ b
    go true e = let z : x < r.base + r.length = ltb-true x (r.base + r.length) e in le-leb x (min (r.base + (r.length - 1)) 65535) (omega arith)
    go false e = let z : r.base + r.length ≤ x = ltb-false x (r.base + r.length) e in lt-leb x (min (r.base + (r.length - 1)) 65535) (omega arith)

-- What a loop tests: the base between two numbers.
pub by_last : (r : Range) (last base cell : ℕ) → 0 < r.length → last ≡ last_of r → base ≡ base_of cell → (leb r.base base && leb base last) ≡ dies r cell
unfolding dies
by_last r last base cell some el eb =
    ap (λ n. leb r.base base && leb base n) el ∙ to_last r base some (omega (arith, eb)) ∙ ap (inside r) eb

-- With an empty range none dies.
pub none_dies : (r : Range) (cell : ℕ) → r.length ≡ 0 → dies r cell ≡ false
unfolding dies inside
none_dies r cell e = go (leb r.base (base_of cell)) refl
  where
    go : (b : Bool) → leb r.base (base_of cell) ≡ b → (b && ltb (base_of cell) (r.base + r.length)) ≡ false
    go true p = let h = leb-true r.base (base_of cell) p in le-ltb (base_of cell) (r.base + r.length) (omega arith)
    go false p = refl
