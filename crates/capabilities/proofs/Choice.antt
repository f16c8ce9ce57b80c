-- Laws of `pick`: what a choice by a test comes to, once the test is known. Assumes nothing.
use Prim.Native.Nat.{ℕ, ◌*◌, ◌≤◌}
use native.Mathlib.Omega.{arith}
use mathlib.Core.Bool.{Bool, true, false, not, ◌&&◌, ◌||◌, true≢false, false≢true}
use mathlib.Core.Path.{◌≡◌, refl, sym}
use borrow.Author.Tests.{ne_eqb}
use mir.Val.{bool_byte}
use lib.Dec.{eqb}
use Rattle.capabilities.specs.Lists.{pick}

module _ {ℓ} {A : Type ℓ} where
  pub pick_yes : (b : Bool) (x y : A) → b ≡ true → pick b x y ≡ x
  pick_yes true x y e = refl
  pick_yes false x y e = absurd (false≢true e)

  pub pick_no : (b : Bool) (x y : A) → b ≡ false → pick b x y ≡ y
  pick_no true x y e = absurd (true≢false e)
  pick_no false x y e = refl

  -- What a code other than 0 chooses.
  pub kept : (code : ℕ) (x y : A) → (code ≡ 0 → ⊥) → pick (eqb code 0) x y ≡ y
  kept code x y z = pick_no (eqb code 0) x y (ne_eqb code 0 z)

  pub pick_twice : (b : Bool) (x : A) → pick b x x ≡ x
  pick_twice true x = refl
  pick_twice false x = refl

pub and_left : (a b : Bool) → a && b ≡ true → a ≡ true
and_left true b e = refl
and_left false b e = e

pub and_right : (a b : Bool) → a && b ≡ true → b ≡ true
and_right true b e = e
and_right false b e = absurd (false≢true e)

-- A flag as a number.
pub byte_pick : (b : Bool) → bool_byte b ≡ pick b 1 0
byte_pick true = refl
byte_pick false = refl

-- A number times a flag's opposite.
pub times : (d : Bool) (n : ℕ) → n * bool_byte (not d) ≡ pick d 0 n
times true n = omega arith
times false n = omega arith

pub or_false : (a b : Bool) → a || b ≡ false → (a ≡ false) × (b ≡ false)
or_false true b e = absurd (true≢false e)
or_false false b e = (refl, e)

-- A number that a test may drop, and a flag, which counts for one at most.
pub pick_most : (b : Bool) (n : ℕ) → pick b n 0 ≤ n
pick_most true n = omega arith
pick_most false n = omega arith

pub at_most : (b : Bool) → pick b 1 0 ≤ 1
at_most b = pick_most b 1

-- A test that cannot hold is false.
pub is_false : (b : Bool) → (b ≡ true → ⊥) → b ≡ false
is_false true f = absurd (f refl)
is_false false f = refl

-- Two tests that hold together are one.
pub same_test : (a b : Bool) → (a ≡ true → b ≡ true) → (b ≡ true → a ≡ true) → a ≡ b
same_test true b f g = sym (f refl)
same_test false true f g = g refl
same_test false false f g = refl

pub both : (a b : Bool) → a ≡ true → b ≡ true → a && b ≡ true
both true b p q = q
both false b p q = p

-- A second test matters only where the first holds.
pub and_under : (a b c : Bool) → (a ≡ true → b ≡ c) → (a && b) ≡ (a && c)
and_under true b c h = h refl
and_under false b c h = refl

-- Four tests in another order.
pub cross : (a b c d : Bool) → (a && b) && (c && d) ≡ ((a && c) && (b && d))
cross false b c d = refl
cross true false false d = refl
cross true false true d = refl
cross true true c d = refl

pub never : (b : Bool) → b && false ≡ false
never true = refl
never false = refl
