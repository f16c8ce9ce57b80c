-- What two ranges and a cell are to each other, by the tests that the code makes.
use mathlib.Core.Path.{◌≡◌, refl, sym, ◌∙◌, ap}
use Prim.Native.Nat.{ℕ, ◌+◌, ◌-◌, ◌<◌, ◌≤◌}
use mathlib.Core.Bool.{Bool, true, false, ◌&&◌}
use lib.Dec.{leb, ltb}
use borrow.Author.Tests.{ltb-true, leb-true, lt-ltb, le-ltb, le-leb, lt-leb}
use native.Mathlib.Omega.{arith}
use Rattle.capabilities.proofs.Choice.{same_test}
use Rattle.maps.specs.Cells.{span, shares, within, distance, beyond}

-- It ends before the range begins.
pub ends_before : (b l f n : ℕ) → b + l ≤ f → false ≡ shares (span b l) (span f n)
unfolding shares
ends_before b l f n e = sym (ap (λ (t : Bool). t && ltb b (f + n)) (le-ltb f (b + l) e))

-- It begins before the range and ends in it or behind it.
pub begins_before : (b l f n : ℕ) → f < b + l → b < f → true ≡ shares (span b l) (span f n)
unfolding shares
begins_before b l f n e g = sym (ap (λ (t : Bool). t && ltb b (f + n)) (lt-ltb f (b + l) e) ∙ lt-ltb b (f + n) (omega (arith, g)))

from_there : (b f n : ℕ) → f ≤ b → ltb (b - f) n ≡ ltb b (f + n)
from_there b f n g = same_test (ltb (b - f) n) (ltb b (f + n))
    (λ e. lt-ltb b (f + n) (let h = ltb-true (b - f) n e in omega (arith, h, g)))
    (λ e. lt-ltb (b - f) n (let h = ltb-true b (f + n) e in omega (arith, h, g)))

-- It begins in the range or behind it.
pub begins_there : (b l f n : ℕ) → f < b + l → f ≤ b → ltb (b - f) n ≡ shares (span b l) (span f n)
unfolding shares
begins_there b l f n e g = from_there b f n g ∙ sym (ap (λ (t : Bool). t && ltb b (f + n)) (lt-ltb f (b + l) e))

pub not_within : (b l f n : ℕ) → b < f → false ≡ within (span b l) (span f n)
unfolding within
not_within b l f n e = sym (ap (λ (t : Bool). t && leb (b + l) (f + n)) (lt-leb f b e))

up_to : (e f n : ℕ) → f ≤ e → leb (e - f) n ≡ leb e (f + n)
up_to e f n g = same_test (leb (e - f) n) (leb e (f + n))
    (λ t. le-leb e (f + n) (let h = leb-true (e - f) n t in omega (arith, h, g)))
    (λ t. le-leb (e - f) n (let h = leb-true e (f + n) t in omega (arith, h, g)))

pub ends_within : (b l f n : ℕ) → f ≤ b → leb ((b + l) - f) n ≡ within (span b l) (span f n)
unfolding within
ends_within b l f n g = up_to (b + l) f n (omega (arith, g)) ∙ sym (ap (λ (t : Bool). t && leb (b + l) (f + n)) (le-leb f b g))

pub distance_below : (b l c : ℕ) → c < b → b - c ≡ distance c (span b l)
unfolding distance
distance_below b l c e = omega (arith, e)

pub distance_inside : (b l c : ℕ) → b ≤ c → c < b + l → 0 ≡ distance c (span b l)
unfolding distance
distance_inside b l c e g = omega (arith, e, g)

pub distance_none : (b l c : ℕ) → b + l ≡ 0 → c ≡ distance c (span b l)
unfolding distance
distance_none b l c e = omega (arith, e)

pub distance_above : (b l c : ℕ) → b + l ≤ c → (b + l ≡ 0 → ⊥) → c - (b + l - 1) ≡ distance c (span b l)
unfolding distance
distance_above b l c e g = go (b + l) refl
  where
    go : (s : ℕ) → b + l ≡ s → c - (b + l - 1) ≡ (b - c) + (c - (b + l - 1))
    go s h = omega (arith, e)

pub past : (e f n : ℕ) → e < f → true ≡ beyond e (span f n)
unfolding beyond
past e f n g = sym (lt-ltb e (f + n) (omega (arith, g)))

pub not_past : (e f n : ℕ) → f ≤ e → ltb (e - f) n ≡ beyond e (span f n)
unfolding beyond
not_past e f n g = from_there e f n g
