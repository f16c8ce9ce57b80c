-- What is lent, read and written: the six small numbers, an answer's four, the arrays. Assumes nothing.
use Prim.Native.Nat.{ℕ}
use native.Mathlib.Omega.{arith}
use mathlib.Core.Bool.{Bool, true, false}
use mathlib.Core.List.{List, [], ◌∷◌}
use mathlib.Core.Logic.{◌≢◌}
use mathlib.Core.Path.{◌≡◌, refl, sym, ap, ◌∙◌}
use lib.ListN.{length, get_or}
use lib.Dec.{eqb}
use borrow.Author.Tests.{eqb-true, eq-eqb, ne_eqb}
use Rattle.capabilities.specs.Lists.{pick}
use Rattle.capabilities.proofs.Choice.{pick_yes, pick_no}
use Rattle.arrays.specs.declared.Arrays.{Arrays}
use Rattle.arrays.specs.declared.Numbers.{Numbers}
use Rattle.arrays.specs.Reading.{arrays}
use Rattle.cetomuhi.specs.Lent.{Lent, lent, small, numbers_from, numbers_over, arrays_in, arrays_over}

abbrev six : Numbers → List ℕ
six n = n.v ∷ n.f ∷ n.count ∷ n.place ∷ n.base ∷ n.length ∷ []

abbrev read : List ℕ → Numbers
read l = small (get_or l 0 0) (get_or l 1 0) (get_or l 2 0) (get_or l 3 0) (get_or l 4 0) (get_or l 5 0)

-- The two ways of a reading and of a writing: six numbers, or another count.
pub from_six : (l : List ℕ) → length l ≡ 6 → read l ≡ numbers_from l
unfolding numbers_from
from_six l h = sym (pick_yes (eqb (length l) 6) (read l) (small 0 0 0 0 0 0) (eq-eqb (length l) 6 h))

pub from_other : (l : List ℕ) → length l ≢ 6 → small 0 0 0 0 0 0 ≡ numbers_from l
unfolding numbers_from
from_other l h = sym (pick_no (eqb (length l) 6) (read l) (small 0 0 0 0 0 0) (ne_eqb (length l) 6 h))

pub over_six : (n : Numbers) (l : List ℕ) → length l ≡ 6 → six n ≡ numbers_over n l
unfolding numbers_over
over_six n l h = sym (pick_yes (eqb (length l) 6) (six n) l (eq-eqb (length l) 6 h))

pub over_other : (n : Numbers) (l : List ℕ) → length l ≢ 6 → l ≡ numbers_over n l
unfolding numbers_over
over_other n l h = sym (pick_no (eqb (length l) 6) (six n) l (ne_eqb (length l) 6 h))

-- Small numbers written over six are read back.
pub written_read : (n : Numbers) (l : List ℕ) → length l ≡ 6 → numbers_from (numbers_over n l) ≡ n
written_read n l h = ap numbers_from (sym (over_six n l h)) ∙ sym (from_six (six n) refl)

-- Those that were read, written back, change nothing.
all_there : (l : List ℕ) → length l ≡ 6 → six (read l) ≡ l
all_there [] h = let z : ⊥ = omega arith in absurd z
all_there (x₀ ∷ []) h = let z : ⊥ = omega arith in absurd z
all_there (x₀ ∷ x₁ ∷ []) h = let z : ⊥ = omega arith in absurd z
all_there (x₀ ∷ x₁ ∷ x₂ ∷ []) h = let z : ⊥ = omega arith in absurd z
all_there (x₀ ∷ x₁ ∷ x₂ ∷ x₃ ∷ []) h = let z : ⊥ = omega arith in absurd z
all_there (x₀ ∷ x₁ ∷ x₂ ∷ x₃ ∷ x₄ ∷ []) h = let z : ⊥ = omega arith in absurd z
all_there (x₀ ∷ x₁ ∷ x₂ ∷ x₃ ∷ x₄ ∷ x₅ ∷ []) h = refl
all_there (x₀ ∷ x₁ ∷ x₂ ∷ x₃ ∷ x₄ ∷ x₅ ∷ x₆ ∷ l) h = let z : ⊥ = omega arith in absurd z

pub read_written : (l : List ℕ) → numbers_over (numbers_from l) l ≡ l
unfolding numbers_over
read_written l = go (eqb (length l) 6) refl
  where
    go : (b : Bool) → eqb (length l) 6 ≡ b → pick (eqb (length l) 6) (six (numbers_from l)) l ≡ l
    go true e = let h = eqb-true (length l) 6 e in pick_yes (eqb (length l) 6) (six (numbers_from l)) l e ∙ ap six (sym (from_six l h)) ∙ all_there l h
    go false e = pick_no (eqb (length l) 6) (six (numbers_from l)) l e

-- Arrays written over what is lent are read back; those that were read change nothing.
pub arrays_back : (a : Arrays) (l : Lent) → length l.numbers ≡ 6 → arrays_in (arrays_over a l) ≡ a
arrays_back a l h = ap (λ (n : Numbers). arrays n a.words a.marks a.mail a.flags a.rows a.pages a.frames a.principals a.counts) (written_read a.nums l.numbers h)

pub lent_back : (l : Lent) → arrays_over (arrays_in l) l ≡ l
lent_back l = ap (λ (x : List ℕ). lent x l.words l.marks l.mail l.flags l.rows l.pages l.frames l.principals l.counts) (read_written l.numbers)
