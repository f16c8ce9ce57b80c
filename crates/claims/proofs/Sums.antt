-- Laws of sums. Assumes nothing.
use Prim.Native.Nat.{ℕ, zero, suc, ◌+◌, ◌*◌, ◌<◌, ◌≤◌}
use native.Mathlib.Nat.{mul-suc}
use native.Mathlib.Numerals.{add-one}
use native.Mathlib.Omega.{arith}
use mathlib.Core.Bool.{Bool, true, false}
use mathlib.Core.Path.{◌≡◌, refl, sym, ap, ◌∙◌}
use lib.Dec.{eqb}
use borrow.Author.Tests.{eqb-true, eqb-false, eq-eqb, ne_eqb}
use Rattle.capabilities.specs.Lists.{pick}
use Rattle.capabilities.proofs.Choice.{pick_yes, pick_no}
use Rattle.claims.specs.Claims.{sum}

-- What is summed may be known by another name.
pub sum_same : (n : ℕ) (f g : ℕ → ℕ) → ((i : ℕ) → i < n → f i ≡ g i) → sum n f ≡ sum n g
unfolding sum
sum_same zero f g e = refl
sum_same (suc n) f g e = let a = sum_same n f g (λ i h. e i (omega arith)) in let b = e n (omega arith) in omega (arith, a, b)

-- One summand more, as a loop goes.
pub sum_turn : (f : ℕ → ℕ) (n total x : ℕ) → total ≡ sum n f → x ≡ f n → total + x ≡ sum (n + 1) f
unfolding sum
sum_turn f n total x t e = (λ i. t i + e i) ∙ ap (λ k. sum k f) (sym (add-one n))

-- Where one summand is another, the sum differs by the difference.
pub sum_one : (n k : ℕ) (f g : ℕ → ℕ) → k < n → ((i : ℕ) → i < n → (i ≡ k → ⊥) → f i ≡ g i) → sum n f + g k ≡ sum n g + f k
unfolding sum
sum_one zero k f g h e = let z : ⊥ = omega arith in absurd z
sum_one (suc n) k f g h e = go (eqb n k) refl (λ l. sum_one n k f g l (λ i m. e i (omega arith)))
  where
    go : (b : Bool) → eqb n k ≡ b → (k < n → sum n f + g k ≡ sum n g + f k) → (sum n f + f n) + g k ≡ (sum n g + g n) + f k
    go true q rest =
        let same : n ≡ k = eqb-true n k q in
        let a = sum_same n f g (λ i l. e i (omega arith) (λ x. omega arith)) in
        let x = ap f same in
        let y = ap g same in
        omega (arith, a, x, y)
    go false q rest =
        let other = eqb-false n k q in
        let a = rest (omega (arith, other)) in
        let b = e n (omega arith) other in
        omega (arith, a, b)

-- A summand is at most the sum.
pub summand : (n k : ℕ) (f : ℕ → ℕ) → k < n → f k ≤ sum n f
summand n k f h =
    let others = sum_one n k f (λ i. pick (eqb i k) 0 (f i)) h (λ i l e. sym (pick_no (eqb i k) 0 (f i) (ne_eqb i k e))) in
    omega (arith, others, pick_yes (eqb k k) 0 (f k) (eq-eqb k k refl))

-- Where no summand is above b.
pub sum_most : (b : ℕ) (f : ℕ → ℕ) → ((i : ℕ) → f i ≤ b) → (n : ℕ) → sum n f ≤ b * n
unfolding sum
sum_most b f h zero = omega arith
sum_most b f h (suc n) = rw mul-suc (let a = sum_most b f h n in let m = h n in omega (arith, a, m))

-- A sum in two parts, by a test.
pub sum_parts : (n : ℕ) (b : ℕ → Bool) (f : ℕ → ℕ) → sum n (λ i. pick (b i) (f i) 0) + sum n (λ i. pick (b i) 0 (f i)) ≡ sum n f
unfolding sum
sum_parts zero b f = refl
sum_parts (suc n) b f =
    let a = sum_parts n b f in
    let c = one (b n) (f n) in
    omega (arith, a, c)
  where
    one : (t : Bool) (x : ℕ) → pick t x 0 + pick t 0 x ≡ x
    one true x = omega arith
    one false x = omega arith
