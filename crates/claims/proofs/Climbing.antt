-- Steps up by a function on numbers: before they first reach 0 no number comes twice, so below n they reach it within n - 1 steps. Assumes nothing.
use Prim.Native.Nat.{ℕ, zero, suc, ◌+◌, ◌-◌, ◌<◌, ◌≤◌}
use native.Mathlib.Nat.{zero-add, suc-add}
use native.Mathlib.Omega.{arith}
use mathlib.Core.Bool.{Bool, true, false}
use mathlib.Core.Path.{◌≡◌, refl, sym, ap, ◌∙◌}
use lib.Dec.{eqb, leb}
use borrow.Author.Tests.{eqb-true, eqb-false, leb-true, leb-false}
use Rattle.capabilities.specs.Lists.{pick}

-- Of m + 1 numbers below n + 1, no two the same, the last one stands in for n: the others are then m numbers below n.
module _ (m n : ℕ) (f : ℕ → ℕ) (below : (i : ℕ) → i < suc m → f i < suc n) (differ : (i j : ℕ) → i < j → j < suc m → f i ≡ f j → ⊥) where
  unfoldable lower : ℕ → ℕ
  lower i = pick (eqb (f i) n) (f m) (f i)

  lower_by : (P : ℕ → Type 0) (i : ℕ) → (f i ≡ n → P (f m)) → ((f i ≡ n → ⊥) → P (f i)) → P (lower i)
  unfolding lower
  lower_by P i replaced kept = go (eqb (f i) n) refl
    where
      go : (b : Bool) → eqb (f i) n ≡ b → P (pick b (f m) (f i))
      go true e = replaced (eqb-true (f i) n e)
      go false e = kept (eqb-false (f i) n e)

  lower_below : (i : ℕ) → i < m → lower i < n
  lower_below i h =
      lower_by (λ x. x < n) i
      (λ e. let d : f m ≡ n → ⊥ = λ x. differ i m h (omega arith) (e ∙ sym x) in let b = below m (omega arith) in omega (arith, d, b))
      (λ d. let b = below i (omega arith) in omega (arith, d, b))

  lower_differ : (i j : ℕ) → i < j → j < m → lower i ≡ lower j → ⊥
  lower_differ i j h k =
      lower_by (λ x. x ≡ lower j → ⊥) i
      (λ e. lower_by (λ x. f m ≡ x → ⊥) j (λ q x. differ i j h (omega arith) (e ∙ sym q)) (λ q x. differ j m k (omega arith) (sym x)))
      (λ e. lower_by (λ x. f i ≡ x → ⊥) j (λ q. differ i m (omega arith) (omega arith)) (λ q. differ i j h (omega arith)))

-- The pigeonhole principle: numbers below n of which no two are the same are at most n.
pub pigeonhole : (m n : ℕ) (f : ℕ → ℕ) → ((i : ℕ) → i < m → f i < n) → ((i j : ℕ) → i < j → j < m → f i ≡ f j → ⊥) → m ≤ n
pigeonhole zero n f below differ = omega arith
pigeonhole (suc m) zero f below differ = let z = below 0 (omega arith) in omega (arith, z)
pigeonhole (suc m) (suc n) f below differ =
    let l = pigeonhole m n (lower m n f below differ) (lower_below m n f below differ) (lower_differ m n f below differ) in
    omega (arith, l)

module _ (up : ℕ → ℕ) where
  unfoldable pub climb : ℕ → ℕ → ℕ
  climb zero p = p
  climb (suc n) p = climb n (up p)

  climb_add : (m n p : ℕ) → climb (m + n) p ≡ climb n (climb m p)
  unfolding climb
  climb_add zero n p = rw zero-add
  climb_add (suc m) n p = rw suc-add (climb_add m n (up p))

  -- What each step keeps.
  pub climb_keeps : (P : ℕ → Type 0) → ((q : ℕ) → P q → P (up q)) → (n p : ℕ) → P p → P (climb n p)
  unfolding climb
  climb_keeps P step zero p h = h
  climb_keeps P step (suc n) p h = climb_keeps P step n (up p) (step p h)

  -- 0 is not left.
  pub climb_zero : up 0 ≡ 0 → (n : ℕ) → climb n 0 ≡ 0
  unfolding climb
  climb_zero top zero = refl
  climb_zero top (suc n) = rw top (climb_zero top n)

  -- Steps that were at 0 are at 0 later.
  pub climb_on : up 0 ≡ 0 → (m n p : ℕ) → m ≤ n → climb m p ≡ 0 → climb n p ≡ 0
  climb_on top m n p h e =
      let s : m + (n - m) ≡ n = omega arith in
      ap (λ k. climb k p) (sym s) ∙ climb_add m (n - m) p ∙ ap (climb (n - m)) e ∙ climb_zero top (n - m)

  -- The first time at 0.
  pub record Arrives (p : ℕ) : Type 0 where
    pub steps : ℕ
    pub there : climb steps p ≡ 0
    pub before : (i : ℕ) → i < steps → climb i p ≡ 0 → ⊥

  pub arrives : (n p : ℕ) → climb n p ≡ 0 → Arrives p
  unfolding climb
  arrives zero p e = record { steps = 0; there = e; before = λ i h. let z : ⊥ = omega arith in absurd z }
  arrives (suc n) p e = go (eqb p 0) refl (arrives n (up p) e)
    where
      later : (p ≡ 0 → ⊥) → (a : Arrives (up p)) → (i : ℕ) → i < suc a.steps → climb i p ≡ 0 → ⊥
      later d a zero h = d
      later d a (suc i) h = a.before i (omega arith)

      go : (b : Bool) → eqb p 0 ≡ b → Arrives (up p) → Arrives p
      go true q a = record { steps = 0; there = eqb-true p 0 q; before = λ i h. let z : ⊥ = omega arith in absurd z }
      go false q a = record { steps = suc a.steps; there = a.there; before = later (eqb-false p 0 q) a }

  -- Until then no number comes twice: the steps between its two places could be left out.
  pub never_twice : (p : ℕ) (a : Arrives p) (i j : ℕ) → i < j → j ≤ a.steps → climb i p ≡ climb j p → ⊥
  never_twice p a i j h k e =
      let n : j + (a.steps - j) ≡ a.steps = omega arith in
      a.before (i + (a.steps - j)) (omega arith)
      (climb_add i (a.steps - j) p ∙ ap (climb (a.steps - j)) e ∙ sym (climb_add j (a.steps - j) p) ∙ ap (λ x. climb x p) n ∙ a.there)

  -- Steps from a number above 0, if they reach 0, do not come back to it.
  pub no_return : up 0 ≡ 0 → (n p : ℕ) → climb n p ≡ 0 → (p ≡ 0 → ⊥) → (k : ℕ) → climb (suc k) p ≡ p → ⊥
  unfolding climb
  no_return top n p e d k back = let a = arrives n p e in go a (leb (suc k) a.steps) refl
    where
      go : (a : Arrives p) (b : Bool) → leb (suc k) a.steps ≡ b → ⊥
      go a true q = never_twice p a 0 (suc k) (omega arith) (leb-true (suc k) a.steps q) (sym back)
      go a false q =
          let l = leb-false (suc k) a.steps q in
          d (sym back ∙ climb_on top a.steps (suc k) p (omega arith) a.there)

  -- Steps that stay below n + 1 and reach 0 are there within n.
  pub within : (n m p : ℕ) → ((i : ℕ) → climb i p < suc n) → climb m p ≡ 0 → (k : ℕ) × (k ≤ n) × (climb k p ≡ 0)
  within n m p below e =
      let a = arrives m p e in
      let l = pigeonhole (suc a.steps) (suc n) (λ i. climb i p) (λ i h. below i) (λ i j h k. never_twice p a i j h (omega arith)) in
      (a.steps, omega (arith, l), a.there)
