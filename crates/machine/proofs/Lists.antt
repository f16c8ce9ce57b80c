-- Laws of `each`: one entry put in place of another, and all entries replaced. Assumes nothing.
use Prim.Native.Nat.{ℕ, zero, suc, ◌+◌}
use native.Mathlib.Nat.{add-zero, add-suc, suc-add}
use mathlib.Core.Bool.{Bool, true}
use mathlib.Core.List.{List, [], ◌∷◌, map}
use mathlib.Core.Path.{◌≡◌, refl}
use lib.ListN.{set}
use Rattle.capabilities.specs.Lists.{each}
use Rattle.capabilities.proofs.Choice.{and_left, and_right}
use Rattle.table.proofs.Truth.{both}

module _ {A : Type 0} (P : ℕ → A → Bool) where
  -- One entry put in place of another, where both pass.
  pub each_set : (n : ℕ) (l : List A) (i : ℕ) (x : A) → P (n + i) x ≡ true → each P n l ≡ true → each P n (set l i x) ≡ true
  unfolding each
  each_set n [] i x h e = refl
  each_set n (y ∷ l) zero x h e = both (P n x) (each P (suc n) l) (rw add-zero at h) (and_right (P n y) (each P (suc n) l) e)
  each_set n (y ∷ l) (suc i) x h e =
      both (P n y) (each P (suc n) (set l i x)) (and_left (P n y) (each P (suc n) l) e)
      (each_set (suc n) l i x (rw (add-suc, ← suc-add) at h) (and_right (P n y) (each P (suc n) l) e))

  -- Every entry replaced by what f makes of it, where f keeps what passes.
  pub each_map :
      (f : A → A) → ((i : ℕ) (x : A) → P i x ≡ true → P i (f x) ≡ true) → (n : ℕ) (l : List A) → each P n l ≡ true
      → each P n (map f l) ≡ true
  unfolding each
  each_map f h n [] e = refl
  each_map f h n (y ∷ l) e =
      both (P n (f y)) (each P (suc n) (map f l)) (h n y (and_left (P n y) (each P (suc n) l) e))
      (each_map f h (suc n) l (and_right (P n y) (each P (suc n) l) e))
