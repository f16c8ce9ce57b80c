-- Three codes: 0, 1 and all others. Assumes nothing.
use Prim.Native.Nat.{ℕ}
use mathlib.Core.Path.{◌≡◌, sym, ◌∙◌}
use lib.Dec.{eqb}
use borrow.Author.Tests.{eq-eqb, ne_eqb}
use Rattle.capabilities.specs.Lists.{pick}
use Rattle.capabilities.proofs.Choice.{pick_yes, pick_no}

module _ {A : Type 0} (n : ℕ) (x y z : A) where
  pub first_code : n ≡ 0 → x ≡ pick (eqb n 0) x (pick (eqb n 1) y z)
  first_code e = sym (pick_yes (eqb n 0) x (pick (eqb n 1) y z) (eq-eqb n 0 e))

  pub second_code : (n ≡ 0 → ⊥) → n ≡ 1 → y ≡ pick (eqb n 0) x (pick (eqb n 1) y z)
  second_code m e = sym (pick_no (eqb n 0) x (pick (eqb n 1) y z) (ne_eqb n 0 m) ∙ pick_yes (eqb n 1) y z (eq-eqb n 1 e))

  pub other_code : (n ≡ 0 → ⊥) → (n ≡ 1 → ⊥) → z ≡ pick (eqb n 0) x (pick (eqb n 1) y z)
  other_code m k = sym (pick_no (eqb n 0) x (pick (eqb n 1) y z) (ne_eqb n 0 m) ∙ pick_no (eqb n 1) y z (ne_eqb n 1 k))
