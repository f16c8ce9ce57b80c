-- Refusals that are judged before all others of a call. Assumes nothing.
use Prim.Native.Nat.{ℕ}
use native.Mathlib.Omega.{arith}
use mathlib.Core.Bool.{Bool, true, false, ◌||◌}
use mathlib.Core.Path.{◌≡◌, refl, sym, ◌∙◌}
use Rattle.capabilities.specs.Lists.{pick}
use Rattle.capabilities.specs.Refusals.{number_of}
use Rattle.capabilities.specs.declared.refusal.Refusal.{Refusal}
use Rattle.capabilities.proofs.Refusals.{number_some}

-- What a check of a number above 7 answers.
abbrev pub Checked : ℕ → Bool → Type 0
Checked k u = k ≡ pick u 4 0

-- It is refused, or passes.
pub unknown : (u : Bool) (r : Refusal) (rest : ℕ) → Checked (number_of r) u → number_of r ≡ pick u 4 rest
unknown true r rest e = e
unknown false r rest e = absurd (number_some r e)

pub known : (u : Bool) → Checked 0 u → u ≡ false
known true e = absurd (omega (arith, e))
known false e = refl

-- Of two numbers the first or the second is refused, or both pass.
pub first_unknown : (u w : Bool) (r : Refusal) → Checked (number_of r) u → Checked (number_of r) (u || w)
first_unknown true w r e = e
first_unknown false w r e = absurd (number_some r e)

pub second_unknown : (u w : Bool) (r : Refusal) → Checked (number_of r) w → Checked (number_of r) (u || w)
second_unknown true true r e = e
second_unknown true false r e = absurd (number_some r e)
second_unknown false w r e = e

pub both_known : (u w : Bool) → Checked 0 u → Checked 0 w → Checked 0 (u || w)
both_known true w e d = e
both_known false w e d = d

-- What a check under 4 and another number answers.
abbrev pub CheckedTwo : ℕ → Bool → Bool → ℕ → Type 0
CheckedTwo k u m j = k ≡ pick u 4 (pick m j 0)

-- One of the two refuses, or neither.
pub early : (u m : Bool) (j : ℕ) (r : Refusal) (rest : ℕ) → CheckedTwo (number_of r) u m j → number_of r ≡ pick u 4 (pick m j rest)
early true m j r rest e = e
early false true j r rest e = e
early false false j r rest e = absurd (number_some r e)

pub late : (u m : Bool) (j : ℕ) → (j ≡ 0 → ⊥) → (rest : ℕ) → CheckedTwo 0 u m j → rest ≡ pick u 4 (pick m j rest)
late true m j some rest e = absurd (omega (arith, e))
late false true j some rest e = absurd (some (sym e))
late false false j some rest e = refl

-- The same of any two numbers, and of any code.
module _ (i j : ℕ) (k rest : ℕ) where
  -- One of the two applies.
  pub early_code : (u m : Bool) → k ≡ pick u i (pick m j 0) → (k ≡ 0 → ⊥) → k ≡ pick u i (pick m j rest)
  early_code true m e n = e
  early_code false true e n = e
  early_code false false e n = absurd (n e)

  -- Neither does.
  pub late_code : (i ≡ 0 → ⊥) → (j ≡ 0 → ⊥) → (u m : Bool) → k ≡ pick u i (pick m j 0) → k ≡ 0 → rest ≡ pick u i (pick m j rest)
  late_code some other true m e z = absurd (some (sym e ∙ z))
  late_code some other false true e z = absurd (other (sym e ∙ z))
  late_code some other false false e z = refl
