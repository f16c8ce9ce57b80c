-- The cost of a page, asked of arrays, is that of the state that they read as; of arrays that pass the test, the counts of claims that are
-- lent are the state's. Assumes nothing.
use Prim.Native.Nat.{ℕ, ◌<◌}
use native.Mathlib.Omega.{arith}
use mathlib.Core.Bool.{Bool, true, false, not}
use mathlib.Core.Path.{◌≡◌, refl, sym, ap, ap₂, ◌∙◌}
use lib.Dec.{leb}
use Rattle.capabilities.specs.Lists.{pick}
use Rattle.capabilities.specs.Refusals.{first}
use Rattle.claims.specs.Cost.{cost_of}
use Rattle.claims.specs.Lent.{claimants_in}
use Rattle.claims.proofs.OnNumbers.{claimants_in_lem}
use Rattle.calls.specs.Commands.{page}
use Rattle.machine.specs.Cost.{costed, uncosted, cost_reasons}
use Rattle.machine.proofs.Undoing.{low}
use Rattle.machine.proofs.Costs.{cost_asked, cost_granted, cost_refused}
use Rattle.arrays.specs.declared.Arrays.{Arrays}
use Rattle.arrays.specs.Reading.{core_of, state_of}
use Rattle.formed.specs.Test.{formed_of}
use Rattle.formed.proofs.Tested.{tested, parts}
use Rattle.cost.specs.Asked.{cost_on}

module _ (a : Arrays) (n : ℕ) where
  -- The code is the rule's: by whether the arrays are well formed, and behind that by V.
  judged : {good past : Bool} → formed_of a ≡ good → leb a.nums.v n ≡ past → pick (not good) 1 (pick past 12 0) ≡ first (cost_reasons (formed_of a) (state_of a).core n)
  unfolding cost_reasons first state_of core_of
  judged e p = sym (ap₂ (λ b d. pick (not b) 1 (pick d 12 0)) e p)

  pub asked_refused : (code : ℕ) → (code ≡ 0 → ⊥) → code ≡ first (cost_reasons (formed_of a) (state_of a).core n) → uncosted code ≡ cost_on a n
  unfolding cost_on
  asked_refused code h e = ap uncosted e ∙ sym (cost_refused (formed_of a) (state_of a).core n (λ z. h (e ∙ z)))

  pub asked_ill : formed_of a ≡ false → uncosted 1 ≡ cost_on a n
  asked_ill e = asked_refused 1 (λ z. omega (arith, z)) (judged e refl)

  module _ (good : formed_of a ≡ true) where
    pub asked_past : leb a.nums.v n ≡ true → uncosted 12 ≡ cost_on a n
    asked_past p = asked_refused 12 (λ z. omega (arith, z)) (judged good p)

    module _ (p : leb a.nums.v n ≡ false) where
      pub asked_low : n < 256
      asked_low = low (state_of a) (tested a good).well (page n) (cost_asked (formed_of a) (state_of a).core n (sym (judged good p))).1

      pub asked_cost : costed 0 (cost_of (claimants_in a.counts n)) ≡ cost_on a n
      unfolding cost_on state_of core_of
      asked_cost =
          ap (λ k. costed 0 (cost_of k)) (sym (claimants_in_lem a.nums.v a.principals a.counts (parts a (tested a good)).claims n asked_low))
          ∙ sym (cost_granted (formed_of a) (state_of a).core n (sym (judged good p)))
