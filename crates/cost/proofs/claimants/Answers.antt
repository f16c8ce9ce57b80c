-- `cost::claimants` meets its contract. After p turns the first p principals are asked.
use native.Mathlib.Omega.{arith}
use Prim.Native.Nat.{ℕ, ◌≤◌}
use mathlib.Core.Path.{refl, sym, ap, subst, ◌∙◌}
use lib.Dec.{ltb}
use Rattle.capabilities.proofs.Choice.{byte_pick, at_most}
use Rattle.claims.specs.Claims.{one, sum}
use Rattle.claims.specs.Lent.{count_in}
use Rattle.claims.proofs.Sums.{sum_turn}
use Rattle.cost.proofs.claimants.Goals as goal

pub loop-p-init : goal.loop-p-init
unfolding sum
loop-p-init c = (omega arith, refl)

pub loop-p-preserved : goal.loop-p-preserved
loop-p-preserved c =
    let a = c.args in
    let loop = c.loop-p in
    let b = ltb 0 c.count_in.result in
    let few = subst (λ (k : ℕ). k ≤ 1) (sym (byte_pick b)) (at_most b) in (
      omega (arith, few),
      sum_turn (λ q. one (count_in a.counts.now q a.page)) loop.p loop.n _ loop.invariant.1 (byte_pick b ∙ ap one c.count_in.ensures),
    )
