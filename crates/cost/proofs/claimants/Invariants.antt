-- `cost::claimants` meets its contract. After p turns the first p principals are asked.
use Prim.Native.Nat.{◌≤◌}
use mathlib.Core.Path.{◌≡◌}
use Rattle.claims.specs.Claims.{one, sum}
use Rattle.claims.specs.Lent.{count_in}
use Rattle.cost.proofs.claimants.Given as goal

abbrev pub invariant-loop-p : goal.invariant-loop-p
invariant-loop-p l = (l.n ≤ l.p) × (l.n ≡ sum l.p (λ q. one (count_in l.counts q l.page)))
