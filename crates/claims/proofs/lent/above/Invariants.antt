-- `claims::lent::above`: after so many turns so many counts are counted.
use mathlib.Core.Path.{◌≡◌}
use Prim.Native.Nat.{◌≤◌}
use lib.ListN.{take}
use Rattle.claims.specs.Claims.{above}
use Rattle.claims.proofs.lent.above.Given as goal

abbrev pub invariant-loop-count : goal.invariant-loop-count
invariant-loop-count l = (l.n ≤ l.count-index) × (l.n ≡ above (take l.count-index l.counts))
