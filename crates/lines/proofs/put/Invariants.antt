-- `lines::put` meets its contract. After each turn two digits more stand before those put, and the number's rest is still to be put.
use Prim.Native.Nat.{◌≤◌}
use Rattle.lines.proofs.Laying.{Spelt}
use Rattle.lines.proofs.put.Given as goal

abbrev pub invariant-loop-rest : goal.invariant-loop-rest
invariant-loop-rest l = record { below : l.rest ≤ l.n; spelt : Spelt l.n l.rest l.first l.end l.initial.out l.out }

abbrev pub decreases-loop-rest : goal.decreases-loop-rest
decreases-loop-rest l = l.rest
