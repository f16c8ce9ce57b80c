-- `claims::lent::any_counts`: after p turns the first p principals are asked.
use mathlib.Core.Path.{◌≡◌}
use Rattle.claims.specs.Lent.{any_counts}
use Rattle.claims.proofs.lent.any_counts.Given as goal

abbrev pub invariant-loop-p : goal.invariant-loop-p
invariant-loop-p l = l.any ≡ any_counts l.p l.counts l.page
