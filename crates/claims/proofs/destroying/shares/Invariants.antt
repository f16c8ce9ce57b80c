-- `claims::destroying::shares`: after q turns the first q principals' limits are summed.
use mathlib.Core.Path.{◌≡◌}
use Rattle.claims.specs.Claims.{sum}
use Rattle.claims.proofs.Looping.{marked}
use Rattle.claims.proofs.destroying.shares.Given as goal

abbrev pub invariant-loop-q : goal.invariant-loop-q
invariant-loop-q l = l.total ≡ sum l.q (marked l.principals l.counts l.marks)
