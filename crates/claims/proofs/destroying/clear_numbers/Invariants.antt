-- `claims::destroying::clear_numbers`: after q turns the first q numbers are done.
use mathlib.Core.List.{◌++◌}
use mathlib.Core.Path.{◌≡◌}
use lib.ListN.{take, drop}
use Rattle.capabilities.specs.Lists.{map_each}
use Rattle.claims.proofs.Looping.{emptied_at}
use Rattle.claims.proofs.destroying.clear_numbers.Given as goal

abbrev pub invariant-loop-q : goal.invariant-loop-q
invariant-loop-q l = l.principals ≡ map_each (emptied_at l.marks) 0 (take l.q l.initial.principals) ++ drop l.q l.initial.principals
