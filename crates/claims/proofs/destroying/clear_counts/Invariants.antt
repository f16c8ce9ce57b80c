-- `claims::destroying::clear_counts`: after q turns the first q principals' counts are done.
use Prim.Native.Nat.{◌*◌}
use mathlib.Core.List.{◌++◌}
use mathlib.Core.Path.{◌≡◌}
use lib.ListN.{take, drop}
use Rattle.capabilities.specs.Lists.{map_each}
use Rattle.claims.proofs.Looping.{cleared_by}
use Rattle.claims.proofs.destroying.clear_counts.Given as goal

abbrev pub invariant-loop-q : goal.invariant-loop-q
invariant-loop-q l = l.counts ≡ map_each (cleared_by l.marks) 0 (take (256 * l.q) l.initial.counts) ++ drop (256 * l.q) l.initial.counts
