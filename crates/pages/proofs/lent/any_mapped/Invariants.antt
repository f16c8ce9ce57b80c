use Rattle.std.proofs.Common.{◌≡◌, take, leb}
use Rattle.capabilities.specs.Lists.{each}
use Rattle.pages.proofs.lent.any_mapped.Given as goal

abbrev pub invariant-loop-number : goal.invariant-loop-number
invariant-loop-number l = l.none ≡ each (λ k n. leb n 1) 0 (take l.number-index l.number-items)
