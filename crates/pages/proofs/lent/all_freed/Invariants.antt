use Rattle.std.proofs.Common.{◌≡◌, take, eqb}
use Rattle.capabilities.specs.Lists.{each}
use Rattle.pages.proofs.lent.all_freed.Given as goal

abbrev pub invariant-loop-number : goal.invariant-loop-number
invariant-loop-number l = l.all ≡ each (λ k n. eqb n 1) 0 (take l.number-index l.number-items)
