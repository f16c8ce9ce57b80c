use Rattle.std.proofs.Common.{◌≡◌, take}
use Rattle.capabilities.specs.Lists.{each}
use Rattle.pages.proofs.sound.unused.Given as goal

abbrev pub invariant-loop-x : goal.invariant-loop-x
invariant-loop-x g l = l.unused ≡ each (λ i x. g.T.PartialEq.eq x l.zero) 0 (take l.x-index l.xs)
