-- `words::registers::bits` meets its contract: the bytes before the index are tested.
use mathlib.Core.Path.{◌≡◌}
use lib.ListN.{take}
use Rattle.capabilities.specs.Lists.{each}
use Rattle.words.specs.Lent.{bit}
use Rattle.words.proofs.registers.bits.Given as goal

abbrev pub invariant-loop-tag : goal.invariant-loop-tag
invariant-loop-tag l = l.all ≡ each bit 0 (take l.tag-index l.tags)
