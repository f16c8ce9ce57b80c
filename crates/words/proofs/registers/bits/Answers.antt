-- `words::registers::bits` meets its contract: one byte more is tested in a turn (`each_more`).
use mathlib.Core.Path.{refl}
use native.Mathlib.Omega.{arith}
use Rattle.capabilities.specs.Lists.{each}
use Rattle.capabilities.proofs.Lists.{each_more}
use Rattle.words.specs.Lent.{bit}
use Rattle.words.proofs.registers.bits.Goals as goal

pub loop-tag-init : goal.loop-tag-init
unfolding each
loop-tag-init c = refl

pub loop-tag-preserved : goal.loop-tag-preserved
loop-tag-preserved c = let l = c.loop-tag in rw (each_more bit c.args.tags.now l.tag-index 0 (omega arith), l.invariant)
