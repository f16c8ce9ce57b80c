-- `sweep::frames::sweep_part` meets its contract. After the cells up to i are passed the tags are those of the specification up to i (`shown_turn`).
use Rattle.sweep.proofs.ByFrames.{shown_turn}
use lib.ListN.{get_or, length-set}
use native.Mathlib.Omega.{arith}
use mathlib.Core.Path.{refl, ◌∙◌}
use Rattle.sweep.proofs.Sweeping.{swept_none}
use Rattle.sweep.proofs.frames.sweep_part.Goals as goal

pub loop-i-init : goal.loop-i-init
loop-i-init c = (refl, λ f h. swept_none _ _ _ _ _)

pub loop-i-preserved : goal.loop-i-preserved
loop-i-preserved c = (length-set c.loop-i.tags c.loop-i.i _ ∙ c.loop-i.invariant.0, λ f h. shown_turn f c.args.range c.args.from c.args.upto c.args.cells.now c.args.tags.now h c.loop-i.i c.base_lives-lives.result c.loop-i.tags c.loop-i.auto.i c.loop-i-test.true (omega (arith, c.requires.3)) (c.loop-i.invariant.1 f h) (c.base_lives-lives.ensures (get_or c.args.cells.now c.loop-i.i 0) c.requires.0 c.last_of-last.ensures c.base_of.ensures))

pub shape_of-tags : goal.shape_of-tags
shape_of-tags c = c.loop-i.invariant.0
