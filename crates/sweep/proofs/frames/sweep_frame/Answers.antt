-- `sweep::frames::sweep_frame` meets its contract. After j cells of the frame are passed the tags are those of the specification up to there (`shown_turn`).
use native.Mathlib.Omega.{arith}
use mathlib.Core.Path.{refl, ap, ◌∙◌}
use Prim.Native.Nat.{◌+◌}
use lib.ListN.{get_or, length-set}
use Rattle.sweep.specs.Sweep.{swept_tags}
use Rattle.sweep.proofs.Sweeping.{swept_none}
use Rattle.sweep.proofs.ByFrames.{shown_turn}
use Rattle.sweep.proofs.frames.sweep_frame.Goals as goal

pub loop-j-init : goal.loop-j-init
loop-j-init c = (refl, λ f h. swept_none f c.args.range c.args.from c.args.cells.now c.args.tags.now ∙ ap (λ n. swept_tags f c.args.range c.args.from n c.args.cells.now c.args.tags.now) (omega arith))

pub loop-j-preserved : goal.loop-j-preserved
loop-j-preserved c = (length-set c.loop-j.tags (c.args.from + c.loop-j.j) _ ∙ c.loop-j.invariant.0, λ f h. shown_turn f c.args.range c.args.from (c.args.from + 16) c.args.cells.now c.args.tags.now h (c.args.from + c.loop-j.j) c.base_lives-lives.result c.loop-j.tags (omega arith) (omega arith) (omega (arith, c.requires.2)) (c.loop-j.invariant.1 f h) (c.base_lives-lives.ensures (get_or c.args.cells.now (c.args.from + c.loop-j.j) 0) c.requires.0 c.last_of-last.ensures (c.bases_from-bases.ensures.1 c.loop-j.j (omega arith))) ∙ ap (λ n. swept_tags f c.args.range c.args.from n c.args.cells.now c.args.tags.now) (omega arith))

pub shape_of-tags : goal.shape_of-tags
shape_of-tags c = c.loop-j.invariant.0
