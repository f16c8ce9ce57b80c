-- `sweep::frames::sweep_in`: refusal 2 where memory is of another size; else the loop's tags, the place that it reaches and the cells left.
use Rattle.sweep.specs.Sweep.{sweep_of, passed}
use Rattle.sweep.proofs.frames.sweep_in.Goals as goal

pub returns-then-not-cells-size : goal.returns-then-not-cells-size
unfolding sweep_of
returns-then-not-cells-size c = λ v pages. rw c.if-not-cells-size.true

pub returns : goal.returns
unfolding sweep_of passed
returns c = λ v pages. rw (c.saturating_sub-2.ensures, c.sweep_frames.ensures, c.min.ensures, c.saturating_sub.ensures, c.if-not-cells-size.false)
