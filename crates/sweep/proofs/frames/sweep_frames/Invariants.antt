-- `sweep::frames::sweep_frames` meets its contract. After the cells up to i are passed the tags are those of the specification up to i; a turn passes those to the frame's end, of a Mapped frame (`frame_shown`) or of another (`frame_hidden`).
use mathlib.Core.Path.{◌≡◌}
use Prim.Native.Nat.{◌≤◌, ◌-◌, ◌+◌}
use mathlib.Core.List.{map}
use lib.ListN.{length}
use Rattle.pages.specs.Numbers.{frame_in}
use Rattle.sweep.specs.Sweep.{swept_tags}
use Rattle.sweep.proofs.frames.sweep_frames.Given as goal

abbrev pub invariant-loop-i : goal.invariant-loop-i
invariant-loop-i l = (l.from ≤ l.i) × (l.i ≤ l.from + (l.upto - l.from)) × (length l.tags ≡ length l.initial.tags) × (l.tags ≡ swept_tags (map frame_in l.frames) l.range l.from l.i l.cells l.initial.tags)

abbrev pub decreases-loop-i : goal.decreases-loop-i
decreases-loop-i l = l.upto - l.i
