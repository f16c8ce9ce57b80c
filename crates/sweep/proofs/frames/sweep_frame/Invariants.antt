-- `sweep::frames::sweep_frame` meets its contract. After j cells of the frame are passed the tags are those of the specification up to there (`shown_turn`).
use mathlib.Core.Path.{◌≡◌}
use Prim.Native.Nat.{◌+◌}
use mathlib.Core.List.{List}
use lib.ListN.{length}
use Rattle.pages.specs.Pages.{FrameEntry}
use Rattle.sweep.specs.Sweep.{swept_tags}
use Rattle.sweep.specs.Frames.{AllShown}
use Rattle.sweep.proofs.frames.sweep_frame.Given as goal

abbrev pub invariant-loop-j : goal.invariant-loop-j
invariant-loop-j l = (length l.tags ≡ length l.initial.tags) × ((frames : List FrameEntry) → AllShown frames l.from (l.from + 16) → l.tags ≡ swept_tags frames l.range l.from (l.from + l.j) l.cells l.initial.tags)
