-- `sweep::frames::sweep_part` meets its contract. After the cells up to i are passed the tags are those of the specification up to i (`shown_turn`).
use lib.ListN.{length}
use mathlib.Core.Path.{◌≡◌}
use mathlib.Core.List.{List}
use Rattle.pages.specs.Pages.{FrameEntry}
use Rattle.sweep.specs.Sweep.{swept_tags}
use Rattle.sweep.specs.Frames.{AllShown}
use Rattle.sweep.proofs.frames.sweep_part.Given as goal

abbrev pub invariant-loop-i : goal.invariant-loop-i
invariant-loop-i l = (length l.tags ≡ length l.initial.tags) × ((frames : List FrameEntry) → AllShown frames l.from l.upto → l.tags ≡ swept_tags frames l.range l.from l.i l.cells l.initial.tags)
