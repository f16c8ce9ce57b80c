-- `sweep::frames::bases_from` meets its contract: one base a turn (`bases_turn`).
use Rattle.sweep.specs.Frames.{Bases}
use Rattle.sweep.proofs.frames.bases_from.Given as goal

abbrev pub invariant-loop-j : goal.invariant-loop-j
invariant-loop-j l = Bases l.from l.j l.cells l.bases
