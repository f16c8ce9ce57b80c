-- `table::LentRows::tiled` meets its contract.
use mathlib.Core.Path.{◌≡◌}
use lib.ListN.{drop}
use Rattle.table.proofs.Testing.{tiled_by}
use Rattle.table.proofs.LentRows.tiled.Given as goal

abbrev pub invariant-loop-number : goal.invariant-loop-number
invariant-loop-number l = tiled_by 0 l.end l.number-items ≡ tiled_by l.from l.end (drop l.number-index l.number-items)
