-- `table::rows::move_down` meets its contract.
use mathlib.Core.Path.{◌≡◌}
use Prim.Native.Nat.{◌+◌, ◌≤◌}
use lib.ListN.{length}
use Rattle.table.specs.Lent.{lowered}
use Rattle.table.proofs.rows.move_down.Given as goal

abbrev pub invariant-loop-j : goal.invariant-loop-j
invariant-loop-j l = (l.rows ≡ lowered l.initial.rows l.from l.j) × ((length l.rows ≡ length l.initial.rows) × ((l.from ≤ l.j) × ((l.j ≤ l.last) × (l.writes + l.from ≡ l.j))))
