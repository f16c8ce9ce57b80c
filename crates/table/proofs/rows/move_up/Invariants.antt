-- `table::rows::move_up` meets its contract.
use mathlib.Core.Path.{◌≡◌}
use Prim.Native.Nat.{◌+◌, ◌≤◌}
use lib.ListN.{length}
use Rattle.table.specs.Lent.{raised}
use Rattle.table.proofs.rows.move_up.Given as goal

abbrev pub invariant-loop-j : goal.invariant-loop-j
invariant-loop-j l = (l.rows ≡ raised l.initial.rows l.j l.n) × ((length l.rows ≡ length l.initial.rows) × ((l.from ≤ l.j) × ((l.j ≤ l.n) × (l.writes + l.j ≡ l.n))))
