-- `table::LentRows::revokings` meets its contract.
use mathlib.Core.Path.{◌≡◌}
use Prim.Native.Nat.{◌≤◌}
use lib.ListN.{take}
use Rattle.std.specs.List.{count_by}
use Rattle.table.specs.Rows.{is_revoking}
use Rattle.table.specs.Numbers.{row_from}
use Rattle.table.proofs.LentRows.revokings.Given as goal

abbrev pub invariant-loop-number : goal.invariant-loop-number
invariant-loop-number l = (l.many ≤ l.number-index) × (l.many ≡ count_by (λ n. is_revoking (row_from n).state) (take l.number-index l.number-items))
