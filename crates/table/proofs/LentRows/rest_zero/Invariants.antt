-- `table::LentRows::rest_zero` meets its contract.
use mathlib.Core.Path.{◌≡◌}
use mathlib.Core.Bool.{◌&&◌}
use lib.ListN.{drop}
use Rattle.table.specs.Sound.{all_zero}
use Rattle.table.proofs.LentRows.rest_zero.Given as goal

abbrev pub invariant-loop-number : goal.invariant-loop-number
invariant-loop-number l = all_zero l.number-items ≡ (l.zero && all_zero (drop l.number-index l.number-items))
