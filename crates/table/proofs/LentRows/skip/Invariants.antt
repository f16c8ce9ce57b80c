-- `table::LentRows::skip` meets its contract: four rows that are not the one are four turns of the search.
use mathlib.Core.Path.{◌≡◌}
use Prim.Native.Nat.{◌*◌}
use Rattle.table.specs.Find.{begins, find_of}
use Rattle.table.specs.Searching.{seek_from}
use Rattle.table.specs.Numbers.{table_of}
use Rattle.table.proofs.LentRows.skip.Given as goal

abbrev pub invariant-loop-k : goal.invariant-loop-k
invariant-loop-k l = find_of (table_of l.self.rows.now l.self.count) l.party l.base ≡ seek_from (begins l.party l.base) (table_of l.self.rows.now l.self.count) (4 * l.k)
