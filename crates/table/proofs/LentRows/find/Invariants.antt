-- `table::LentRows::find` meets its contract: the rows before the first one looked at are not the one.
use mathlib.Core.Path.{◌≡◌}
use Rattle.table.specs.Find.{begins, find_of}
use Rattle.table.specs.Searching.{seek_from}
use Rattle.table.specs.Numbers.{table_of}
use Rattle.table.proofs.LentRows.find.Given as goal

abbrev pub invariant-loop-i : goal.invariant-loop-i
invariant-loop-i l = find_of (table_of l.self.rows.now l.self.count) l.party l.base ≡ seek_from (begins l.party l.base) (table_of l.self.rows.now l.self.count) l.i
