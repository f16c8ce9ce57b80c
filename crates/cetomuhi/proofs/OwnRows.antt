-- The rows of a well-formed state's arrays, as many as its table counts, read as its table.
use mathlib.Core.Path.{ap, ◌∙◌}
use Rattle.capabilities.proofs.Lists.{map_take}
use Rattle.table.specs.Rows.{live}
use Rattle.table.specs.Numbers.{row_from}
use Rattle.machine.proofs.Keeps.{facts}
use Rattle.arrays.specs.Reading.{state_of, core_of}
use Rattle.maps.specs.Records.{bad_records}
use Rattle.maps.proofs.OwnTable.{own_table_never}
use Rattle.cetomuhi.specs.Maps.{OwnRowsNever}

pub own_rows_never : OwnRowsNever
unfolding live state_of core_of
own_rows_never a w = ap bad_records (map_take row_from a.nums.count a.rows) ∙ own_table_never (state_of a).core (facts (state_of a) w).core
