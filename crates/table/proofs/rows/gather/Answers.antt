-- `table::rows::gather` meets its contract.
use native.Mathlib.Omega.{arith}
use Rattle.table.proofs.Shifting.{gather_end}
use Rattle.table.proofs.rows.gather.Goals as goal

pub returns : goal.returns
returns c =
    let a = c.args in
    let moved = c.move_down-writes.ensures in
    let wrote = c.write_row-writes.ensures in
    let ended = c.write_row-writes-2.ensures in (
      gather_end a.rows.now _ _ _ _ _ _ a.i a.n _ _ moved.0 wrote.0 ended.0 (omega arith) (omega arith) (omega arith) (omega arith) (omega arith) (omega arith),
      omega (arith, moved.1, wrote.1, ended.1),
    )
