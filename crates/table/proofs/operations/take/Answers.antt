-- `table::operations::take` meets its contract.
use mathlib.Core.Path.{sym}
use Rattle.std.proofs.lemmas.Result.{err_from_is_err_and}
use Rattle.table.specs.Numbered.{taken_in}
use Rattle.table.specs.Operations.{take_reasons, take_of}
use Rattle.table.proofs.Answers.{refusal_keeps}
use Rattle.table.proofs.operations.take.Goals as goal

pub returns-in_err-check_open : goal.returns-in_err-check_open
unfolding taken_in take_of take_reasons
returns-in_err-check_open c =
    let p = err_from_is_err_and c.from_residual.result c.from_residual.ensures.1 in
    let here = sym c.find-found.ensures in
    let row = sym c.row-row.ensures in
    let told = sym c.in_err-check_open.ensures in
    let e = c.in_err-check_open.field-0.0 in record {
      value = rw (p.1, p.2, here, row, told, refusal_keeps e);
      rows_after = rw (here, row, told, refusal_keeps e);
    }

pub returns : goal.returns
unfolding taken_in take_of take_reasons
returns c =
    let here = sym c.find-found.ensures in
    let row = sym c.row-row.ensures in
    let told = sym c.in_ok-check_open.ensures in record {
      value = rw (here, row, told);
      rows_after = rw (here, row, told, c.put_row.ensures, c.taken_row.ensures);
    }
