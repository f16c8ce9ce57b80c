-- `table::operations::give` meets its contract.
use mathlib.Core.Path.{sym}
use Rattle.std.proofs.lemmas.Result.{err_from_is_err_and}
use Rattle.table.specs.Numbered.{given_in}
use Rattle.table.specs.Operations.{give_reasons, give_of}
use Rattle.table.proofs.Answers.{refusal_keeps}
use Rattle.table.proofs.operations.give.Goals as goal

pub returns-in_err-check_open : goal.returns-in_err-check_open
unfolding given_in give_of give_reasons
returns-in_err-check_open c =
    let p = err_from_is_err_and c.from_residual.result c.from_residual.ensures.1 in
    let here = sym c.find-found.ensures in
    let row = sym c.row-row.ensures in record {
      value = rw (p.1, p.2, here, row) c.in_err-check_open.ensures;
      rows_after = rw (here, row, sym c.in_err-check_open.ensures, refusal_keeps c.in_err-check_open.field-0.0);
    }

pub returns : goal.returns
unfolding given_in give_of give_reasons
returns c =
    let here = sym c.find-found.ensures in
    let row = sym c.row-row.ensures in
    let told = sym c.in_ok-check_open.ensures in record {
      value = rw (here, row, told);
      rows_after = rw (here, row, told, c.put_row.ensures, c.given_row.ensures);
    }
