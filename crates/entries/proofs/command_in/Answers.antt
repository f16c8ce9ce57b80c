-- `entries::command_in` meets its contract. Refusals 1 and 2 are tested, and then the arrays are well formed and the memory fits.
use Rattle.arrays.specs.Lent.{held}
use Rattle.entries.proofs.Fitting.{fit_command, unfit_command}
use Rattle.entries.proofs.command_in.Goals as goal

pub returns-in-Ok-clause-told : goal.returns-in-Ok-clause-told
returns-in-Ok-clause-told c =
    let m = c.args.machine.now in
    fit_command (held m) m.cells.now m.tags.now c.in-Ok.ensures.0 c.in-Ok.ensures.1 c.args.input.now c.args.at _ c.command.ensures.judged

pub returns-in-Err-clause-told : goal.returns-in-Err-clause-told
returns-in-Err-clause-told c =
    let m = c.args.machine.now in
    rw c.refused.ensures
    (unfit_command (held m) m.cells.now m.tags.now _ c.in-Err.ensures.0 c.in-Err.ensures.1 c.args.input.now c.args.at)
