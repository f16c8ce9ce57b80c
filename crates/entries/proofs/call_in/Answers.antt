-- `entries::call_in` meets its contract. Refusals 1 and 2 are tested, and then the arrays are well formed and the memory fits.
use Rattle.arrays.specs.Lent.{held}
use Rattle.entries.proofs.Fitting.{fit_call, unfit_call}
use Rattle.entries.proofs.call_in.Goals as goal

pub returns-in-Ok-clause-called : goal.returns-in-Ok-clause-called
returns-in-Ok-clause-called c =
    let m = c.args.machine.now in
    fit_call (held m) m.cells.now m.tags.now c.in-Ok.ensures.0 c.in-Ok.ensures.1 c.args.call _ c.step.ensures.ruled

pub returns-in-Err-clause-called : goal.returns-in-Err-clause-called
returns-in-Err-clause-called c =
    let m = c.args.machine.now in
    rw c.refused.ensures
    (unfit_call (held m) m.cells.now m.tags.now _ c.in-Err.ensures.0 c.in-Err.ensures.1 c.args.call)
