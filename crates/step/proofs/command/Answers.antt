-- `step::command` meets its contract. The bytes read as a call, which the step does, or as none.
use mathlib.Core.Path.{sym, ◌∙◌}
use Rattle.arrays.specs.Lent.{held}
use Rattle.step.proofs.Commanding.{fitting, command_reads, command_none}
use Rattle.step.proofs.command.Goals as goal

pub returns-in-Some-clause-judged : goal.returns-in-Some-clause-judged
returns-in-Some-clause-judged c formed fits =
    let m = c.args.machine.now in
    let read = sym c.read_at.ensures.is ∙ c.in-Some.is in
    command_reads (held m) m.cells.now m.tags.now (fitting (held m) m.cells.now m.tags.now fits.0 fits.1) c.args.input.now c.args.at _ _ read _ (c.step.ensures.ruled formed fits)

pub returns-in-None-clause-judged : goal.returns-in-None-clause-judged
returns-in-None-clause-judged c formed fits =
    let m = c.args.machine.now in
    let read = sym c.read_at.ensures.is ∙ c.in-None.is in
    rw c.refused.ensures (command_none (held m) m.cells.now m.tags.now (fitting (held m) m.cells.now m.tags.now fits.0 fits.1) c.args.input.now c.args.at formed read)
