-- `entries::runs::commands_in` meets its contract. Nothing to do and refusals 1 and 2 are tested, and then the arrays are well formed and the memory fits.
use mathlib.Core.Path.{ap, ◌∙◌}
use mathlib.Core.Bool.{not}
use borrow.Author.Tests.{not-true, not-false}
use Rattle.capabilities.specs.Refusals.{number_of}
use Rattle.arrays.specs.Lent.{held}
use Rattle.formed.proofs.Tested.{tested}
use Rattle.step.proofs.Commanding.{fitted}
use Rattle.entries.proofs.Repeating.{run_unready, ready_room, run_refused}
use Rattle.entries.proofs.Fitting.{unfit_command, unfit_ends}
use Rattle.words.specs.Words.{empty}
use Rattle.arrays.specs.Steps.{answer}
use Rattle.entries.proofs.runs.commands_in.Goals as goal

pub returns-then-not-at-input-clause-ran : goal.returns-then-not-at-input-clause-ran
returns-then-not-at-input-clause-ran c =
    let m = c.args.machine.now in
    run_unready (held m) c.args.input.now c.args.at m.cells.now m.tags.now c.args.answers.now (not-true _ (ap not c.if-not-at-input.true))

pub run-ran-requires : goal.run-ran-requires
run-ran-requires c =
    let m = c.args.machine.now in
    (tested (held m) c.in-Ok.ensures.0, fitted (held m) m.cells.now m.tags.now c.in-Ok.ensures.1)

pub put_answer-requires : goal.put_answer-requires
put_answer-requires c =
    let m = c.args.machine.now in
    ready_room (held m) c.args.input.now c.args.at m.cells.now m.tags.now c.args.answers.now (not-false _ (ap not c.if-not-at-input.false))

pub returns-in-Err-clause-ran : goal.returns-in-Err-clause-ran
returns-in-Err-clause-ran c =
    let m = c.args.machine.now in
    let no = c.in-Err.ensures in
    run_refused (held m) c.args.input.now c.args.at m.cells.now m.tags.now c.args.answers.now (not-false _ (ap not c.if-not-at-input.false)) (answer (number_of c.in-Err.refusal) empty)
    (unfit_command (held m) m.cells.now m.tags.now _ no.0 no.1 c.args.input.now c.args.at)
    (unfit_ends (held m) m.cells.now m.tags.now _ no.0 no.1) _ (rw c.refused.ensures at c.put_answer.ensures)
