-- `cetomuhi::cetomuhi_command` meets its contract. With room for the answer it is a run of one, whose small numbers fit, or a refusal
-- where no byte is left.
use mathlib.Core.Path.{sym, subst}
use lib.ListN.{take}
use Rattle.std.proofs.Common.{rules}
use Rattle.arrays.specs.Reading.{arrays}
use Rattle.arrays.specs.Lent.{held}
use Rattle.entries.specs.Runs.{Run}
use Rattle.cetomuhi.specs.Lent.{lent}
use Rattle.cetomuhi.proofs.Fits.{Fits, run_fits}
use Rattle.cetomuhi.proofs.Ways.{command_none, command_ran, command_turned}
use Rattle.cetomuhi.proofs.cetomuhi_command.Goals as goal

pub returns-then-answers-lt4 : goal.returns-then-answers-lt4
returns-then-answers-lt4 c =
    let a = c.args in
    command_none (lent a.numbers.now a.words.now a.marks.now a.mail.now a.flags.now a.rows.now a.pages.now a.frames.now a.principals.now a.counts.now) a.input.now a.at a.cells.now a.tags.now a.answers.now c.if-answers-lt4.true

pub put_numbers-requires : goal.put_numbers-requires
put_numbers-requires c =
    let a = c.args in
    let read = c.numbers_from.ensures.count_bound in
    let fits = run_fits (arrays c.numbers_from.result a.words.now a.marks.now a.mail.now a.flags.now a.rows.now a.pages.now a.frames.now a.principals.now a.counts.now) (record { count = read.0; place = read.1 }) a.input.now a.at a.cells.now a.tags.now (take 4 a.answers.now) in
    let h = subst (λ (r : Run). Fits r.arrays.nums) (sym c.commands_in-ran.ensures.ran) fits in
    (h.count, h.place)

pub returns-then-at-input : goal.returns-then-at-input
returns-then-at-input c =
    let a = c.args in
    let m = c.commands_in-ran.new.machine in
    let e = command_ran (lent a.numbers.now a.words.now a.marks.now a.mail.now a.flags.now a.rows.now a.pages.now a.frames.now a.principals.now a.counts.now) a.input.now a.at a.cells.now a.tags.now a.answers.now c.if-answers-lt4.false c.if-at-input.true c.numbers_from.result c.numbers_from.ensures.value _ _ (held m) m.cells.now m.tags.now _ c.commands_in-ran.ensures.ran _ c.put_numbers.ensures in
    search (rules, e)

pub returns : goal.returns
returns c =
    let a = c.args in
    let e = command_turned (lent a.numbers.now a.words.now a.marks.now a.mail.now a.flags.now a.rows.now a.pages.now a.frames.now a.principals.now a.counts.now) a.input.now a.at a.cells.now a.tags.now a.answers.now c.if-answers-lt4.false c.if-at-input.false c.numbers_from.result c.numbers_from.ensures.value _ c.put_end.ensures in
    search (rules, e)
