-- `cetomuhi::cetomuhi_commands` meets its contract. It is a run in place, whose small numbers fit.
use mathlib.Core.Path.{sym, subst}
use Rattle.std.proofs.Common.{rules}
use Rattle.arrays.specs.Reading.{arrays}
use Rattle.arrays.specs.Lent.{held}
use Rattle.entries.specs.Runs.{Run}
use Rattle.cetomuhi.specs.Lent.{lent}
use Rattle.cetomuhi.proofs.Fits.{Fits, run_fits}
use Rattle.cetomuhi.proofs.Ways.{commands_ran}
use Rattle.cetomuhi.proofs.cetomuhi_commands.Goals as goal

pub put_numbers-requires : goal.put_numbers-requires
put_numbers-requires c =
    let a = c.args in
    let read = c.numbers_from.ensures.count_bound in
    let fits = run_fits (arrays c.numbers_from.result a.words.now a.marks.now a.mail.now a.flags.now a.rows.now a.pages.now a.frames.now a.principals.now a.counts.now) (record { count = read.0; place = read.1 }) a.input.now a.at.now a.cells.now a.tags.now a.answers.now in
    let h = subst (λ (r : Run). Fits r.arrays.nums) (sym c.commands_in-ran.ensures.ran) fits in
    (h.count, h.place)

pub returns : goal.returns
returns c =
    let a = c.args in
    let m = c.commands_in-ran.new.machine in
    let e = commands_ran (lent a.numbers.now a.words.now a.marks.now a.mail.now a.flags.now a.rows.now a.pages.now a.frames.now a.principals.now a.counts.now) a.input.now a.at.now a.cells.now a.tags.now a.answers.now c.numbers_from.result c.numbers_from.ensures.value _ _ (held m) m.cells.now m.tags.now _ c.commands_in-ran.ensures.ran _ c.put_numbers.ensures in
    search (rules, e)
