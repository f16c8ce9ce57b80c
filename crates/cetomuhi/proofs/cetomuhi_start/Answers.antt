-- `cetomuhi::cetomuhi_start` meets its contract. With six numbers it is a start in place, whose small numbers fit.
use Rattle.std.proofs.Common.{rules}
use Rattle.arrays.specs.Reading.{arrays}
use Rattle.arrays.specs.Lent.{held}
use Rattle.cetomuhi.specs.Lent.{lent}
use Rattle.cetomuhi.proofs.Fits.{start_fits}
use Rattle.cetomuhi.proofs.Ways.{start_other, start_six}
use Rattle.cetomuhi.proofs.cetomuhi_start.Goals as goal

pub returns-then-numbers-ne6 : goal.returns-then-numbers-ne6
returns-then-numbers-ne6 c =
    let a = c.args in
    start_other (lent a.numbers.now a.words.now a.marks.now a.mail.now a.flags.now a.rows.now a.pages.now a.frames.now a.principals.now a.counts.now) a.v a.f c.if-numbers-ne6.true

pub put_numbers-requires : goal.put_numbers-requires
put_numbers-requires c =
    let a = c.args in
    let read = c.numbers_from.ensures.count_bound in
    let h = start_fits a.v a.f (arrays c.numbers_from.result a.words.now a.marks.now a.mail.now a.flags.now a.rows.now a.pages.now a.frames.now a.principals.now a.counts.now) (record { count = read.0; place = read.1 }) _ (held c.start_in-started.new.machine) c.start_in-started.ensures.start in
    (h.count, h.place)

pub returns : goal.returns
returns c =
    let a = c.args in
    let e = start_six (lent a.numbers.now a.words.now a.marks.now a.mail.now a.flags.now a.rows.now a.pages.now a.frames.now a.principals.now a.counts.now) a.v a.f c.if-numbers-ne6.false c.numbers_from.result c.numbers_from.ensures.value _ (held c.start_in-started.new.machine) c.start_in-started.ensures.start _ c.put_numbers.ensures in
    search (rules, e)
