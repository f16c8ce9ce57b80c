-- Refused under 4, or else what the table's own call leaves, which is the rule's table written with the register put beside it.
use mathlib.Core.Path.{ap}
use Rattle.std.proofs.lemmas.Result.{err_from_is_err_and}
use Rattle.words.specs.WordReasons.{unnamed}
use Rattle.table.specs.Numbered.{TakeAnswer}
use Rattle.table.proofs.Numbered.{take_leaves}
use Rattle.arrays.specs.Steps.{with_rows, with_words}
use Rattle.calls_in_place.proofs.Early.{both_known}
use Rattle.calls_in_place.proofs.Tabling.{take_down, take_done}
use Rattle.calls_in_place.proofs.table_calls.take.Goals as goal

pub returns-in_err-length : goal.returns-in_err-length
returns-in_err-length c =
    let a = c.args in
    let p = err_from_is_err_and c.from_residual-in_err-length.result c.from_residual-in_err-length.ensures.1 in
    let told = c.in_err-length.ensures in
    let passed = both_known (unnamed a.party) (unnamed a.reg) c.in_ok-known.ensures c.in_ok-known-2.ensures in
    λ m ec f cells tags. rw (p.1, p.2) (take_down (with_rows (with_words m a.words.now a.marks.now) a.rows.now) f a.count ec a.party a.base cells tags a.reg a.mask passed _ _ (take_leaves a.rows.now _ a.count a.party a.base c.ranges.party.fits _ told.value told.rows_after))

pub returns : goal.returns
returns c =
    let a = c.args in
    let told = c.in_ok-length.ensures in
    let passed = both_known (unnamed a.party) (unnamed a.reg) c.in_ok-known.ensures c.in_ok-known-2.ensures in
    λ m ec f cells tags. rw (c.put_register.ensures.words_after, c.put_register.ensures.marks_after, c.capability.ensures, c.permitted.ensures)
    (take_done (with_rows (with_words m a.words.now a.marks.now) a.rows.now) f a.count ec a.party a.base cells tags a.reg a.mask passed _ _ (ap (λ (r : TakeAnswer). r.length) told.value) (take_leaves a.rows.now _ a.count a.party a.base c.ranges.party.fits _ told.value told.rows_after))
