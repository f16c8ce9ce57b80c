-- Refused under 4, or else what the table's own call leaves, which is the rule's table written.
use Rattle.std.proofs.lemmas.Result.{err_from_is_err_and}
use Rattle.arrays.specs.Steps.{with_rows}
use Rattle.table.proofs.Numbered.{merge_leaves}
use Rattle.calls_in_place.proofs.Tabling.{merge_judged}
use Rattle.calls_in_place.proofs.table_calls.merge.Goals as goal

pub returns-in_err-moved : goal.returns-in_err-moved
returns-in_err-moved c =
    let a = c.args in
    let p = err_from_is_err_and c.from_residual-in_err-moved.result c.from_residual-in_err-moved.ensures.1 in
    let told = c.in_err-moved.ensures in
    λ m ec f cells tags. rw (p.1, p.2) (merge_judged (with_rows m a.rows.now) f a.count.now ec a.party a.base cells tags c.in_ok-known.ensures _ _ _ (merge_leaves a.rows.now _ a.count.now a.party a.base _ told.value told.rows_after))

pub returns : goal.returns
returns c =
    let a = c.args in
    let told = c.in_ok-moved.ensures in
    λ m ec f cells tags. merge_judged (with_rows m a.rows.now) f a.count.now ec a.party a.base cells tags c.in_ok-known.ensures _ _ _ (merge_leaves a.rows.now _ a.count.now a.party a.base _ told.value told.rows_after)
