-- Refused under 4, or else what the table's own call leaves, which is the rule's table written.
use Rattle.words.specs.WordReasons.{unnamed}
use Rattle.arrays.specs.Steps.{with_rows}
use Rattle.table.proofs.Numbered.{give_leaves}
use Rattle.calls_in_place.proofs.Early.{both_known}
use Rattle.calls_in_place.proofs.Tabling.{give_judged}
use Rattle.calls_in_place.proofs.table_calls.give.Goals as goal

pub returns : goal.returns
returns c =
    let a = c.args in
    λ m ec f cells tags. give_judged (with_rows m a.rows.now) f a.count ec a.party a.base cells tags a.to (both_known (unnamed a.party) (unnamed a.to) c.in_ok-known.ensures c.in_ok-known-2.ensures) _ _ (give_leaves a.rows.now _ a.count a.party a.base a.to c.ranges.to.fits _ c.give.ensures.value c.give.ensures.rows_after)
