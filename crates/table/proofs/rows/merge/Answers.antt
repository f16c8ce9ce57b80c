-- `table::rows::merge` meets its contract.
use native.Mathlib.Omega.{arith}
use mathlib.Core.Path.{sym}
use borrow.Author.Tests.{ne_eqb}
use lib.ListN.{length}
use Rattle.std.proofs.lemmas.Result.{err_from_is_err_and}
use Rattle.table.specs.Numbered.{merged_in}
use Rattle.table.specs.Operations.{mergeable, merge_reasons, merge_reasons_at, merge_of}
use Rattle.table.proofs.Answers.{refusal_keeps}
use Rattle.table.proofs.Leaving.{MergeHere, merge_here}
use Rattle.table.proofs.rows.merge.Goals as goal
use Rattle.table.proofs.rows.merge.Goals.{In_ok-check_merge}

-- What was found, once no refusal came.
there : (c : In_ok-check_merge) → MergeHere c.args.rows.now c.args.count c.find-found.result
there c =
    let a = c.args in
    merge_here a.rows.now a.count a.party c.find-found.result c.next-above.result c.row-row.result c.row-other.result c.next-above.ensures c.row-row.ensures c.row-other.ensures c.in_ok-check_merge.ensures

pub returns-then-rows-ne64 : goal.returns-then-rows-ne64
unfolding merged_in
returns-then-rows-ne64 c =
    let other = ne_eqb (length c.args.rows.now) 64 c.if-rows-ne64.true in
    record { value = rw other; rows_after = rw other }

pub returns-in_err-check_merge : goal.returns-in_err-check_merge
unfolding merged_in merge_of merge_reasons merge_reasons_at mergeable
returns-in_err-check_merge c =
    let p = err_from_is_err_and c.from_residual.result c.from_residual.ensures.1 in
    let here = sym c.find-found.ensures in
    let next = sym c.next-above.ensures in
    let row = sym c.row-row.ensures in
    let other = sym c.row-other.ensures in
    let told = sym c.in_err-check_merge.ensures in
    let keeps = refusal_keeps c.in_err-check_merge.field-0.0 in record {
      value = rw (p.1, p.2, c.if-rows-ne64.false, here, next, row, other, told, keeps);
      rows_after = rw (c.if-rows-ne64.false, here, next, row, other, told, keeps);
    }

pub gather-writes-requires : goal.gather-writes-requires
gather-writes-requires c =
    let s = there (goal.at.gather-writes-requires c).In_ok-check_merge in
    (omega (arith, s.below, c.unwrap_or.ensures, c.used-n.ensures.live), omega (arith, s.room, c.used-n.ensures.live))

pub overflow_sub-result : goal.overflow_sub-result
overflow_sub-result c = let s = there (goal.at.overflow_sub-result c).In_ok-check_merge in omega (arith, s.below, c.used-n.ensures.live)

pub returns : goal.returns
unfolding merged_in merge_of merge_reasons merge_reasons_at mergeable
returns c =
    let s = there (goal.at.returns c).In_ok-check_merge in
    let here = sym c.find-found.ensures in
    let next = sym c.next-above.ensures in
    let row = sym c.row-row.ensures in
    let other = sym c.row-other.ensures in
    let told = sym c.in_ok-check_merge.ensures in
    let used = c.used-n.ensures.live in
    let at = c.unwrap_or.ensures in record {
      value = rw (c.if-rows-ne64.false, here, next, row, other, told, s.after, sym s.place, c.gather-writes.ensures.1, at, used);
      rows_after = rw (c.if-rows-ne64.false, here, next, row, other, told, sym s.place, c.gather-writes.ensures.0, c.from-one.ensures, c.joined.ensures, at, used);
    }
