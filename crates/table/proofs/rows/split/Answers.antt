-- `table::rows::split` meets its contract.
use native.Mathlib.Omega.{arith}
use mathlib.Core.Path.{sym}
use borrow.Author.Tests.{ne_eqb}
use lib.ListN.{length}
use Rattle.std.proofs.lemmas.Result.{err_from_is_err_and}
use Rattle.table.specs.Numbered.{split_in}
use Rattle.table.specs.Operations.{split_reasons, split_reasons_at, split_of}
use Rattle.table.proofs.Answers.{refusal_keeps}
use Rattle.table.proofs.Leaving.{SplitHere, split_here}
use Rattle.table.proofs.rows.split.Goals as goal
use Rattle.table.proofs.rows.split.Goals.{In_ok-check_split}

-- What was found, once no refusal came.
there : (c : In_ok-check_split) → SplitHere c.args.rows.now c.args.count c.find-found.result c.row-row.result c.args.len
there c =
    let a = c.args in
    split_here a.rows.now a.count a.party a.base a.len c.find-found.result c.row-row.result c.find-found.ensures c.row-row.ensures c.in_ok-check_split.ensures c.if-rows-ne64.false

pub returns-then-rows-ne64 : goal.returns-then-rows-ne64
unfolding split_in
returns-then-rows-ne64 c =
    let other = ne_eqb (length c.args.rows.now) 64 c.if-rows-ne64.true in
    record { value = rw other; rows_after = rw other }

pub returns-in_err-check_split : goal.returns-in_err-check_split
unfolding split_in split_of split_reasons split_reasons_at
returns-in_err-check_split c =
    let p = err_from_is_err_and c.from_residual.result c.from_residual.ensures.1 in
    let here = sym c.find-found.ensures in
    let row = sym c.row-row.ensures in
    let told = sym c.in_err-check_split.ensures in
    let keeps = refusal_keeps c.in_err-check_split.field-0.0 in record {
      value = rw (p.1, p.2, c.if-rows-ne64.false, here, row, told, keeps);
      rows_after = rw (c.if-rows-ne64.false, here, row, told, keeps);
    }

pub upper_part-requires : goal.upper_part-requires
upper_part-requires c = (there (goal.at.upper_part-requires c).In_ok-check_split).fits

pub spread-writes-requires : goal.spread-writes-requires
spread-writes-requires c =
    let s = there (goal.at.spread-writes-requires c).In_ok-check_split in
    (omega (arith, s.below, c.unwrap_or.ensures), omega (arith, s.room, c.if-rows-ne64.false))

pub overflow_add-result : goal.overflow_add-result
overflow_add-result c = let s = there (goal.at.overflow_add-result c).In_ok-check_split in omega (arith, s.room)

pub returns : goal.returns
unfolding split_in split_of split_reasons split_reasons_at
returns c =
    let s = there (goal.at.returns c).In_ok-check_split in
    let here = sym c.find-found.ensures in
    let row = sym c.row-row.ensures in
    let told = sym c.in_ok-check_split.ensures in
    let at = c.unwrap_or.ensures in record {
      value = rw (c.if-rows-ne64.false, here, row, told, s.after, s.used, sym s.place, c.spread-writes.ensures.1, at);
      rows_after = rw (c.if-rows-ne64.false, here, row, told, sym s.place, c.spread-writes.ensures.0, c.from-lower.ensures, c.from-upper.ensures, c.lower_part.ensures, c.upper_part.ensures, at);
    }
