-- `claims::destroying::drop_all`: what is done by marks is done by the tree, and the parent's unspent limit is put last.
use native.Mathlib.Omega.{arith}
use mathlib.Core.Path.{◌∙◌}
use Rattle.claims.proofs.Sums.{sum_most}
use Rattle.claims.proofs.Looping.{marked_most, emptied_by, cleared_by_lem, returned_by, destroyed_put}
use Rattle.claims.proofs.destroying.drop_all.Goals as goal

pub overflow_add-unspent : goal.overflow_add-unspent
overflow_add-unspent c = let a = c.args in omega (arith, c.shares-back.ensures, sum_most 65791 _ (marked_most a.principals.now a.counts.now c.marks_of-marks.result) 32)

pub returns : goal.returns
returns c =
    let a = c.args in
    let marks = c.marks_of-marks in
    let is = marks.ensures a.counts.now in
    let done = emptied_by a.principals.now a.counts.now a.principal marks.result is c.told-principals in record {
      principals_after = c.put_unspent.ensures
          ∙ destroyed_put a.principals.now a.counts.now a.principal _ c.principal_in-q.result c.principal_in-heir.result c.shares-back.result
          (c.clear_numbers.ensures ∙ done) c.principal_in-q.ensures c.principal_in-heir.ensures
          (c.shares-back.ensures ∙ returned_by a.principals.now a.counts.now a.principal marks.result is);
      counts_after = c.clear_counts.ensures ∙ cleared_by_lem a.principals.now a.counts.now a.principal marks.result is c.told-counts;
    }
