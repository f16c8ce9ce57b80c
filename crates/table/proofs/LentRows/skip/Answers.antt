-- `table::LentRows::skip` meets its contract: four rows that are not the one are four turns of the search.
use native.Mathlib.Omega.{arith}
use mathlib.Core.Path.{◌≡◌, refl, sym, ap, ◌∙◌}
use Prim.Native.Nat.{◌+◌, ◌*◌, ◌≤◌}
use lib.ListN.{length}
use Rattle.table.specs.Rows.{live}
use Rattle.table.specs.Find.{begins, find_of}
use Rattle.table.specs.Searching.{seek_from}
use Rattle.table.specs.Numbers.{table_of}
use Rattle.table.proofs.Reading.{read_four}
use Rattle.table.proofs.LentRows.skip.Goals as goal

pub loop-k-init : goal.loop-k-init
unfolding find_of
loop-k-init c = refl

pub loop-k-preserved : goal.loop-k-preserved
loop-k-preserved c =
    let a = c.args in
    let t = table_of a.self.rows.now a.self.count in
    let P = begins a.party a.base in
    let i = 4 * c.loop-k.k in
    let h : i + 4 ≤ length (live t) = omega (arith, c.loop-k-test.true, c.used-fours.ensures.live) in
    let next : i + 4 ≡ 4 * (c.loop-k.k + 1) = omega arith in
    c.loop-k.invariant ∙ read_four P a.self.rows.now a.self.count i h (sym c.any_begins.ensures ∙ c.if-any_begins.false) ∙ ap (seek_from P t) next
