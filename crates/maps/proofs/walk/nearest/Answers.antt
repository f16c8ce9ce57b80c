-- `maps::walk::nearest` meets its contract. What is nearest of what is still to come is what is nearest of all records.
use Rattle.std.proofs.Common.{map, fold, None}
use Rattle.maps.specs.declared.Question.TheVariants.{Nearest}
use Rattle.maps.specs.Walks.{near_with}
use Rattle.maps.proofs.Turning.{near_read}
use Rattle.maps.proofs.walk.nearest.Goals as goal

pub loop-row-preserved : goal.loop-row-preserved
loop-row-preserved g c =
    let a = c.args in
    let loop = c.loop-row in
    let reads = g.R.Record.reads in
    near_read reads (Nearest a.cell a.cells) a.records.now loop.nearest c.near_with-nearest.result (fold (near_with a.cell a.cells) None (map reads a.records.now)) loop.row-index c.row-item.result
    c.loop-row-test.true c.row-item.is loop.invariant (rw c.read.ensures at c.near_with-nearest.ensures)
