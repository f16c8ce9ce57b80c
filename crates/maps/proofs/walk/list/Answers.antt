-- `maps::walk::list` meets its contract. What is still to be listed comes to what all records leave.
use Rattle.std.proofs.Common.{rules, map, ◌∙◌}
use Rattle.maps.specs.Walks.{listing, list_over}
use Rattle.maps.proofs.Turning.{list_read_all}
use Rattle.maps.proofs.walk.list.Goals as goal

pub loop-row-preserved : goal.loop-row-preserved
loop-row-preserved g c =
    let loop = c.loop-row in
    let step = c.list_with-count in
    let q = c.args.question in
    let reads = g.R.Record.reads in (
      search rules ∙ loop.invariant.0,
      list_read_all reads q c.args.records.now (listing loop.count loop.bases) (listing step.result step.new.bases) (list_over q (listing 0 c.args.bases.now) (map reads c.args.records.now))
          loop.row-index c.row-item.result c.loop-row-test.true c.row-item.is loop.invariant.1 (rw c.read.ensures at step.ensures),
    )
