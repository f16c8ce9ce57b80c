-- `maps::walk::ends` meets its contract. Where what is still to come ends is where all records end.
use Rattle.std.proofs.Common.{map, fold, Some, None, ◌+◌, ◌&&◌, ap, ◌∙◌}
use Rattle.capabilities.specs.Lists.{pick}
use Rattle.maps.specs.Walks.{tile_with}
use Rattle.maps.proofs.Turning.{tile_flag, tile_read}
use Rattle.maps.proofs.walk.ends.Goals as goal

pub loop-row-preserved : goal.loop-row-preserved
loop-row-preserved g c =
    let loop = c.loop-row in
    let reads = g.R.Record.reads in
    let row = c.read-row.result in
    let before = pick loop.tiled (Some loop.end) None in
    tile_read reads c.args.records.now before (pick (loop.tiled && c.goes_on-tiled.result) (Some (row.base + row.length)) None) (fold tile_with (Some 0) (map reads c.args.records.now)) loop.row-index
    c.row-item.result c.loop-row-test.true c.row-item.is loop.invariant
    ((λ j. pick (loop.tiled && c.goes_on-tiled.ensures j) (Some (row.base + row.length)) None) ∙ tile_flag loop.tiled loop.end row ∙ ap (tile_with before) c.read-row.ensures)
