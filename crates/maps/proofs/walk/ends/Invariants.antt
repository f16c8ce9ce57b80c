-- `maps::walk::ends` meets its contract. Where what is still to come ends is where all records end.
use Rattle.std.proofs.Common.{◌≡◌, map, fold, Some, None}
use lib.ListN.{drop}
use Rattle.capabilities.specs.Lists.{pick}
use Rattle.maps.specs.Walks.{tile_with}
use Rattle.maps.proofs.walk.ends.Given as goal

abbrev pub invariant-loop-row : goal.invariant-loop-row
invariant-loop-row g l =
    fold tile_with (pick l.tiled (Some l.end) None) (drop l.row-index (map g.R.Record.reads l.records)) ≡ fold tile_with (Some 0) (map g.R.Record.reads l.records)
