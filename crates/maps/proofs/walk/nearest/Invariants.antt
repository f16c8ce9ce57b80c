-- `maps::walk::nearest` meets its contract. What is nearest of what is still to come is what is nearest of all records.
use Rattle.std.proofs.Common.{◌≡◌, map, fold, None}
use lib.ListN.{drop}
use Rattle.maps.specs.Walks.{near_with}
use Rattle.maps.proofs.walk.nearest.Given as goal

abbrev pub invariant-loop-row : goal.invariant-loop-row
invariant-loop-row g l =
    fold (near_with l.cell l.cells) l.nearest (drop l.row-index (map g.R.Record.reads l.records)) ≡ fold (near_with l.cell l.cells) None (map g.R.Record.reads l.records)
