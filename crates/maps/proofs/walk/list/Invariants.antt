-- `maps::walk::list` meets its contract. What is still to be listed comes to what all records leave.
use Rattle.std.proofs.Common.{◌≡◌, map, length}
use lib.ListN.{drop}
use Rattle.maps.specs.Walks.{listing, list_over}
use Rattle.maps.proofs.walk.list.Given as goal

abbrev pub invariant-loop-row : goal.invariant-loop-row
invariant-loop-row g l =
    let records = map g.R.Record.reads l.records in
    (length l.bases ≡ length l.initial.bases)
    × (list_over l.question (listing l.count l.bases) (drop l.row-index records) ≡ list_over l.question (listing 0 l.initial.bases) records)
