-- `reservations::lent::collect` meets its contract: its callees leave the rows and pages that are named, and these read as the rule's (`collect_reads`).
use Rattle.std.specs.Prelude.{ℕ, Option}
use mathlib.Core.Path.{ap, ◌∙◌}
use Rattle.capabilities.specs.declared.Range.{Range}
use Rattle.pages.specs.Numbers.{released_numbers}
use Rattle.table.specs.declared.Reservation.{Reservation}
use Rattle.table.specs.Rows.{range_of}
use Rattle.table.specs.Find.{revoking_of, row_of}
use Rattle.table.specs.Numbers.{row_code, table_of}
use Rattle.table.specs.Lent.{put_at}
use Rattle.reservations.specs.Revocation.{collected_row}
use Rattle.reservations.specs.Lent.{collected_rows, collected_pages}
use Rattle.reservations.proofs.RowsAndPages.{collect_reads}
use Rattle.reservations.proofs.lent.collect.Goals as goal

pub returns : goal.returns
unfolding collected_rows collected_pages
returns c =
    let a = c.args in
    let t = table_of a.rows.now a.count in
    let found = c.revoking-found.ensures in
    let row = c.row-row.ensures ∙ ap (λ (g : Option ℕ). row_of t g) found in
    let rows =
    c.put_row.ensures
    ∙ ap (λ (x : Reservation). put_at a.rows.now c.revoking-found.result (row_code x)) (c.collected_row.ensures ∙ ap (λ (x : Reservation). collected_row x) row)
    ∙ ap (λ (g : Option ℕ). put_at a.rows.now g (row_code (collected_row (row_of t (revoking_of t))))) found in
    let pages = c.release.ensures.pages_after ∙ ap (λ (r : Range). released_numbers r a.pages.now) (c.range_of.ensures ∙ ap range_of row) in record { rows_after = rows; pages_after = pages; reads_as = λ v f place frames claims. rw (rows, pages) (collect_reads a.rows.now a.count a.pages.now v f place frames claims) }
