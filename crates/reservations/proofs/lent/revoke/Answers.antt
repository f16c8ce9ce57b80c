-- `reservations::lent::revoke` meets its contract: its callees leave the rows and pages that are named, and these read as the rule's (`revoke_reads`).
use mathlib.Core.Path.{ap, ◌∙◌}
use Rattle.capabilities.specs.declared.Range.{Range}
use Rattle.pages.specs.Numbers.{freed_numbers}
use Rattle.table.specs.declared.Reservation.{Reservation}
use Rattle.table.specs.Rows.{range_of}
use Rattle.table.specs.Numbers.{row_code}
use Rattle.table.specs.Lent.{put_at}
use Rattle.reservations.specs.Revocation.{revoking_row}
use Rattle.reservations.specs.Lent.{revoked_rows, revoked_pages}
use Rattle.reservations.proofs.RowsAndPages.{revoke_reads}
use Rattle.reservations.proofs.lent.revoke.Goals as goal

pub returns : goal.returns
unfolding revoked_rows revoked_pages
returns c =
    let a = c.args in
    let row = c.row-row.ensures in
    let range = c.range_of-range.ensures ∙ ap range_of row in
    let rows = c.put_row.ensures ∙ ap (λ (x : Reservation). put_at a.rows.now a.found (row_code x)) (c.revoking_row.ensures ∙ ap (λ (x : Reservation). revoking_row x) row) in
    let pages = c.free.ensures.pages_after ∙ ap (λ (r : Range). freed_numbers r a.pages.now) range in record { value = range; rows_after = rows; pages_after = pages; reads_as = λ v f place frames claims. rw (rows, pages) (revoke_reads a.rows.now a.count a.pages.now a.found v f place frames claims) }
