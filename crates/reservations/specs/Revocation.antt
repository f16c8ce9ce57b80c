-- Commands 05 to 07, which need the table and the page layer, with refusals 6, 7, 10, 11 and 13. Assumes nothing.
use Rattle.std.specs.Prelude.{ℕ, ◌*◌, ◌%◌, Bool, not, ◌&&◌, ◌||◌, List, [], ◌∷◌, leb, eqb, Option}
use Rattle.capabilities.specs.declared.Range.{Range}
use Rattle.capabilities.specs.Death.{dies}
use Rattle.capabilities.specs.Lists.{pick}
use Rattle.capabilities.specs.Refusals.{Reason, reason, first}
use Rattle.pages.specs.Pages.{Pages}
use Rattle.pages.specs.Freed.{all_freed}
use Rattle.pages.specs.Layer.{well_formed, in_range, fresh_of}
use Rattle.pages.specs.Mapping.{any_mapped, freed_of, released_of}
use Rattle.table.specs.declared.Reservation.{Reservation}
use Rattle.table.specs.declared.ReservationState.TheVariants.{Open, Revoking}
use Rattle.table.specs.Table.{Table}
use Rattle.table.specs.Rows.{is_open, is_revoking, no_taker, reservation, range_of, forget_table}
use Rattle.table.specs.Find.{missing, find_of, revoking_of, row_of, with_row}
use Rattle.table.specs.Tiling.{table_sound, fresh_table}
use Rattle.claims.specs.Sound.{fresh_claims}
use Rattle.reservations.specs.Core.{Core, Cored, core, with_table, unswept}

-- A core without takers.
abbrev pub forget_core : Core → Core
forget_core c = with_table c (forget_table c.table)

-- "A fresh start, given V and F, has one Open reservation held by party 0", and principal 0 alone; all is 0 for V or F out of range.
unfoldable pub fresh_core : ℕ → ℕ → Core
fresh_core v f = core (fresh_of v f) (fresh_table (pick (in_range v f) (16 * v) 0)) 0 (fresh_claims (in_range v f))

-- "A revocation runs if and only if one reservation .. is Revoking."
unfoldable pub running : Core → Bool
running c = not (missing (revoking_of c.table))

-- The cells of the Revoking reservation; none where none is.
unfoldable pub revoked : Core → Range
revoked c = range_of (row_of c.table (revoking_of c.table))

-- A capability dies with the revocation that runs: its "base lies in the revoked range".
unfoldable pub dying : Core → ℕ → Bool
dying c cell = running c && dies (revoked c) cell

-- A refused call keeps the core as it was.
abbrev pub cored : ℕ → Core → Core → Cored
cored code before after = record { code = code; core = pick (eqb code 0) after before }

-- 10: "A revoke names a range whose base or length is no multiple of 16."
abbrev pub whole_pages : Reservation → Bool
whole_pages r = eqb (r.base % 16) 0 && eqb (r.length % 16) 0

-- 05 revoke of a row, told whether a revocation runs: 6, 7 if it is Revoking, 10, 11 if one runs, 13 if a page of it is Mapped.
abbrev pub revoke_reasons_of : Pages → Table → Option ℕ → Bool → List Reason
revoke_reasons_of s t f runs =
    let r = row_of t f in
    reason 6 (missing f)
    ∷ reason 7 (is_revoking r.state) ∷ reason 10 (not (whole_pages r)) ∷ reason 11 runs ∷ reason 13 (any_mapped s (range_of r)) ∷ []

unfoldable pub revoke_reasons_at : Core → Option ℕ → List Reason
revoke_reasons_at c f = revoke_reasons_of c.pages c.table f (running c)

unfoldable pub revoke_reasons : Core → ℕ → ℕ → List Reason
revoke_reasons c party base = revoke_reasons_at c (find_of c.table party base)

-- Document 02, 2026-04: the taker of a Taken one stays; "revoking an Open one sets 0".
abbrev pub revoking_taker : Reservation → ℕ
revoking_taker r = pick (is_open r.state) 0 r.taker

abbrev pub revoking_row : Reservation → Reservation
revoking_row r = reservation r.base r.length Revoking 0 (revoking_taker r)

-- "Becomes Revoking, its Unmapped pages Freed, sweep place 0."
unfoldable pub revoke_at : Core → Option ℕ → Core
revoke_at c f =
    let r = row_of c.table f in
    unswept c (freed_of c.pages (range_of r)) (with_row c.table f (revoking_row r))

unfoldable pub revoke_of : Core → ℕ → ℕ → Cored
revoke_of c party base = cored (first (revoke_reasons c party base)) c (revoke_at c (find_of c.table party base))

-- 07 collect: 11 if no revocation runs, or cells are left.
unfoldable pub collect_reasons : Core → List Reason
collect_reasons c = reason 11 (not (running c) || not (leb (16 * c.pages.f) c.place)) ∷ []

abbrev pub collected_row : Reservation → Reservation
collected_row r = reservation r.base r.length Open 0 no_taker

-- "Its pages become Unmapped; the reservation is Open, holder 0."
unfoldable pub collected : Core → Core
collected c =
    let f = revoking_of c.table in
    unswept c (released_of c.pages (revoked c)) (with_row c.table f (collected_row (row_of c.table f)))

unfoldable pub collect_of : Core → Cored
collect_of c = cored (first (collect_reasons c)) c (collected c)

-- "It is made of whole pages, all Freed. The sweep place is 0 to 16 × F, and 0 when none runs."
unfoldable pub revocation_sound : Core → Bool
revocation_sound c =
    pick (running c) (whole_pages (row_of c.table (revoking_of c.table)) && all_freed c.pages (revoked c)) (eqb c.place 0)

-- The core's part of "A state is well formed".
unfoldable pub core_sound : Core → Bool
core_sound c =
    (well_formed c.pages && table_sound (16 * c.pages.v) c.table)
    && (leb c.place (16 * c.pages.f) && revocation_sound c)
