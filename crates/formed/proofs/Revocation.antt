-- The test of the revocation, by whether one runs. Assumes nothing.
use Rattle.std.specs.Prelude.{Option}
use Prim.Native.Nat.{ℕ}
use mathlib.Core.Bool.{Bool, true, false, not, ◌&&◌}
use mathlib.Core.List.{List}
use mathlib.Core.Path.{◌≡◌, sym, ap, ◌∙◌}
use lib.Dec.{eqb}
use Rattle.capabilities.proofs.Choice.{pick_yes, pick_no}
use Rattle.pages.specs.Freed.{all_freed}
use Rattle.pages.specs.Numbers.{layer_of}
use Rattle.table.specs.declared.Reservation.{Reservation}
use Rattle.table.specs.Rows.{range_of}
use Rattle.table.specs.Find.{missing, revoking_of, row_of}
use Rattle.table.specs.Numbers.{table_of}
use Rattle.reservations.specs.Core.{Core}
use Rattle.reservations.specs.Revocation.{running, revoked, whole_pages, revocation_sound}
use Rattle.arrays.specs.declared.Numbers.{Numbers}
use Rattle.arrays.specs.Reading.{core_of}
use Rattle.formed.specs.Test.{cached}

module _ (n : Numbers) (rows pages frames principals counts : List ℕ) (found : Option ℕ) (row : Reservation)
    (e1 : found ≡ revoking_of (table_of rows n.count)) (e2 : row ≡ row_of (table_of rows n.count) found) where
  abbrev c : Core
  c = core_of n rows pages frames principals counts

  found_is : found ≡ revoking_of (core_of n rows pages frames principals counts).table
  unfolding core_of
  found_is = e1

  row_is : row ≡ row_of (core_of n rows pages frames principals counts).table (revoking_of (core_of n rows pages frames principals counts).table)
  unfolding core_of
  row_is = e2 ∙ ap (row_of (table_of rows n.count)) e1

  kept_is : (eqb n.base row.base && eqb n.length row.length) ≡ cached n (core_of n rows pages frames principals counts)
  unfolding revoked
  kept_is = ap (λ (r : Reservation). eqb n.base r.base && eqb n.length r.length) row_is

  pub none_runs : missing found ≡ true
      → (eqb n.base row.base && eqb n.length row.length) && eqb n.place 0 ≡ (cached n (core_of n rows pages frames principals counts) && revocation_sound (core_of n rows pages frames principals counts))
  unfolding revocation_sound running
  none_runs m =
      ap (λ (b : Bool). b && eqb n.place 0) kept_is
      ∙ ap (λ (b : Bool). cached n c && b)
      (unfold core_of in sym (pick_no (running c) (whole_pages (row_of c.table (revoking_of c.table)) && all_freed c.pages (revoked c)) (eqb c.place 0) (unfold running in ap not (sym (ap missing found_is) ∙ m))))

  pub one_runs : missing found ≡ false
      → (eqb n.base row.base && eqb n.length row.length) && (whole_pages row && all_freed (layer_of n.v n.f pages frames) (range_of row))
      ≡ (cached n (core_of n rows pages frames principals counts) && revocation_sound (core_of n rows pages frames principals counts))
  unfolding revocation_sound
  one_runs m =
      let r = row_of c.table (revoking_of c.table) in
      ap (λ (b : Bool). b && (whole_pages row && all_freed (layer_of n.v n.f pages frames) (range_of row))) kept_is
      ∙ ap (λ (x : Reservation). cached n c && (whole_pages x && all_freed (layer_of n.v n.f pages frames) (range_of x))) row_is
      ∙ ap (λ (b : Bool). cached n c && b)
      (unfold core_of revoked in sym (pick_yes (running c) (whole_pages r && all_freed c.pages (revoked c)) (eqb c.place 0) (unfold running in ap not (sym (ap missing found_is) ∙ m))))
