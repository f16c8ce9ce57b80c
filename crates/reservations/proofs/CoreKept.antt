-- Every operation keeps the core well formed, granted or refused. Assumes nothing.
use Prim.Native.Nat.{ℕ, ◌*◌, ◌<◌, ◌≤◌}
use native.Mathlib.Omega.{arith}
use mathlib.Core.Bool.{Bool, true, not, ◌&&◌}
use mathlib.Core.List.{List}
use mathlib.Core.Path.{◌≡◌, sym, ap, ◌∙◌}
use borrow.Author.Tests.{leb-true, le-leb}
use lib.Dec.{eqb, leb}
use Rattle.capabilities.specs.Lists.{pick}
use Rattle.capabilities.proofs.Choice.{and_left, and_right}
use Rattle.pages.specs.Pages.{Pages}
use Rattle.pages.specs.Freed.{all_freed}
use Rattle.pages.specs.Layer.{well_formed}
use Rattle.pages.proofs.Formed as formed
use Rattle.table.specs.declared.Reservation.{Reservation}
use Rattle.table.specs.Table.{Table}
use Rattle.table.specs.Rows.{live, range_of}
use Rattle.table.specs.Find.{revoking_of, row_of}
use Rattle.table.specs.Operations.{take_of, split_of, merge_of, give_of}
use Rattle.table.specs.Tiling.{table_sound}
use Rattle.table.proofs.Unrevoked.{take_still, give_still, split_still, merge_still}
use Rattle.table.proofs.Truth.{both}
use Rattle.table.proofs.Dying.{dyings, none, first_of, revoking_row_lem, revoking_none}
use Rattle.table.proofs.Kept.{take_kept, give_kept, split_kept, merge_kept}
use Rattle.reservations.specs.Core.{Core, with_table}
use Rattle.reservations.specs.Revocation.{running, revoked, whole_pages, revocation_sound, core_sound}

-- A well-formed core as plain facts.
pub record CoreFacts (c : Core) : Type 0 where
  pub layer : well_formed c.pages ≡ true
  pub rows : table_sound (16 * c.pages.v) c.table ≡ true
  pub place : c.place ≤ 16 * c.pages.f
  pub revocation : revocation_sound c ≡ true
  pub fits : 16 * c.pages.v < 65536

pub core_facts : (c : Core) → core_sound c ≡ true → CoreFacts c
unfolding core_sound
core_facts c e =
    let front = and_left (well_formed c.pages && table_sound (16 * c.pages.v) c.table) (leb c.place (16 * c.pages.f) && revocation_sound c) e in
    let back = and_right (well_formed c.pages && table_sound (16 * c.pages.v) c.table) (leb c.place (16 * c.pages.f) && revocation_sound c) e in
    let layer = and_left (well_formed c.pages) (table_sound (16 * c.pages.v) c.table) front in
    record {
      layer = layer;
      rows = and_right (well_formed c.pages) (table_sound (16 * c.pages.v) c.table) front;
      place = leb-true c.place (16 * c.pages.f) (and_left (leb c.place (16 * c.pages.f)) (revocation_sound c) back);
      revocation = and_right (leb c.place (16 * c.pages.f)) (revocation_sound c) back;
      fits = let s = formed.sound c.pages layer in omega (arith, s.v_most);
    }

pub core_made : (c : Core) → well_formed c.pages ≡ true → table_sound (16 * c.pages.v) c.table ≡ true → c.place ≤ 16 * c.pages.f → revocation_sound c ≡ true → core_sound c ≡ true
unfolding core_sound
core_made c layer rows place revocation =
    both (well_formed c.pages && table_sound (16 * c.pages.v) c.table) (leb c.place (16 * c.pages.f) && revocation_sound c)
    (both (well_formed c.pages) (table_sound (16 * c.pages.v) c.table) layer rows)
    (both (leb c.place (16 * c.pages.f)) (revocation_sound c) (le-leb c.place (16 * c.pages.f) place) revocation)

-- What a revocation needs, said of the Revoking reservations alone.
unfoldable pub dying_sound : Pages → ℕ → List Reservation → Bool
dying_sound pages place d = pick (not (none d)) (whole_pages (first_of d) && all_freed pages (range_of (first_of d))) (eqb place 0)

pub dying_sound_lem : (c : Core) → revocation_sound c ≡ dying_sound c.pages c.place (dyings (live c.table))
unfolding revocation_sound running revoked dying_sound
dying_sound_lem c =
    ap (λ b. pick (not b) (whole_pages (row_of c.table (revoking_of c.table)) && all_freed c.pages (range_of (row_of c.table (revoking_of c.table)))) (eqb c.place 0)) (revoking_none c.table)
    ∙ ap (λ r. pick (not (none (dyings (live c.table)))) (whole_pages r && all_freed c.pages (range_of r)) (eqb c.place 0)) (revoking_row_lem c.table)

-- The revoked range is said by the Revoking reservations alone.
pub revoked_kept : (c : Core) (t : Table) → dyings (live t) ≡ dyings (live c.table) → revoked (with_table c t) ≡ revoked c
unfolding revoked
revoked_kept c t same = ap range_of (revoking_row_lem t ∙ ap first_of same ∙ sym (revoking_row_lem c.table))

-- A table with the same Revoking reservations may stand in place of the old one.
pub table_kept : (c : Core) (t : Table) → core_sound c ≡ true → table_sound (16 * c.pages.v) t ≡ true → dyings (live t) ≡ dyings (live c.table) → core_sound (with_table c t) ≡ true
table_kept c t ok rows same =
    let f = core_facts c ok in
    core_made (with_table c t) f.layer rows f.place
    (dying_sound_lem (with_table c t) ∙ ap (dying_sound c.pages c.place) same ∙ sym (dying_sound_lem c) ∙ f.revocation)

-- 01 to 04 keep the core well formed, granted or refused.
module _ (c : Core) (ok : core_sound c ≡ true) where
  abbrev facts : CoreFacts c
  facts = core_facts c ok

  pub core_take : (party base : ℕ) → core_sound (with_table c (take_of c.table party base).table) ≡ true
  core_take party base =
      table_kept c (take_of c.table party base).table ok (take_kept (16 * c.pages.v) c.table facts.rows party base)
      (take_still (16 * c.pages.v) c.table facts.rows party base)

  pub core_give : (party base to : ℕ) → to ≤ 7 → core_sound (with_table c (give_of c.table party base to).table) ≡ true
  core_give party base to h =
      table_kept c (give_of c.table party base to).table ok (give_kept (16 * c.pages.v) c.table facts.rows party base to h)
      (give_still (16 * c.pages.v) c.table facts.rows party base to)

  pub core_split : (party base len : ℕ) → core_sound (with_table c (split_of c.table party base len).table) ≡ true
  core_split party base len =
      table_kept c (split_of c.table party base len).table ok (split_kept (16 * c.pages.v) c.table facts.rows facts.fits party base len)
      (split_still (16 * c.pages.v) c.table facts.rows party base len)

  pub core_merge : (party base : ℕ) → core_sound (with_table c (merge_of c.table party base).table) ≡ true
  core_merge party base =
      table_kept c (merge_of c.table party base).table ok (merge_kept (16 * c.pages.v) c.table facts.rows facts.fits party base)
      (merge_still (16 * c.pages.v) c.table facts.rows party base)
