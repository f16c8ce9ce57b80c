-- Lent rows and pages after revoke and collect read as the rule's core, and are what that core is written as. Assumes nothing.
use Rattle.std.specs.Prelude.{Option, Some, None}
use Prim.Native.Nat.{ℕ, ◌<◌}
use native.Mathlib.Omega.{arith}
use mathlib.Core.Bool.{Bool, true, false}
use mathlib.Core.List.{List, map}
use mathlib.Core.Path.{◌≡◌, ap, ◌∙◌}
use lib.ListN.{set}
use Rattle.capabilities.specs.Lists.{pick}
use Rattle.capabilities.proofs.Lists.{map_set}
use Rattle.pages.specs.Pages.{Pages, PageEntry}
use Rattle.pages.specs.Mapping.{freed_of, released_of}
use Rattle.pages.specs.Numbers.{page_code, page_in, layer_of}
use Rattle.pages.proofs.RangeNumbers.{freed_reads, freed_written, released_reads, released_written}
use Rattle.table.specs.declared.Reservation.{Reservation}
use Rattle.table.specs.Table.{Table}
use Rattle.table.specs.Rows.{is_open, range_of}
use Rattle.table.specs.Find.{revoking_of, row_of, with_row}
use Rattle.table.specs.Numbers.{row_from, row_code, table_of}
use Rattle.table.specs.Lent.{put_at}
use Rattle.table.proofs.Numbers.{Sized}
use Rattle.table.proofs.Reading.{put_reads}
use Rattle.table.proofs.Leaving.{row_sized}
use Rattle.claims.specs.Claims.{Claims}
use Rattle.reservations.specs.Core.{Core, core}
use Rattle.reservations.specs.Revocation.{revoking_row, revoke_at, revoked, collected_row, collected}
use Rattle.reservations.specs.Lent.{ReadsAs, revoked_rows, revoked_pages, collected_rows, collected_pages}

revoking_sized : (r : Reservation) → Sized r → Sized (revoking_row r)
revoking_sized r s = record { base = s.base; length = s.length; holder = omega arith; taker = go (is_open r.state) }
  where
    go : (b : Bool) → pick b 0 r.taker < 256
    go true = omega arith
    go false = s.taker

collected_sized : (r : Reservation) → Sized r → Sized (collected_row r)
collected_sized r s = record { base = s.base; length = s.length; holder = omega arith; taker = omega arith }

module _ (rows : List ℕ) (count : ℕ) (pages : List ℕ) where
  abbrev t : Table
  t = table_of rows count

  pub revoke_reads : (g : Option ℕ) → ReadsAs count rows pages (revoked_rows rows count g) (revoked_pages rows count g pages) (λ (c : Core). revoke_at c g)
  unfolding revoke_at revoked_rows revoked_pages
  revoke_reads g v f place frames claims =
      ap (λ (s : Pages). core s (table_of (put_at rows g (row_code (revoking_row (row_of t g)))) count) 0 claims) (freed_reads (range_of (row_of t g)) pages v f frames)
      ∙ ap (λ (u : Table). core (freed_of (layer_of v f pages frames) (range_of (row_of t g))) u 0 claims) (put_reads rows count g (revoking_row (row_of t g)) (revoking_sized (row_of t g) (row_sized rows count g)))

  pub collect_reads : ReadsAs count rows pages (collected_rows rows count) (collected_pages rows count pages) collected
  unfolding collected revoked collected_rows collected_pages
  collect_reads v f place frames claims =
      let g = revoking_of t in
      ap (λ (s : Pages). core s (table_of (put_at rows g (row_code (collected_row (row_of t g)))) count) 0 claims) (released_reads (range_of (row_of t g)) pages v f frames)
      ∙ ap (λ (u : Table). core (released_of (layer_of v f pages frames) (range_of (row_of t g))) u 0 claims) (put_reads rows count g (collected_row (row_of t g)) (collected_sized (row_of t g) (row_sized rows count g)))

  -- Numbers that are written as their rows and pages are so afterwards.
  module _ (v f place : ℕ) (frames : List ℕ) (claims : Claims) where
    abbrev c : Core
    c = core (layer_of v f pages frames) (table_of rows count) place claims

    put_written : map row_code (map row_from rows) ≡ rows → (g : Option ℕ) (x : Reservation) → map row_code (with_row (table_of rows count) g x).rows ≡ put_at rows g (row_code x)
    unfolding with_row put_at
    put_written kept (Some i) x = map_set row_code (map row_from rows) i x ∙ ap (λ (l : List ℕ). set l i (row_code x)) kept
    put_written kept None x = kept

    pub revoke_rows : (g : Option ℕ) → map row_code (map row_from rows) ≡ rows → map row_code (revoke_at c g).table.rows ≡ revoked_rows rows count g
    unfolding revoke_at revoked_rows
    revoke_rows g kept = put_written kept g (revoking_row (row_of t g))

    pub revoke_pages : (g : Option ℕ) → map (λ (e : PageEntry). page_code e.state) (map page_in pages) ≡ pages
        → map (λ (e : PageEntry). page_code e.state) (revoke_at c g).pages.pages ≡ revoked_pages rows count g pages
    unfolding revoke_at revoked_pages
    revoke_pages g kept = freed_written (range_of (row_of t g)) pages v f frames kept

    pub collect_rows : map row_code (map row_from rows) ≡ rows → map row_code (collected c).table.rows ≡ collected_rows rows count
    unfolding collected collected_rows
    collect_rows kept = put_written kept (revoking_of t) (collected_row (row_of t (revoking_of t)))

    pub collect_pages : map (λ (e : PageEntry). page_code e.state) (map page_in pages) ≡ pages
        → map (λ (e : PageEntry). page_code e.state) (collected c).pages.pages ≡ collected_pages rows count pages
    unfolding collected revoked collected_pages
    collect_pages kept = released_written (range_of (row_of t (revoking_of t))) pages v f frames kept
