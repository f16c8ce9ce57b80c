-- What revoke and collect leave in lent rows and pages. Assumes nothing.
use Rattle.std.specs.Prelude.{ℕ, List, ◌≡◌, Option}
use Rattle.pages.specs.Numbers.{layer_of, freed_numbers, released_numbers}
use Rattle.table.specs.Rows.{range_of}
use Rattle.table.specs.Find.{revoking_of, row_of}
use Rattle.table.specs.Numbers.{row_code, table_of}
use Rattle.table.specs.Lent.{put_at}
use Rattle.claims.specs.Claims.{Claims}
use Rattle.reservations.specs.Core.{Core, core}
use Rattle.reservations.specs.Revocation.{revoking_row, collected_row}

-- Read as table and layer, rows and pages are afterwards what the rule makes of them, whatever else the core holds; "sweep place 0".
abbrev pub ReadsAs : ℕ → List ℕ → List ℕ → List ℕ → List ℕ → (Core → Core) → Type 0
ReadsAs count rows pages rows' pages' rule =
    (v f place : ℕ) (frames : List ℕ) (claims : Claims)
    → core (layer_of v f pages' frames) (table_of rows' count) 0 claims ≡ rule (core (layer_of v f pages frames) (table_of rows count) place claims)

-- 05, number by number: the row found is Revoking, and its Unmapped pages are Freed.
unfoldable pub revoked_rows : List ℕ → ℕ → Option ℕ → List ℕ
revoked_rows rows count f = put_at rows f (row_code (revoking_row (row_of (table_of rows count) f)))

unfoldable pub revoked_pages : List ℕ → ℕ → Option ℕ → List ℕ → List ℕ
revoked_pages rows count f pages = freed_numbers (range_of (row_of (table_of rows count) f)) pages

-- 07: the Revoking row is Open, and its pages are Unmapped.
unfoldable pub collected_rows : List ℕ → ℕ → List ℕ
collected_rows rows count =
    let t = table_of rows count in
    put_at rows (revoking_of t) (row_code (collected_row (row_of t (revoking_of t))))

unfoldable pub collected_pages : List ℕ → ℕ → List ℕ → List ℕ
collected_pages rows count pages =
    let t = table_of rows count in
    released_numbers (range_of (row_of t (revoking_of t))) pages
