-- Writes by computing: those of a split and of a merge, and why the law that each place is written once asks for a well-formed table.
-- Assumes nothing.
use Prim.Native.Nat.{ℕ}
use mathlib.Core.Bool.{true}
use mathlib.Core.List.{List, [], ◌∷◌}
use mathlib.Core.Path.{◌≡◌, refl}
use lib.ListN.{length, replicate}
use Rattle.capabilities.specs.Refusals.{first}
use Rattle.table.specs.declared.ReservationState.TheVariants.{Open}
use Rattle.table.specs.Rows.{no_taker, reservation, live, splice, spread, gather}
use Rattle.table.specs.Tiling.{tiles, all_blank, revokings, sized, table_sound}
use Rattle.table.specs.Find.{seek, find_of, next_of, row_of}
use Rattle.table.specs.Operations.{split_reasons_at, split_reasons, split_at, split_of, mergeable, merge_reasons_at, merge_reasons, merge_at, merge_of}
use Rattle.table.specs.Numbers.{state_from, row_from, row_code, table_of}
use Rattle.table.specs.Lent.{place_of}
use Rattle.table.specs.Writes.{split_writes, merge_writes, Write, after_writes, writes_to}

abbrev row : ℕ → ℕ → ℕ
row base length = row_code (reservation base length Open 0 no_taker)

abbrev put : ℕ → ℕ → Write
put place number = record { place = place; number = number }

-- Three rows, a well-formed table; the second one is split, by 3 − 1 + 1 writes, and merged with the third, by 3 − 1.
abbrev three : List ℕ
three = row 0 4 ∷ row 4 4 ∷ row 8 8 ∷ replicate 61 0

pub three_sound : table_sound 16 (table_of three 3) ≡ true
unfolding table_sound sized tiles all_blank revokings live state_from row_from row_code
three_sound = refl

abbrev splitting : List Write
splitting = put 3 (row 8 8) ∷ put 2 (row 5 3) ∷ put 1 (row 4 1) ∷ []

pub split_computed : (table_of (after_writes three splitting) 4 ≡ (split_of (table_of three 3) 0 4 1).table) × (length splitting ≡ split_writes (table_of three 3) 0 4 0)
unfolding first live splice spread seek find_of row_of split_reasons_at split_reasons split_at split_of state_from row_from row_code place_of after_writes
split_computed = (refl, refl)

abbrev merging : List Write
merging = put 2 0 ∷ put 1 (row 4 12) ∷ []

pub merge_computed : (table_of (after_writes three merging) 2 ≡ (merge_of (table_of three 3) 0 4).table) × (length merging ≡ merge_writes (table_of three 3) 0 4 0)
unfolding first live splice gather seek find_of next_of row_of mergeable merge_reasons_at merge_reasons merge_at merge_of state_from row_from row_code place_of after_writes
merge_computed = (refl, refl)

-- Where two rows are equal, the table and the number do not tell who wrote what: a split of the first row by four writes, and four
-- writes that leave the same, one place written twice and one never.
abbrev alike : List ℕ
alike = row 0 4 ∷ row 4 4 ∷ row 4 4 ∷ replicate 61 0

abbrev each : List Write
each = put 3 (row 4 4) ∷ put 2 (row 4 4) ∷ put 1 (row 1 3) ∷ put 0 (row 0 1) ∷ []

abbrev twice : List Write
twice = put 3 (row 4 4) ∷ put 1 (row 1 3) ∷ put 1 (row 1 3) ∷ put 0 (row 0 1) ∷ []

pub not_told : (table_of (after_writes alike each) 4 ≡ (split_of (table_of alike 3) 0 0 1).table) × ((after_writes alike twice ≡ after_writes alike each) × ((length twice ≡ length each) × (writes_to 2 twice ≡ 0)))
unfolding first live splice spread seek find_of row_of split_reasons_at split_reasons split_at split_of state_from row_from row_code place_of after_writes writes_to
not_told = (refl, (refl, (refl, refl)))
