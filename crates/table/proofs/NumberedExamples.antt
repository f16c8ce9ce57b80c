-- Calls that leave the rule's table and other numbers than the right ones, by computing: `table:Lent.Leaves` holds of each, and what
-- `table:Numbered` says does not. All begin with numbers that no reservation is written as. Assumes nothing.
use Prim.Native.Nat.{ℕ, ◌+◌}
use mathlib.Core.Bool.{false, false≢true}
use mathlib.Core.List.{List, ◌∷◌}
use mathlib.Core.Path.{◌≡◌, refl, sym, ◌∙◌}
use lib.ListN.{length, get_or, replicate}
use lib.Dec.{eqb}
use Rattle.capabilities.specs.Refusals.{first}
use Rattle.table.specs.declared.ReservationState.TheVariants.{Open, Taken}
use Rattle.table.specs.Table.{Tabled}
use Rattle.table.specs.Rows.{no_taker, reservation, live, splice, spread, gather}
use Rattle.table.specs.Find.{seek, find_of, next_of, row_of, with_row}
use Rattle.table.specs.Operations.{open_reasons, take_reasons, take_of, give_reasons, give_of, split_reasons_at, split_reasons, split_at, split_of, mergeable, merge_reasons_at, merge_reasons, merge_at, merge_of}
use Rattle.table.specs.Numbers.{state_from, row_from, row_code, written, all_written, table_of}
use Rattle.table.specs.Lent.{Leaves, tabled_of, put_at, place_of, spread_at, gather_at}
use Rattle.table.specs.Numbered.{taken_in, given_in, split_rule, split_in, merge_rule, merged_in}

abbrev row : ℕ → ℕ → ℕ
row base length = row_code (reservation base length Open 0 no_taker)

-- A number with the bit above the taker set reads as it does without.
abbrev marked : ℕ → ℕ
marked n = n + 72057594037927936

-- Two marked rows after one that is not.
abbrev rows : List ℕ
rows = row 0 4 ∷ marked (row 4 4) ∷ marked (row 8 8) ∷ replicate 61 0

-- The numbers m are left, n rows in use, and at a place another number stands than in the right ones.
abbrev OnlyReads : List ℕ → ℕ → Tabled → List ℕ → ℕ → Type 0
OnlyReads m n rule right place = Leaves rows m 0 n rule × (eqb (get_or m place 0) (get_or right place 0) ≡ false)

unwritten : all_written rows ≡ false
unfolding row_code written all_written
unwritten = refl

reads_so : (m : List ℕ) (n : ℕ) (rule : Tabled) → 0 ≡ rule.code → table_of m n ≡ rule.table → Leaves rows m 0 n rule
reads_so m n rule e p = record { answers = e; reads = p; keeps = λ z. absurd (z refl); sound = λ w. absurd (false≢true (sym unwritten ∙ w)) }

-- A take that leaves the mark of the row it takes.
pub take_marks : OnlyReads (row 0 4 ∷ marked (row_code (reservation 4 4 Taken 0 0)) ∷ marked (row 8 8) ∷ replicate 61 0) 3 (tabled_of (take_of (table_of rows 3) 0 4)) (taken_in rows 3 0 4) 1
unfolding first live seek find_of row_of with_row open_reasons take_reasons take_of state_from row_from row_code put_at taken_in
take_marks = (reads_so _ _ _ refl refl, refl)

-- A give that writes another row as what it reads as.
pub give_rewrites : OnlyReads (row 0 4 ∷ row_code (reservation 4 4 Open 3 no_taker) ∷ row 8 8 ∷ replicate 61 0) 3 (give_of (table_of rows 3) 0 4 3) (given_in rows 3 0 4 3) 2
unfolding first live seek find_of row_of with_row open_reasons give_reasons give_of state_from row_from row_code put_at given_in
give_rewrites = (reads_so _ _ _ refl refl, refl)

-- A split that moves the rows above as what they read as.
pub split_rewrites : OnlyReads (row 0 1 ∷ row 1 3 ∷ row 4 4 ∷ row 8 8 ∷ replicate 60 0) 4 (split_rule rows 3 0 0 1) (split_in rows 3 0 0 1) 3
unfolding first live splice spread seek find_of row_of split_reasons_at split_reasons split_at split_of state_from row_from row_code place_of spread_at split_in
split_rewrites = (reads_so _ _ _ refl refl, refl)

-- A merge that leaves a mark in the row that is unused then.
pub merge_marks : OnlyReads (row 0 8 ∷ marked (row 8 8) ∷ marked 0 ∷ replicate 61 0) 2 (merge_rule rows 3 0 0) (merged_in rows 3 0 0) 2
unfolding first live splice gather seek find_of next_of row_of mergeable merge_reasons_at merge_reasons merge_at merge_of state_from row_from row_code place_of gather_at merged_in
merge_marks = (reads_so _ _ _ refl refl, refl)
