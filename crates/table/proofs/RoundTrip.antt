-- Numbers and tables, back and forth, and that calls keep sound numbers sound. Assumes nothing.
use Prim.Native.Nat.{ℕ, ◌<◌, ◌≤◌}
use mathlib.Core.Bool.{Bool, true, false}
use lib.ListN.{length}
use lib.Dec.{eqb}
use Rattle.capabilities.proofs.Choice.{and_left, and_right, pick_yes, pick_no}
use Rattle.table.specs.Operations.{take_of, give_of, split_of, merge_of}
use Rattle.table.proofs.Kept.{take_kept, give_kept, split_kept, merge_kept}
use Rattle.table.proofs.TakersKept.{take_takers, give_takers, split_takers, merge_takers}
use mathlib.Core.List.{List, [], ◌∷◌, map}
use mathlib.Core.Path.{◌≡◌, refl, sym, ap, subst, ◌∙◌}
use Rattle.table.specs.declared.Reservation.{Reservation}
use Rattle.table.specs.Table.{Table}
use Rattle.table.specs.Table.{Tabled}
use Rattle.table.specs.Rows.{table, live}
use Rattle.table.specs.Tiling.{table_sound, takers_sound}
use Rattle.table.proofs.Truth.{both}
use Rattle.table.specs.Numbers.{row_from, row_code, table_of, numbers_of, written, all_written}
use Rattle.table.specs.Lent.{Leaves, fitting, tabled_of}
use Rattle.table.specs.Sound.{whole_table, sound_numbers}
use Rattle.table.proofs.Numbers.{Sized, read_back, read_sized, write_back, number_written}
use Rattle.table.proofs.Written.{all_cons, all_nil}

-- Written numbers are what their table is written as.
pub numbers_back : (l : List ℕ) (count : ℕ) → all_written l ≡ true → numbers_of (table_of l count) ≡ l
unfolding all_written
numbers_back [] count w = refl
numbers_back (n ∷ l) count w =
    ap (λ k. k ∷ map row_code (map row_from l)) (write_back n (and_left (written n) (all_written l) w))
    ∙ ap (λ m. n ∷ m) (numbers_back l count (and_right (written n) (all_written l) w))

-- Every row's fields have their sizes, as in every value of the type.
abbrev pub AllSized : List Reservation → Type 0
AllSized [] = ◌≡◌ {A = ℕ} 0 0
AllSized (r ∷ l) = Sized r × AllSized l

-- Rows written and read are those rows.
pub rows_back : (l : List Reservation) → AllSized l → map row_from (map row_code l) ≡ l
rows_back [] s = refl
rows_back (r ∷ l) s = ap (λ x. x ∷ map row_from (map row_code l)) (read_back r s.0) ∙ ap (λ m. r ∷ m) (rows_back l s.1)

-- A table written and read is that table, and its numbers are written ones.
pub table_back : (t : Table) → AllSized t.rows → table_of (numbers_of t) t.count ≡ t
table_back t s = ap (λ m. table m t.count) (rows_back t.rows s)

pub rows_written : (l : List Reservation) → AllSized l → all_written (map row_code l) ≡ true
rows_written [] s = all_nil
rows_written (r ∷ l) s = all_cons (row_code r) (map row_code l) (number_written r s.0) (rows_written l s.1)

-- Numbers that are what their table is written as are written ones, since every number reads as a row of the right sizes.
pub reads_sized : (l : List ℕ) → AllSized (map row_from l)
reads_sized [] = refl
reads_sized (n ∷ l) = (read_sized n, reads_sized l)

pub kept_written : (l : List ℕ) (count : ℕ) → numbers_of (table_of l count) ≡ l → all_written l ≡ true
kept_written l count e = subst (λ m. all_written m ≡ true) e (rows_written (map row_from l) (reads_sized l))

-- A call whose rule keeps tables well formed keeps numbers sound; and what it leaves is what the rule's table is written as.
module _ (l m : List ℕ) (code count n : ℕ) (rule : Tabled) (d : Leaves l m code n rule) where
  pub sound_kept : (cells : ℕ) → sound_numbers cells l count ≡ true → whole_table cells rule.table ≡ true → sound_numbers cells m n ≡ true
  unfolding sound_numbers
  sound_kept cells e k =
      both (whole_table cells (table_of m n)) (all_written m) (ap (whole_table cells) d.reads ∙ k)
      (d.sound (and_right (whole_table cells (table_of l count)) (all_written l) e))

  pub left_numbers : all_written l ≡ true → m ≡ numbers_of rule.table
  left_numbers w = sym (numbers_back m n (d.sound w)) ∙ ap numbers_of d.reads

-- The four calls keep sound numbers sound.
module _ (cells : ℕ) (l m : List ℕ) (code count n : ℕ) (ok : sound_numbers cells l count ≡ true) where
  abbrev t : Table
  t = table_of l count

  good : whole_table cells t ≡ true
  unfolding sound_numbers
  good = and_left (whole_table cells t) (all_written l) ok

  rows : table_sound cells t ≡ true
  rows = and_left (table_sound cells t) (takers_sound (live t)) good

  takers : takers_sound (live t) ≡ true
  takers = and_right (table_sound cells t) (takers_sound (live t)) good

  whole : (u : Table) → table_sound cells u ≡ true → takers_sound (live u) ≡ true → whole_table cells u ≡ true
  whole u a b = both (table_sound cells u) (takers_sound (live u)) a b

  fitting_kept : (rule : Tabled) → whole_table cells rule.table ≡ true → whole_table cells (fitting l count rule).table ≡ true
  fitting_kept rule k = go (eqb (length l) 64) refl
    where
      go : (b : Bool) → eqb (length l) 64 ≡ b → whole_table cells (fitting l count rule).table ≡ true
      go true e = ap (λ r. whole_table cells r.table) (pick_yes (eqb (length l) 64) rule (record { code = 1; table = t }) e) ∙ k
      go false e = ap (λ r. whole_table cells r.table) (pick_no (eqb (length l) 64) rule (record { code = 1; table = t }) e) ∙ good

  pub take_keeps : (party base : ℕ) → party ≤ 8 → Leaves l m code n (tabled_of (take_of t party base)) → sound_numbers cells m n ≡ true
  take_keeps party base h d =
      sound_kept l m code count n (tabled_of (take_of t party base)) d cells ok
      (whole _ (take_kept cells t rows party base) (take_takers cells t rows takers party base h))

  pub give_keeps : (party base to : ℕ) → to ≤ 7 → Leaves l m code n (give_of t party base to) → sound_numbers cells m n ≡ true
  give_keeps party base to h d =
      sound_kept l m code count n (give_of t party base to) d cells ok
      (whole _ (give_kept cells t rows party base to h) (give_takers cells t rows takers party base to))

  pub split_keeps : cells < 65536 → (party base len : ℕ) → Leaves l m code n (fitting l count (split_of t party base len)) → sound_numbers cells m n ≡ true
  split_keeps h party base len d =
      let rule = split_of t party base len in
      sound_kept l m code count n (fitting l count rule) d cells ok
      (fitting_kept rule (whole _ (split_kept cells t rows h party base len) (split_takers cells t rows takers party base len)))

  pub merge_keeps : cells < 65536 → (party base : ℕ) → Leaves l m code n (fitting l count (merge_of t party base)) → sound_numbers cells m n ≡ true
  merge_keeps h party base d =
      let rule = merge_of t party base in
      sound_kept l m code count n (fitting l count rule) d cells ok
      (fitting_kept rule (whole _ (merge_kept cells t rows h party base) (merge_takers cells t rows takers party base)))
