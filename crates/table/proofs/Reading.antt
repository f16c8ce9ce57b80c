-- What a table read from numbers holds, entry by entry. Assumes nothing.
use Rattle.std.specs.Prelude.{Option, Some, None}
use Prim.Native.Nat.{ℕ, ◌+◌, ◌<◌, ◌≤◌, min}
use native.Mathlib.Omega.{arith}
use native.Mathlib.Numerals.{add-one}
use mathlib.Core.Bool.{Bool, true, false, ◌||◌, cond}
use mathlib.Core.List.{List, [], ◌∷◌, map}
use mathlib.Core.Path.{◌≡◌, refl, sym, ap, ◌∙◌}
use lib.ListN.{length, get_or, set, take, length-map, get_or-map}
use Rattle.table.specs.declared.Reservation.{Reservation}
use Rattle.table.specs.Rows.{live, blank, table}
use Rattle.table.specs.Find.{row_of, with_row}
use Rattle.table.specs.Searching.{seek_from, any_of}
use Rattle.table.proofs.Truth.{or_left, or_right}
use Rattle.table.proofs.Finding.{seek_more, seek_here}
use Rattle.table.proofs.Moving.{live_length, live_at}
use Rattle.table.specs.Numbers.{row_from, row_code, table_of}
use Rattle.table.specs.Lent.{put_at}
use Rattle.table.proofs.Numbers.{zero_blank, Sized, read_back}
use Rattle.table.proofs.Mapping.{map_set, map_take}
use Rattle.std.specs.List.{position, position_from}
use Rattle.std.proofs.lemmas.List.{take_min}
use Rattle.std.proofs.lemmas.Iterator.Adapters.{position_from-zero}
use Rattle.capabilities.specs.Lists.{pick}
use Rattle.table.specs.Find.{seek}

pub used_length : (l : List ℕ) (n : ℕ) → length (live (table_of l n)) ≡ min n (length l)
used_length l n = live_length (table_of l n) ∙ ap (min n) (length-map l row_from)

pub read_at : (l : List ℕ) (i : ℕ) → get_or (map row_from l) i blank ≡ row_from (get_or l i 0)
read_at l i = ap (get_or (map row_from l) i) (sym zero_blank) ∙ get_or-map row_from l i 0

pub live_read : (l : List ℕ) (n i : ℕ) → i < length (live (table_of l n)) → get_or (live (table_of l n)) i blank ≡ row_from (get_or l i 0)
live_read l n i h = live_at (table_of l n) i blank h ∙ read_at l i

-- A search of numbers, as its loop goes: a row that is not the one, the one, and four that are not.
module _ (P : Reservation → Bool) (l : List ℕ) (count : ℕ) where
  next : (i k : ℕ) → k ≡ i + 1 → i < length (live (table_of l count)) → P (row_from (get_or l i 0)) ≡ false → seek_from P (table_of l count) i ≡ seek_from P (table_of l count) k
  next i k s h e = seek_more P (live (table_of l count)) i blank h (ap P (live_read l count i h) ∙ e) ∙ sym (ap (seek_from P (table_of l count)) s)

  pub read_more : (i : ℕ) → i < length (live (table_of l count)) → P (row_from (get_or l i 0)) ≡ false → seek_from P (table_of l count) i ≡ seek_from P (table_of l count) (i + 1)
  read_more i = next i (i + 1) refl

  pub read_here : (i : ℕ) → i < length (live (table_of l count)) → P (row_from (get_or l i 0)) ≡ true → seek_from P (table_of l count) i ≡ Some i
  read_here i h e = seek_here P (live (table_of l count)) i blank h (ap P (live_read l count i h) ∙ e)

  pub read_four : (i : ℕ) → i + 4 ≤ length (live (table_of l count)) → any_of P (row_from (get_or l i 0)) (row_from (get_or l (i + 1) 0)) (row_from (get_or l (i + 2) 0)) (row_from (get_or l (i + 3) 0)) ≡ false → seek_from P (table_of l count) i ≡ seek_from P (table_of l count) (i + 4)
  read_four i h e =
      let a = P (row_from (get_or l i 0)) in
      let b = P (row_from (get_or l (i + 1) 0)) in
      let c = P (row_from (get_or l (i + 2) 0)) in
      let d = P (row_from (get_or l (i + 3) 0)) in
      let f = or_left ((a || b) || c) d e in
      let g = or_left (a || b) c f in
      read_more i (omega arith) (or_left a b g)
      ∙ next (i + 1) (i + 2) (omega arith) (omega arith) (or_right a b g)
      ∙ next (i + 2) (i + 3) (omega arith) (omega arith) (or_right (a || b) c f)
      ∙ next (i + 3) (i + 4) (omega arith) (omega arith) (or_right ((a || b) || c) d e)

pub row_read : (l : List ℕ) (n i : ℕ) → row_of (table_of l n) (Some i) ≡ row_from (get_or l i 0)
unfolding row_of
row_read l n i = read_at l i

-- The numbers of the rows in use, as the code cuts them off, are what those rows are read from.
pub live_numbers : (l : List ℕ) (n : ℕ) → live (table_of l n) ≡ map row_from (take (min n (length l)) l)
unfolding live
live_numbers l n = sym (map_take row_from n l) ∙ ap (map row_from) (sym (take_min n l))

-- A search of rows is one of numbers.
seek_numbers : (P : Reservation → Bool) (k : ℕ) (l : List ℕ) → seek P k (map row_from l) ≡ position_from (λ n. P (row_from n)) k l
unfolding seek
seek_numbers P k [] = refl
seek_numbers P k (n ∷ l) = go (P (row_from n)) (ap (λ (j : ℕ). seek P j (map row_from l)) (sym (add-one k)) ∙ seek_numbers P (k + 1) l)
  where
    go : (b : Bool) {y z : Option ℕ} → y ≡ z → pick b (Some k) y ≡ cond b (Some k) z
    go true e = refl
    go false e = e

pub seek_used : (P : Reservation → Bool) (l : List ℕ) (n : ℕ) → seek P 0 (live (table_of l n)) ≡ position (λ n. P (row_from n)) (take (min n (length l)) l)
seek_used P l n = ap (seek P 0) (live_numbers l n) ∙ seek_numbers P 0 (take (min n (length l)) l) ∙ sym (position_from-zero (λ n. P (row_from n)) (take (min n (length l)) l))

-- A row written is the row put.
pub put_reads : (l : List ℕ) (n : ℕ) (f : Option ℕ) (r : Reservation) → Sized r → table_of (put_at l f (row_code r)) n ≡ with_row (table_of l n) f r
unfolding put_at with_row
put_reads l n (Some i) r s = ap (λ m. table m n) (map_set row_from l i (row_code r) ∙ ap (set (map row_from l) i) (read_back r s))
put_reads l n None r s = refl
