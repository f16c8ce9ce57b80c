-- What stands in each place of a list once k rows from the i-th on are replaced by new ones. Assumes nothing.
use Prim.Native.Nat.{ℕ, ◌+◌, ◌-◌, ◌<◌, ◌≤◌}
use native.Mathlib.Omega.{arith}
use mathlib.Core.List.{List, ◌++◌}
use mathlib.Core.Path.{◌≡◌, refl, sym, ap, ◌∙◌}
use lib.ListN.{length, get_or, take, drop, length-append, length-drop, get_or-append}
use lib.Seq.{get_or-take, get_or-drop, get_or-append-add, length-take-le}
use Rattle.table.specs.declared.Reservation.{Reservation}
use Rattle.table.specs.Rows.{blank}

module _ (l new : List Reservation) (i k : ℕ) (h : i + k ≤ length l) where
  abbrev result : List Reservation
  result = take i l ++ (new ++ drop (i + k) l)

  front : length (take i l) ≡ i
  front = length-take-le i l (omega arith)

  pub size : length result ≡ i + (length new + (length l - (i + k)))
  size = simp (length-append, front, length-drop) refl

  pub low : (j : ℕ) → j < i → get_or result j blank ≡ get_or l j blank
  low j b = get_or-append (take i l) (new ++ drop (i + k) l) blank j (rw front b) ∙ get_or-take i l j blank b

  past : (n : ℕ) → get_or result (i + n) blank ≡ get_or (new ++ drop (i + k) l) n blank
  past n = ap (λ m. get_or result (m + n) blank) (sym front) ∙ get_or-append-add (take i l) (new ++ drop (i + k) l) n blank

  pub mid : (j : ℕ) → j < length new → get_or result (i + j) blank ≡ get_or new j blank
  mid j b = past j ∙ get_or-append new (drop (i + k) l) blank j b

  pub high : (j : ℕ) → get_or result (i + (length new + j)) blank ≡ get_or l (i + k + j) blank
  high j = past (length new + j) ∙ get_or-append-add new (drop (i + k) l) j blank ∙ get_or-drop (i + k) l j blank
