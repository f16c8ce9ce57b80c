-- A search as its loop goes, and what it found. Assumes nothing.
use Rattle.std.specs.Prelude.{Some, None}
use Prim.Native.Nat.{ℕ, suc, ◌+◌, ◌<◌, ◌≤◌}
use native.Mathlib.Nat.{add-zero}
use native.Mathlib.Numerals.{add-one}
use native.Mathlib.Omega.{arith}
use mathlib.Core.Bool.{Bool, true, false, true≢false}
use lib.Dec.{ltb}
use mathlib.Core.List.{List, [], ◌∷◌, ◌++◌}
use mathlib.Core.Path.{◌≡◌, refl, sym, ap, subst, ◌∙◌}
use lib.ListN.{length, get_or, drop, drop_of_length-le}
use lib.Seq.{drop-cons}
use borrow.Author.Tests.{ltb-true, lt-ltb}
use Rattle.capabilities.specs.Lists.{pick}
use Rattle.capabilities.proofs.Choice.{pick_yes, pick_no}
use Rattle.table.specs.declared.Reservation.{Reservation}
use Rattle.table.specs.Table.{Table}
use Rattle.table.specs.Rows.{live}
use Rattle.table.specs.Find.{seek, missing, next_of}

pub at_same : {i j : ℕ} → Some i ≡ Some j → i ≡ j
at_same e = cc

seek_at : (P : Reservation → Bool) (k : ℕ) (l : List Reservation) (i : ℕ) (d : Reservation) → seek P k l ≡ Some i → (j : ℕ) × (i ≡ k + j) × (j < length l) × (P (get_or l j d) ≡ true)
unfolding seek
seek_at P k [] i d e = let z : ◌≡◌ {A = ℕ} 0 1 = cc in absurd (omega arith)
seek_at P k (r ∷ l) i d e = go (P r) refl (seek_at P (suc k) l i d)
  where
    go : (b : Bool) → P r ≡ b → (seek P (suc k) l ≡ Some i → (j : ℕ) × (i ≡ suc k + j) × (j < length l) × (P (get_or l j d) ≡ true)) → (j : ℕ) × (i ≡ k + j) × (j < length (r ∷ l)) × (P (get_or (r ∷ l) j d) ≡ true)
    go true p f = (0, (let z : k ≡ i = at_same (sym (pick_yes (P r) (Some k) (seek P (suc k) l) p) ∙ e) in omega arith), omega arith, p)
    go false p f =
        let (j, s, h, q) = f (sym (pick_no (P r) (Some k) (seek P (suc k) l) p) ∙ e) in
        (suc j, omega arith, omega arith, q)

module _ (P : Reservation → Bool) (l : List Reservation) where
  step : (i : ℕ) (d : Reservation) → i < length l → seek P i (drop i l) ≡ pick (P (get_or l i d)) (Some i) (seek P (suc i) (drop (suc i) l))
  unfolding seek
  step i d h = rw (drop-cons l i d h)

  -- One turn of a search that did not find, one that did, and its end.
  pub seek_more : (i : ℕ) (d : Reservation) → i < length l → P (get_or l i d) ≡ false → seek P i (drop i l) ≡ seek P (i + 1) (drop (i + 1) l)
  seek_more i d h e = step i d h ∙ pick_no _ _ _ e ∙ sym (ap (λ (k : ℕ). seek P k (drop k l)) (add-one i))

  pub seek_here : (i : ℕ) (d : Reservation) → i < length l → P (get_or l i d) ≡ true → seek P i (drop i l) ≡ Some i
  seek_here i d h e = step i d h ∙ pick_yes _ _ _ e

  pub seek_end : (i : ℕ) → length l ≤ i → seek P i (drop i l) ≡ None
  unfolding seek
  seek_end i h = rw (drop_of_length-le l h)

  -- What a search from the first entry on found is an entry that passes the test.
  pub found_at : (i : ℕ) (d : Reservation) → seek P 0 l ≡ Some i → (i < length l) × (P (get_or l i d) ≡ true)
  found_at i d e =
      let (j, s, h, p) = seek_at P 0 l i d e in
      let k : j ≡ i = omega arith in
      (omega arith, subst (λ (n : ℕ). P (get_or l n d) ≡ true) k p)

-- Above what was found, and at it, rows may change: one that passes the test is found at the same place.
pub seek_same : (P : Reservation → Bool) (k : ℕ) (pre : List Reservation) (x y : Reservation) (xs ys : List Reservation) → P y ≡ true → seek P k (pre ++ x ∷ xs) ≡ Some (k + length pre) → seek P k (pre ++ y ∷ ys) ≡ Some (k + length pre)
unfolding seek
seek_same P k [] x y xs ys p e = pick_yes (P y) (Some k) (seek P (suc k) ys) p ∙ ap Some (sym (add-zero k))
seek_same P k (z ∷ pre) x y xs ys p e = go (P z) refl (seek_same P (suc k) pre x y xs ys p)
  where
    here : Some (k + suc (length pre)) ≡ Some (suc k + length pre)
    here = ap Some (omega arith)

    go : (b : Bool) → P z ≡ b → (seek P (suc k) (pre ++ x ∷ xs) ≡ Some (suc k + length pre) → seek P (suc k) (pre ++ y ∷ ys) ≡ Some (suc k + length pre)) → pick (P z) (Some k) (seek P (suc k) (pre ++ y ∷ ys)) ≡ Some (k + suc (length pre))
    go true t f = let z : k ≡ k + suc (length pre) = at_same (sym (pick_yes (P z) (Some k) (seek P (suc k) (pre ++ x ∷ xs)) t) ∙ e) in absurd (omega arith)
    go false t f = pick_no (P z) (Some k) (seek P (suc k) (pre ++ y ∷ ys)) t ∙ f (sym (pick_no (P z) (Some k) (seek P (suc k) (pre ++ x ∷ xs)) t) ∙ e ∙ here) ∙ sym here

-- There is a next one only where the rows in use go on.
pub next_below : (t : Table) (i : ℕ) → missing (next_of t (Some i)) ≡ false → i + 1 < length (live t)
unfolding next_of
next_below t i e = go (ltb (i + 1) (length (live t))) refl
  where
    go : (b : Bool) → ltb (i + 1) (length (live t)) ≡ b → i + 1 < length (live t)
    go true p = ltb-true (i + 1) (length (live t)) p
    go false p = absurd (true≢false (sym (ap missing (pick_no (ltb (i + 1) (length (live t))) (Some (i + 1)) None p)) ∙ e))

pub next_at : (t : Table) (i : ℕ) → i + 1 < length (live t) → next_of t (Some i) ≡ Some (i + 1)
unfolding next_of
next_at t i h = pick_yes (ltb (i + 1) (length (live t))) (Some (i + 1)) None (lt-ltb (i + 1) (length (live t)) h)
