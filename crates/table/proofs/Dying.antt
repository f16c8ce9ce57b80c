-- The Revoking reservations of a table, as a list; what the search for one finds is its first. Assumes nothing.
use Rattle.std.specs.Prelude.{Option, Some, None}
use Prim.Native.Nat.{ℕ, suc, ◌+◌, ◌<◌}
use native.Mathlib.Nat.{add-zero, zero-add}
use native.Mathlib.Omega.{arith}
use mathlib.Core.Bool.{Bool, true, false, false≢true}
use mathlib.Core.List.{List, [], ◌∷◌, ◌++◌}
use mathlib.Core.Path.{◌≡◌, refl, sym, ap, ◌∙◌}
use lib.ListN.{length, get_or}
use Rattle.capabilities.specs.Lists.{pick}
use Rattle.capabilities.proofs.Choice.{pick_yes, pick_no}
use Rattle.table.specs.declared.Reservation.{Reservation}
use Rattle.table.specs.Table.{Table}
use Rattle.table.specs.Rows.{is_revoking, blank, live}
use Rattle.table.specs.Find.{seek, missing, revoking_of, row_of}
use Rattle.table.specs.Tiling.{revokings}
use Rattle.table.proofs.Moving.{live_at}

unfoldable pub dyings : List Reservation → List Reservation
dyings [] = []
dyings (r ∷ l) = pick (is_revoking r.state) (r ∷ dyings l) (dyings l)

abbrev pub none : List Reservation → Bool
none [] = true
none (r ∷ l) = false

pub none_is : (l : List Reservation) → none l ≡ true → l ≡ []
none_is [] e = refl
none_is (r ∷ l) e = absurd (false≢true e)

abbrev pub first_of : List Reservation → Reservation
first_of [] = blank
first_of (r ∷ l) = r

abbrev P : Reservation → Bool
P r = is_revoking r.state

abbrev row_by : (ℕ → Reservation) → Option ℕ → Reservation
row_by rows (Some i) = rows i
row_by rows None = blank

seek_first : (rows : ℕ → Reservation) (k : ℕ) (l : List Reservation) → ((j : ℕ) → j < length l → rows (k + j) ≡ get_or l j blank) → row_by rows (seek P k l) ≡ first_of (dyings l)
unfolding seek dyings
seek_first rows k [] f = refl
seek_first rows k (r ∷ l) f = go (P r) refl (seek_first rows (suc k) l)
  where
    go : (b : Bool) → P r ≡ b → (((j : ℕ) → j < length l → rows (suc k + j) ≡ get_or l j blank) → row_by rows (seek P (suc k) l) ≡ first_of (dyings l)) → row_by rows (pick (P r) (Some k) (seek P (suc k) l)) ≡ first_of (pick (P r) (r ∷ dyings l) (dyings l))
    go true e g = rw e (ap rows (sym (add-zero k)) ∙ f 0 (omega arith))
    go false e g = rw e (g (λ j h. ap rows (let n : suc k + j ≡ k + suc j = omega arith in n) ∙ f (suc j) (omega arith)))

seek_none : (k : ℕ) (l : List Reservation) → missing (seek P k l) ≡ none (dyings l)
unfolding seek dyings
seek_none k [] = refl
seek_none k (r ∷ l) = go (P r) refl (seek_none (suc k) l)
  where
    go : (b : Bool) → P r ≡ b → missing (seek P (suc k) l) ≡ none (dyings l) → missing (pick (P r) (Some k) (seek P (suc k) l)) ≡ none (pick (P r) (r ∷ dyings l) (dyings l))
    go true e g = rw e refl
    go false e g = rw e g

row_by_lem : (t : Table) (f : Option ℕ) → row_of t f ≡ row_by (λ i. get_or t.rows i blank) f
unfolding row_of
row_by_lem t (Some i) = refl
row_by_lem t None = refl

-- The Revoking row of a table is the first of its Revoking ones; it has none if there is none.
pub revoking_row_lem : (t : Table) → row_of t (revoking_of t) ≡ first_of (dyings (live t))
unfolding revoking_of
revoking_row_lem t =
    row_by_lem t (seek P 0 (live t))
    ∙ seek_first (λ i. get_or t.rows i blank) 0 (live t) (λ j h. ap (λ k. get_or t.rows k blank) (zero-add j) ∙ sym (live_at t j blank h))

pub revoking_none : (t : Table) → missing (revoking_of t) ≡ none (dyings (live t))
unfolding revoking_of
revoking_none t = seek_none 0 (live t)

-- Their number, those of two parts, and those of a part without any.
pub dyings_length : (l : List Reservation) → revokings l ≡ length (dyings l)
unfolding revokings dyings
dyings_length [] = refl
dyings_length (r ∷ l) = go (P r) refl (dyings_length l)
  where
    go : (b : Bool) → P r ≡ b → revokings l ≡ length (dyings l) → pick (P r) 1 0 + revokings l ≡ length (pick (P r) (r ∷ dyings l) (dyings l))
    go true e g = rw e (omega arith)
    go false e g = rw e (omega arith)

pub dyings_append : (l m : List Reservation) → dyings (l ++ m) ≡ dyings l ++ dyings m
unfolding dyings
dyings_append [] m = refl
dyings_append (r ∷ l) m = go (P r) refl (dyings_append l m)
  where
    go : (b : Bool) → P r ≡ b → dyings (l ++ m) ≡ dyings l ++ dyings m → pick (P r) (r ∷ dyings (l ++ m)) (dyings (l ++ m)) ≡ pick (P r) (r ∷ dyings l) (dyings l) ++ dyings m
    go true e g = rw e (ap (λ x. r ∷ x) g)
    go false e g = rw e g

pub dyings_not : (r : Reservation) (l : List Reservation) → is_revoking r.state ≡ false → dyings (r ∷ l) ≡ dyings l
unfolding dyings
dyings_not r l e = pick_no (P r) (r ∷ dyings l) (dyings l) e

pub dyings_yes : (r : Reservation) (l : List Reservation) → is_revoking r.state ≡ true → dyings (r ∷ l) ≡ r ∷ dyings l
unfolding dyings
dyings_yes r l e = pick_yes (P r) (r ∷ dyings l) (dyings l) e

pub no_dyings : (l : List Reservation) → length (dyings l) ≡ 0 → dyings l ≡ []
no_dyings l e = go (dyings l) e
  where
    go : (m : List Reservation) → length m ≡ 0 → m ≡ []
    go [] z = refl
    go (r ∷ m) z = absurd (omega arith)
