-- Takers that fit: of the rows of a list, of parts of it, and of the rows that the operations make. Assumes nothing.
use Prim.Native.Nat.{ℕ, zero, suc, ◌<◌, ◌≤◌}
use native.Mathlib.Omega.{arith}
use mathlib.Core.Bool.{Bool, true, false, false≢true}
use mathlib.Core.List.{List, [], ◌∷◌, ◌++◌}
use mathlib.Core.Logic.{◌⊎◌, inl, inr, ⊎_elim}
use mathlib.Core.Path.{◌≡◌, refl, sym, ◌∙◌}
use borrow.Author.Tests.{eqb-true, eqb-false, eq-eqb, leb-true, le-leb}
use lib.Dec.{eqb, leb}
use lib.ListN.{length, get_or, take, drop}
use Rattle.capabilities.proofs.Choice.{and_left, and_right, pick_yes, pick_no}
use Rattle.table.specs.declared.Reservation.{Reservation}
use Rattle.table.specs.declared.ReservationState.{ReservationState}
use Rattle.table.specs.declared.ReservationState.TheVariants.{Open, Taken, Revoking}
use Rattle.table.specs.Rows.{is_open, no_taker, several_takers, blank}
use Rattle.table.specs.Tiling.{taker_sound, takers_sound}
use Rattle.table.specs.Operations.{alike, joined_taker, joined}
use Rattle.table.proofs.Truth.{both}

-- Of one row: an Open one's taker is 9, and another's is at most 8.
pub open_taker : (r : Reservation) → is_open r.state ≡ true → taker_sound r ≡ true → r.taker ≡ no_taker
open_taker r o e = eqb-true r.taker no_taker (sym (pick_yes (is_open r.state) (eqb r.taker no_taker) (leb r.taker several_takers) o) ∙ e)

pub lent_taker : (r : Reservation) → is_open r.state ≡ false → taker_sound r ≡ true → r.taker ≤ 8
lent_taker r o e = leb-true r.taker several_takers (sym (pick_no (is_open r.state) (eqb r.taker no_taker) (leb r.taker several_takers) o) ∙ e)

pub taker_open : (r : Reservation) → is_open r.state ≡ true → r.taker ≡ no_taker → taker_sound r ≡ true
taker_open r o e = pick_yes (is_open r.state) (eqb r.taker no_taker) (leb r.taker several_takers) o ∙ eq-eqb r.taker no_taker e

pub taker_lent : (r : Reservation) → is_open r.state ≡ false → r.taker ≤ 8 → taker_sound r ≡ true
taker_lent r o h = pick_no (is_open r.state) (eqb r.taker no_taker) (leb r.taker several_takers) o ∙ le-leb r.taker several_takers h

-- No taker of a row in use is above 9.
pub taker_small : (r : Reservation) → taker_sound r ≡ true → r.taker ≤ 9
taker_small r e = go (is_open r.state) refl
  where
    go : (b : Bool) → is_open r.state ≡ b → r.taker ≤ 9
    go true o = omega (arith, open_taker r o e)
    go false o = omega (arith, lent_taker r o e)

-- Two takers joined: both the same, or 8.
pub joined_either : (a b : ℕ) → ((a ≡ b) × (joined_taker a b ≡ a)) ⊎ ((a ≡ b → ⊥) × (joined_taker a b ≡ several_takers))
joined_either a b = go (eqb a b) refl
  where
    go : (t : Bool) → eqb a b ≡ t → ((a ≡ b) × (joined_taker a b ≡ a)) ⊎ ((a ≡ b → ⊥) × (joined_taker a b ≡ several_takers))
    go true e = inl (eqb-true a b e, pick_yes (eqb a b) a several_takers e)
    go false e = inr (eqb-false a b e, pick_no (eqb a b) a several_takers e)

pub joined_same : (a b : ℕ) → a ≡ b → joined_taker a b ≡ a
joined_same a b e = pick_yes (eqb a b) a several_takers (eq-eqb a b e)

-- No bound that holds of the lower taker and of 8 is passed.
pub joined_most : (a b n : ℕ) → a ≤ n → 8 ≤ n → joined_taker a b ≤ n
joined_most a b n h k = ⊎_elim (λ x. omega (arith, x.1)) (λ x. omega (arith, x.1)) (joined_either a b)

-- Of two alike, the upper is Open if the lower is.
pub both_open : (a b : ReservationState) → alike a b ≡ true → is_open a ≡ true → is_open b ≡ true
both_open Open Open e o = refl
both_open Open Taken e o = e
both_open Open Revoking e o = e
both_open Taken b e o = absurd (false≢true o)
both_open Revoking b e o = absurd (false≢true o)

pub joined_sound : (r s : Reservation) → alike r.state s.state ≡ true → taker_sound r ≡ true → taker_sound s ≡ true → taker_sound (joined r s) ≡ true
joined_sound r s a e f = go (is_open r.state) refl
  where
    go : (b : Bool) → is_open r.state ≡ b → taker_sound (joined r s) ≡ true
    go true o =
        let p = open_taker r o e in
        let q = open_taker s (both_open r.state s.state a o) f in
        taker_open (joined r s) o (joined_same r.taker s.taker (p ∙ sym q) ∙ p)
    go false o = taker_lent (joined r s) o (joined_most r.taker s.taker 8 (lent_taker r o e) (omega arith))

-- Of a list: each row, and parts put together.
pub takers_row : (l : List Reservation) (i : ℕ) → takers_sound l ≡ true → i < length l → taker_sound (get_or l i blank) ≡ true
unfolding takers_sound
takers_row [] i e h = absurd (omega arith)
takers_row (r ∷ l) zero e h = and_left (taker_sound r) (takers_sound l) e
takers_row (r ∷ l) (suc i) e h = takers_row l i (and_right (taker_sound r) (takers_sound l) e) (omega arith)

takers_append : (l m : List Reservation) → takers_sound l ≡ true → takers_sound m ≡ true → takers_sound (l ++ m) ≡ true
unfolding takers_sound
takers_append [] m e f = f
takers_append (r ∷ l) m e f =
    both (taker_sound r) (takers_sound (l ++ m)) (and_left (taker_sound r) (takers_sound l) e) (takers_append l m (and_right (taker_sound r) (takers_sound l) e) f)

takers_take : (n : ℕ) (l : List Reservation) → takers_sound l ≡ true → takers_sound (take n l) ≡ true
unfolding takers_sound
takers_take zero l e = refl
takers_take (suc n) [] e = refl
takers_take (suc n) (r ∷ l) e =
    both (taker_sound r) (takers_sound (take n l)) (and_left (taker_sound r) (takers_sound l) e) (takers_take n l (and_right (taker_sound r) (takers_sound l) e))

takers_drop : (n : ℕ) (l : List Reservation) → takers_sound l ≡ true → takers_sound (drop n l) ≡ true
unfolding takers_sound
takers_drop zero l e = e
takers_drop (suc n) [] e = refl
takers_drop (suc n) (r ∷ l) e = takers_drop n l (and_right (taker_sound r) (takers_sound l) e)

pub takers_none : takers_sound [] ≡ true
unfolding takers_sound
takers_none = refl

pub takers_first : (r : Reservation) (l : List Reservation) → taker_sound r ≡ true → takers_sound l ≡ true → takers_sound (r ∷ l) ≡ true
unfolding takers_sound
takers_first r l e f = both (taker_sound r) (takers_sound l) e f

-- Rows in place of others.
pub takers_spliced : (l new : List Reservation) (i j : ℕ) → takers_sound l ≡ true → takers_sound new ≡ true → takers_sound (take i l ++ (new ++ drop j l)) ≡ true
takers_spliced l new i j e f = takers_append (take i l) (new ++ drop j l) (takers_take i l e) (takers_append new (drop j l) f (takers_drop j l e))
