-- Rows that move up or down by one, as the movers' loops go. Assumes nothing.
use Prim.Native.Nat.{ℕ, zero, suc, ◌<◌, ◌≤◌, min}
use native.Mathlib.Omega.{arith}
use mathlib.Core.Bool.{Bool, true, false}
use mathlib.Core.List.{List, [], ◌∷◌, ◌++◌}
use mathlib.Core.Path.{◌≡◌, refl, sym, ap, ◌∙◌}
use borrow.Author.Tests.{eqb-true, eqb-false}
use lib.Dec.{eqb}
use lib.ListN.{length, get_or, take, drop, set, length-take}
use lib.Seq.{drop-cons, set_at, set-set, get_or-take, length-take-le}
use Rattle.table.specs.declared.Reservation.{Reservation}
use Rattle.table.specs.Table.{Table}
use Rattle.table.specs.Rows.{live}
use Rattle.table.specs.Lent.{raised, lowered}

-- The used rows are the first ones of all.
pub live_length : (t : Table) → length (live t) ≡ min t.count (length t.rows)
unfolding live
live_length t = length-take _ _

pub live_at : (t : Table) (i : ℕ) (d : Reservation) → i < length (live t) → get_or (live t) i d ≡ get_or t.rows i d
unfolding live
live_at t i d h = get_or-take t.count t.rows i d (omega (arith, live_length t))

module _ {A : Type 0} where
  pub raise_start : (l : List A) (n : ℕ) → n < length l → l ≡ raised l n n
  unfolding raised
  raise_start [] n h = absurd (omega arith)
  raise_start (x ∷ l) zero h = refl
  raise_start (x ∷ l) (suc n) h = ap (λ (r : List A). x ∷ r) (raise_start l n (omega arith))

  raise_next : (l : List A) (j n : ℕ) (d : A) → j < n → n < length l → set (raised l (suc j) n) (suc j) (get_or (raised l (suc j) n) j d) ≡ raised l j n
  unfolding raised
  raise_next [] j n d a b = absurd (omega arith)
  raise_next (x ∷ l) j zero d a b = absurd (omega arith)
  raise_next (x ∷ []) zero (suc n) d a b = absurd (omega arith)
  raise_next (x ∷ (y ∷ l)) zero (suc n) d a b = refl
  raise_next (x ∷ l) (suc j) (suc n) d a b = ap (λ (r : List A). x ∷ r) (raise_next l j n d (omega arith) (omega arith))

  -- One turn of the loop that moves up.
  pub raise_more : (l m o : List A) (k w c j n : ℕ) (d : A) → m ≡ raised l k n → o ≡ set m w (get_or m c d) → c ≡ j → w ≡ suc j → k ≡ suc j → j < n → n < length l → o ≡ raised l j n
  raise_more l m o k w c j n d before turn e f g a b =
      turn ∙ ap (λ r. set r w (get_or r c d)) before ∙ rw (e, f, g) (raise_next l j n d a b)

  raise_end : (l : List A) (i n : ℕ) (x y : A) → i < n → n < length l → set (set (raised l (suc i) n) (suc i) y) i x ≡ (take i (take n l) ++ x ∷ y ∷ drop (suc i) (take n l)) ++ drop (suc n) l
  unfolding raised
  raise_end [] i n x y a b = absurd (omega arith)
  raise_end (z ∷ l) i zero x y a b = absurd (omega arith)
  raise_end (z ∷ []) zero (suc n) x y a b = absurd (omega arith)
  raise_end (z ∷ (w ∷ l)) zero (suc n) x y a b = refl
  raise_end (z ∷ l) (suc i) (suc n) x y a b = ap (λ (r : List A). z ∷ r) (raise_end l i n x y (omega arith) (omega arith))

  -- Two entries put over what moved up; whether the lower of them moved too makes no difference.
  pub raise_put : (l : List A) (a i n : ℕ) (x y : A) → i ≤ a → a ≤ suc i → i < n → n < length l → set (set (raised l a n) (suc i) y) i x ≡ (take i (take n l) ++ x ∷ y ∷ drop (suc i) (take n l)) ++ drop (suc n) l
  raise_put l a i n x y p q h k = go (eqb a i) refl
    where
      go : (b : Bool) → eqb a i ≡ b → set (set (raised l a n) (suc i) y) i x ≡ (take i (take n l) ++ x ∷ y ∷ drop (suc i) (take n l)) ++ drop (suc n) l
      go true e =
          let r = raised l (suc i) n in
          ap (λ b. set (set (raised l b n) (suc i) y) i x) (eqb-true a i e)
          ∙ ap (λ m. set (set m (suc i) y) i x) (sym (raise_next l i n x h k))
          ∙ ap (λ m. set m i x) (set-set r (suc i) (get_or r i x) y) ∙ raise_end l i n x y h k
      go false e =
          let above : a ≡ suc i = omega (arith, eqb-false a i e) in
          ap (λ b. set (set (raised l b n) (suc i) y) i x) above ∙ raise_end l i n x y h k

  pub lower_start : (l : List A) (a : ℕ) → a < length l → l ≡ lowered l a a
  unfolding lowered
  lower_start [] a h = absurd (omega arith)
  lower_start (x ∷ l) zero h = refl
  lower_start (x ∷ l) (suc a) h = ap (λ (r : List A). x ∷ r) (lower_start l a (omega arith))

  lower_next : (l : List A) (a j : ℕ) (d : A) → a ≤ j → suc j < length l → set (lowered l a j) j (get_or (lowered l a j) (suc j) d) ≡ lowered l a (suc j)
  unfolding lowered
  lower_next [] a j d h b = absurd (omega arith)
  lower_next (x ∷ []) zero j d h b = absurd (omega arith)
  lower_next (x ∷ (y ∷ l)) zero zero d h b = refl
  lower_next (x ∷ (y ∷ l)) zero (suc j) d h b = ap (λ (r : List A). y ∷ r) (lower_next (y ∷ l) zero j d (omega arith) (omega arith))
  lower_next (x ∷ l) (suc a) zero d h b = absurd (omega arith)
  lower_next (x ∷ l) (suc a) (suc j) d h b = ap (λ (r : List A). x ∷ r) (lower_next l a j d (omega arith) (omega arith))

  -- One turn of the loop that moves down.
  pub lower_more : (l m o : List A) (a j c k : ℕ) (d : A) → m ≡ lowered l a j → o ≡ set m j (get_or m c d) → c ≡ suc j → k ≡ suc j → a ≤ j → k < length l → o ≡ lowered l a k
  lower_more l m o a j c k d before turn e f h b =
      turn ∙ ap (λ r. set r j (get_or r c d)) before ∙ rw (e, f) (lower_next l a j d h (omega arith))

  lower_last : (l : List A) (j : ℕ) (w b : A) → j ≤ length l → set (take j l ++ drop j (w ∷ l)) j b ≡ take j l ++ b ∷ drop j l
  lower_last l j w b h =
      ap (λ r. set (take j l ++ r) j b) (drop-cons (w ∷ l) j w (omega arith))
      ∙ set_at (take j l) (get_or (w ∷ l) j w) (drop j l) b j (length-take-le j l h)

  -- One entry put over what moved down, and one in the last place; whether the first that moved stands below makes no difference.
  pub lower_put : (l : List A) (a i j : ℕ) (x b : A) → i ≤ a → a ≤ suc i → i < j → j < length l → set (set (lowered l a j) j b) i x ≡ (take i (take (suc j) l) ++ x ∷ drop (suc (suc i)) (take (suc j) l)) ++ b ∷ drop (suc j) l
  unfolding lowered
  lower_put [] a i j x b p q h k = absurd (omega arith)
  lower_put (z ∷ l) a i zero x b p q h k = absurd (omega arith)
  lower_put (z ∷ []) a zero (suc j) x b p q h k = absurd (omega arith)
  lower_put (z ∷ (w ∷ l)) zero zero (suc j) x b p q h k = ap (λ (r : List A). x ∷ r) (lower_last l j w b (omega arith))
  lower_put (z ∷ (w ∷ l)) (suc zero) zero (suc j) x b p q h k = ap (λ (r : List A). x ∷ r) (lower_last l j w b (omega arith))
  lower_put (z ∷ (w ∷ l)) (suc (suc a)) zero (suc j) x b p q h k = absurd (omega arith)
  lower_put (z ∷ l) zero (suc i) (suc j) x b p q h k = absurd (omega arith)
  lower_put (z ∷ l) (suc a) (suc i) (suc j) x b p q h k = ap (λ (r : List A). z ∷ r) (lower_put l a i j x b (omega arith) (omega arith) (omega arith) (omega arith))
