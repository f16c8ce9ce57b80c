-- What the movers' loops leave is what the definitions say, and it reads as the table's own. Assumes nothing.
use Prim.Native.Nat.{ℕ, suc, ◌+◌, ◌-◌, ◌<◌, ◌≤◌}
use native.Mathlib.Numerals.{add-one, add-two}
use native.Mathlib.Omega.{arith}
use mathlib.Core.List.{List, [], ◌∷◌, ◌++◌, map}
use mathlib.Core.Path.{◌≡◌, ap, ◌∙◌}
use lib.ListN.{length, take, drop, set, length-take}
use Rattle.std.proofs.lemmas.List.{take_min}
use Rattle.table.specs.declared.Reservation.{Reservation}
use Rattle.table.specs.Rows.{live, splice, spread, gather, table, blank}
use Rattle.table.proofs.Moving.{raise_put, lower_put}
use Rattle.table.specs.Numbers.{row_from, table_of}
use Rattle.table.specs.Lent.{raised, lowered, spread_at, gather_at}
use Rattle.table.proofs.Numbers.{zero_blank}
use Rattle.table.proofs.Mapping.{map_append, map_take, map_drop}

module _ {A : Type 0} where
  -- What a mover leaves, write by write: rows that move, then the two rows that are put. Whether the row above the named one moves, or
  -- the named one already, makes no difference.
  pub spread_end :
      (l m o r : List A) (a k i n : ℕ) (x y : A) → m ≡ raised l a n → o ≡ set m k y → r ≡ set o i x → i ≤ a → a ≤ i + 1 → k ≡ i + 1 → i < n → n < length l
      → r ≡ spread_at l n i x y
  unfolding spread_at splice
  spread_end l m o r a k i n x y first second third p q e h s =
      third ∙ ap (λ v. set v i x) (second ∙ ap (λ v. set v k y) first) ∙ rw (e, add-one i, add-one n) (raise_put l a i n x y p (omega arith) h s)

  pub gather_end :
      (l m o r : List A) (a j k i n : ℕ) (x b : A) → m ≡ lowered l a j → o ≡ set m k b → r ≡ set o i x → i ≤ a → a ≤ i + 1 → k ≡ j → j + 1 ≡ n → i < j → n ≤ length l
      → r ≡ gather_at l n i x b
  unfolding gather_at splice
  gather_end l m o r a j k i n x b first second third p q last e h s =
      let c : suc j ≡ n = omega arith in
      third ∙ ap (λ v. set v i x) (second ∙ ap (λ v. set v k b) first)
      ∙ rw (last, add-two i)
      (lower_put l a i j x b p (omega arith) h (omega arith)
      ∙ ap (λ c. (take i (take c l) ++ x ∷ drop (suc (suc i)) (take c l)) ++ b ∷ drop c l) c)

module _ {A B : Type 0} (f : A → B) where
  pub map_splice : (i k : ℕ) (new l : List A) → map f (splice i k new l) ≡ splice i k (map f new) (map f l)
  unfolding splice
  map_splice i k new l =
      map_append f (take i l) (new ++ drop (i + k) l)
      ∙ ap (λ (r : List B). r ++ map f (new ++ drop (i + k) l)) (map_take f i l)
      ∙ ap (λ (r : List B). take i (map f l) ++ r) (map_append f new (drop (i + k) l) ∙ ap (λ (r : List B). map f new ++ r) (map_drop f (i + k) l))

  pub map_spread : (l : List A) (n i : ℕ) (x y : A) → map f (spread_at l n i x y) ≡ spread_at (map f l) n i (f x) (f y)
  unfolding spread_at
  map_spread l n i x y =
      map_append f (splice i 1 (x ∷ y ∷ []) (take n l)) (drop (n + 1) l)
      ∙ ap (λ (r : List B). r ++ map f (drop (n + 1) l)) (map_splice i 1 (x ∷ y ∷ []) (take n l) ∙ ap (splice i 1 (f x ∷ f y ∷ [])) (map_take f n l))
      ∙ ap (λ (r : List B). splice i 1 (f x ∷ f y ∷ []) (take n (map f l)) ++ r) (map_drop f (n + 1) l)

  pub map_gather : (l : List A) (n i : ℕ) (x b : A) → map f (gather_at l n i x b) ≡ gather_at (map f l) n i (f x) (f b)
  unfolding gather_at
  map_gather l n i x b =
      map_append f (splice i 2 (x ∷ []) (take n l)) (b ∷ drop n l)
      ∙ ap (λ (r : List B). r ++ map f (b ∷ drop n l)) (map_splice i 2 (x ∷ []) (take n l) ∙ ap (splice i 2 (f x ∷ [])) (map_take f n l))
      ∙ ap (λ (r : List B). splice i 2 (f x ∷ []) (take n (map f l)) ++ (f b ∷ r)) (map_drop f n l)

-- The table's own definitions, of a table read from numbers.
pub spread_reads : (l : List ℕ) (n i a b : ℕ) (lower upper : Reservation) → row_from a ≡ lower → row_from b ≡ upper → table_of (spread_at l n i a b) (n + 1) ≡ spread (table_of l n) i lower upper
unfolding spread spread_at live
spread_reads l n i a b lower upper p q =
    ap (λ m. table m (n + 1))
    (map_spread row_from l n i a b
    ∙ ap (λ r. spread_at (map row_from l) n i r (row_from b)) p
    ∙ ap (spread_at (map row_from l) n i lower) q)

own_live : (l : List ℕ) (count : ℕ) → take (length (live (table_of l count))) (map row_from l) ≡ live (table_of l count)
unfolding live
own_live l count = ap (λ n. take n (map row_from l)) (length-take count (map row_from l)) ∙ take_min count (map row_from l)

pub gather_reads : (l : List ℕ) (count n i a : ℕ) (joined : Reservation) → row_from a ≡ joined → n ≡ length (live (table_of l count)) → table_of (gather_at l n i a 0) (n - 1) ≡ gather (table_of l count) i joined
unfolding gather gather_at
gather_reads l count n i a joined p e =
    let rs = map row_from l in
    let t = table_of l count in
    let k = length (live t) in
    ap (λ m. table_of (gather_at l m i a 0) (m - 1)) e
    ∙ ap (λ m. table m (k - 1))
    (map_gather row_from l k i a 0
    ∙ ap (λ r. gather_at rs k i r (row_from 0)) p
    ∙ ap (gather_at rs k i joined) zero_blank
    ∙ ap (λ m. splice i 2 (joined ∷ []) m ++ (blank ∷ drop k rs)) (own_live l count))
