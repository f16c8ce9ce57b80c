-- Written numbers stay written: moved, or one put in place of another. Assumes nothing.
use Rattle.std.specs.Prelude.{Option, Some, None}
use Prim.Native.Nat.{ℕ, zero, suc, ◌+◌}
use mathlib.Core.Bool.{true}
use mathlib.Core.List.{List, [], ◌∷◌, ◌++◌}
use mathlib.Core.Path.{◌≡◌, refl}
use lib.ListN.{take, drop, set}
use Rattle.capabilities.proofs.Choice.{and_left, and_right}
use Rattle.table.specs.Rows.{splice}
use Rattle.table.proofs.Truth.{both}
use Rattle.table.specs.Numbers.{written, all_written}
use Rattle.table.specs.Lent.{put_at, spread_at, gather_at}

pub zero_written : written 0 ≡ true
unfolding written
zero_written = refl

pub all_cons : (n : ℕ) (l : List ℕ) → written n ≡ true → all_written l ≡ true → all_written (n ∷ l) ≡ true
unfolding all_written
all_cons n l p q = both (written n) (all_written l) p q

pub all_nil : all_written [] ≡ true
unfolding all_written
all_nil = refl

pub all_append : (l m : List ℕ) → all_written l ≡ true → all_written m ≡ true → all_written (l ++ m) ≡ true
unfolding all_written
all_append [] m p q = q
all_append (n ∷ l) m p q = both (written n) (all_written (l ++ m)) (and_left (written n) (all_written l) p) (all_append l m (and_right (written n) (all_written l) p) q)

pub all_take : (k : ℕ) (l : List ℕ) → all_written l ≡ true → all_written (take k l) ≡ true
unfolding all_written
all_take zero l p = refl
all_take (suc k) [] p = refl
all_take (suc k) (n ∷ l) p = both (written n) (all_written (take k l)) (and_left (written n) (all_written l) p) (all_take k l (and_right (written n) (all_written l) p))

pub all_drop : (k : ℕ) (l : List ℕ) → all_written l ≡ true → all_written (drop k l) ≡ true
unfolding all_written
all_drop zero l p = p
all_drop (suc k) [] p = refl
all_drop (suc k) (n ∷ l) p = all_drop k l (and_right (written n) (all_written l) p)

pub all_set : (l : List ℕ) (i x : ℕ) → written x ≡ true → all_written l ≡ true → all_written (set l i x) ≡ true
unfolding all_written
all_set [] i x w p = refl
all_set (n ∷ l) zero x w p = both (written x) (all_written l) w (and_right (written n) (all_written l) p)
all_set (n ∷ l) (suc i) x w p = both (written n) (all_written (set l i x)) (and_left (written n) (all_written l) p) (all_set l i x w (and_right (written n) (all_written l) p))

pub all_put : (l : List ℕ) (f : Option ℕ) (x : ℕ) → written x ≡ true → all_written l ≡ true → all_written (put_at l f x) ≡ true
unfolding put_at
all_put l (Some i) x w p = all_set l i x w p
all_put l None x w p = p

all_splice : (i k : ℕ) (new l : List ℕ) → all_written new ≡ true → all_written l ≡ true → all_written (splice i k new l) ≡ true
unfolding splice
all_splice i k new l p q = all_append (take i l) (new ++ drop (i + k) l) (all_take i l q) (all_append new (drop (i + k) l) p (all_drop (i + k) l q))

pub all_spread : (l : List ℕ) (n i x y : ℕ) → written x ≡ true → written y ≡ true → all_written l ≡ true → all_written (spread_at l n i x y) ≡ true
unfolding spread_at
all_spread l n i x y p q w =
    all_append (splice i 1 (x ∷ y ∷ []) (take n l)) (drop (n + 1) l)
    (all_splice i 1 (x ∷ y ∷ []) (take n l) (all_cons x (y ∷ []) p (all_cons y [] q all_nil)) (all_take n l w)) (all_drop (n + 1) l w)

pub all_gather : (l : List ℕ) (n i x : ℕ) → written x ≡ true → all_written l ≡ true → all_written (gather_at l n i x 0) ≡ true
unfolding gather_at
all_gather l n i x p w =
    all_append (splice i 2 (x ∷ []) (take n l)) (0 ∷ drop n l)
    (all_splice i 2 (x ∷ []) (take n l) (all_cons x [] p all_nil) (all_take n l w)) (all_cons 0 (drop n l) zero_written (all_drop n l w))
