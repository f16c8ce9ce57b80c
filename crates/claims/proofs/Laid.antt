-- Laws of counts laid one principal after the other, and of the window that one principal's are. Assumes nothing.
use Prim.Native.Nat.{ℕ, zero, suc, ◌+◌, ◌-◌, ◌*◌, ◌/◌, ◌<◌, ◌≤◌}
use native.Mathlib.Omega.{arith}
use native.Mathlib.Nat.{zero-add, suc-add}
use mathlib.Core.Bool.{Bool, true, false}
use mathlib.Core.List.{List, [], ◌∷◌, ◌++◌, map}
use mathlib.Core.Path.{◌≡◌, refl, sym, ap, ap₂, ◌∙◌}
use lib.ListN.{length, get_or, take, drop, set, replicate, length-append, length-take, length-drop, length-set, get_or-replicate, take-append-drop}
use lib.Seq.{length-take-le, take_at, drop-drop, drop-append-add, set-append_left, get_or-take, get_or-drop}
use lib.Dec.{eqb}
use borrow.Author.Tests.{eqb-true, eq-eqb, ne_eqb}
use Rattle.capabilities.specs.Lists.{pick, map_each}
use Rattle.capabilities.proofs.Choice.{pick_yes, pick_no}
use Rattle.capabilities.proofs.Lists.{empty, map_each_agree, map_each_map, map_each_append}
use Rattle.claims.specs.Claims.{above}
use Rattle.claims.specs.Numbers.{window, padded, laid}
use Rattle.claims.proofs.Counting.{above_length}

-- A list without numbers is laid as 256 zeros, one of 256 as it is.
pub padded_none : (l : List ℕ) → length l ≡ 0 → padded l ≡ replicate 256 0
padded_none l e = pick_yes (eqb (length l) 0) (replicate 256 0) l (eq-eqb (length l) 0 e)

pub padded_full : (l : List ℕ) → length l ≡ 256 → padded l ≡ l
padded_full l e = pick_no (eqb (length l) 0) (replicate 256 0) l (ne_eqb (length l) 0 (λ z. omega arith))

-- Padding changes no number that is read.
pub get_d_padded : (l : List ℕ) (i : ℕ) → i < 256 → get_or (padded l) i 0 ≡ get_or l i 0
get_d_padded l i h = go (eqb (length l) 0) refl
  where
    go : (b : Bool) → eqb (length l) 0 ≡ b → get_or (padded l) i 0 ≡ get_or l i 0
    go true e =
        let n = eqb-true (length l) 0 e in
        ap (λ m. get_or m i 0) (padded_none l n) ∙ get_or-replicate 256 i 0 0 h ∙ sym (ap (λ m. get_or m i 0) (empty l n))
    go false e = ap (λ m. get_or m i 0) (pick_no (eqb (length l) 0) (replicate 256 0) l e)

-- Each list is laid as 256 numbers.
abbrev pub Whole : List (List ℕ) → Type 0
Whole ls = (p : ℕ) → length (padded (get_or ls p [])) ≡ 256

pub length_laid : (ls : List (List ℕ)) → Whole ls → length (laid ls) ≡ 256 * length ls
unfolding laid
length_laid [] h = refl
length_laid (l ∷ rest) h = omega (arith, length-append (padded l) (laid rest), h 0, length_laid rest (λ p. h (suc p)))

window_next : (m rest : List ℕ) (p : ℕ) → length m ≡ 256 → window (m ++ rest) (suc p) ≡ window rest p
window_next m rest p e =
    let n : 256 * suc p ≡ length m + 256 * p = omega (arith, e) in
    ap (λ k. take 256 (drop k (m ++ rest))) n ∙ ap (take 256) (drop-append-add m rest (256 * p))

-- A window of what is laid is one list.
pub window_laid : (ls : List (List ℕ)) → Whole ls → (p : ℕ) → p < length ls → window (laid ls) p ≡ padded (get_or ls p [])
unfolding laid
window_laid [] h p k = let z : ⊥ = omega arith in absurd z
window_laid (l ∷ rest) h zero k = take_at (padded l) (laid rest) 256 (h 0)
window_laid (l ∷ rest) h (suc p) k = window_next (padded l) (laid rest) p (h 0) ∙ window_laid rest (λ q. h (suc q)) p (omega arith)

-- Lists are laid as some counts if each is laid as a window of them.
pub laid_windows :
    (ls : List (List ℕ)) (counts : List ℕ) → length counts ≡ 256 * length ls
    → ((p : ℕ) → p < length ls → padded (get_or ls p []) ≡ window counts p) → laid ls ≡ counts
unfolding laid
laid_windows [] counts e h = sym (empty counts e)
laid_windows (l ∷ rest) counts e h =
    ap₂ ◌++◌ (h 0 (omega arith)) (laid_windows rest (drop 256 counts) (omega (arith, e, length-drop 256 counts)) (λ p k. h (suc p) (omega arith) ∙ shifted p))
    ∙ take-append-drop 256 counts
  where
    shifted : (p : ℕ) → window counts (suc p) ≡ window (drop 256 counts) p
    shifted p = let n : 256 * suc p ≡ 256 + 256 * p = omega arith in ap (λ k. take 256 (drop k counts)) n ∙ sym (ap (take 256) (drop-drop (256 * p) 256 counts))

pub length_window : (counts : List ℕ) (p : ℕ) → 256 * p + 256 ≤ length counts → length (window counts p) ≡ 256
length_window counts p h = length-take-le 256 (drop (256 * p) counts) (omega (arith, h, length-drop (256 * p) counts))

pub window_most : (counts : List ℕ) (p : ℕ) → above (window counts p) ≤ 256
window_most counts p = omega (arith, above_length (window counts p), length-take 256 (drop (256 * p) counts))

-- The part of the counts that is lent for a principal.
pub window_part : (counts : List ℕ) (p : ℕ) → take (256 * p + 256 - 256 * p) (drop (256 * p) counts) ≡ window counts p
window_part counts p = let e : 256 * p + 256 - 256 * p ≡ 256 = omega arith in ap (λ (k : ℕ). take k (drop (256 * p) counts)) e

pub get_d_window : (counts : List ℕ) (p i : ℕ) → i < 256 → get_or (window counts p) i 0 ≡ get_or counts (256 * p + i) 0
get_d_window counts p i h = get_or-take 256 (drop (256 * p) counts) i 0 h ∙ get_or-drop (256 * p) counts i 0

-- One list replaced by one that is laid the same.
pub laid_same : (ls : List (List ℕ)) (p : ℕ) (l : List ℕ) → padded l ≡ padded (get_or ls p []) → laid (set ls p l) ≡ laid ls
unfolding laid
laid_same [] p l e = refl
laid_same (m ∷ rest) zero l e = ap (λ x. x ++ laid rest) e
laid_same (m ∷ rest) (suc p) l e = ap (λ x. padded m ++ x) (laid_same rest p l e)

set_append_add : (xs ys : List ℕ) (i n : ℕ) → set (xs ++ ys) (length xs + i) n ≡ xs ++ set ys i n
set_append_add [] ys i n = rw (zero-add i)
set_append_add (x ∷ xs) ys i n = rw (suc-add (length xs) i) (ap (λ r. x ∷ r) (set_append_add xs ys i n))

-- One number of one list replaced.
pub laid_set :
    (ls : List (List ℕ)) → Whole ls → (p i n : ℕ) → i < 256 → length (get_or ls p []) ≡ 256
    → laid (set ls p (set (get_or ls p []) i n)) ≡ set (laid ls) (256 * p + i) n
unfolding laid
laid_set [] h p i n k e = let z : ⊥ = omega arith in absurd z
laid_set (l ∷ rest) h zero i n k e =
    rw (zero-add i, padded_full l e, padded_full (set l i n) (length-set l i n ∙ e)) (sym (set-append_left l (laid rest) i n (omega (arith, k, e))))
laid_set (l ∷ rest) h (suc p) i n k e =
    let m : length (padded l) + (256 * p + i) ≡ 256 * suc p + i = omega (arith, h 0) in
    ap (λ x. padded l ++ x) (laid_set rest (λ q. h (suc q)) p i n k e)
    ∙ sym (set_append_add (padded l) (laid rest) (256 * p + i) n) ∙ ap (λ j. set (padded l ++ laid rest) j n) m

-- A choice by a test that does not look at the numbers.
zeros : (b : Bool) (m : List ℕ) → map (λ n. pick b 0 n) m ≡ pick b (replicate (length m) 0) m
zeros true [] = refl
zeros false [] = refl
zeros true (n ∷ m) = ap (λ r. 0 ∷ r) (zeros true m)
zeros false (n ∷ m) = ap (λ r. n ∷ r) (zeros false m)

padded_emptied : (b : Bool) (l : List ℕ) → padded (pick b [] l) ≡ pick b (replicate 256 0) (padded l)
padded_emptied true l = refl
padded_emptied false l = refl

-- The lists that a test picks emptied: the numbers of their places become 0.
module _ (t : ℕ → Bool) where
  abbrev at : ℕ → ℕ → ℕ
  at i n = pick (t (i / 256)) 0 n

  pub cleared_one : (k : ℕ) (m : List ℕ) → length m ≤ 256 → map_each at (256 * k) m ≡ pick (t k) (replicate (length m) 0) m
  cleared_one k m e =
      map_each_agree at (λ i n. pick (t k) 0 n) (256 * k) m (λ i x h. let j : (256 * k + i) / 256 ≡ k = omega (arith, h, e) in ap (λ q. pick (t q) 0 x) j)
      ∙ map_each_map (λ n. pick (t k) 0 n) (256 * k) m ∙ zeros (t k) m

  pub laid_cleared : (k : ℕ) (ls : List (List ℕ)) → Whole ls → laid (map_each (λ q l. pick (t q) [] l) k ls) ≡ map_each at (256 * k) (laid ls)
  unfolding laid map_each
  laid_cleared k [] h = refl
  laid_cleared k (l ∷ rest) h =
      let n : 256 * suc k ≡ 256 * k + length (padded l) = omega (arith, h 0) in
      ap₂ ◌++◌ (padded_emptied (t k) l ∙ ap (λ n. pick (t k) (replicate n 0) (padded l)) (sym (h 0)) ∙ sym (cleared_one k (padded l) (omega (arith, h 0))))
      (laid_cleared (suc k) rest (λ p. h (suc p)) ∙ ap (λ j. map_each at j (laid rest)) n)
      ∙ sym (map_each_append at (256 * k) (padded l) (laid rest))
