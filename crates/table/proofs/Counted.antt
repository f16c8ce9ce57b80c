-- Writes, counted place by place: if no more places are written than changed, each of them is written once. Assumes nothing.
use Prim.Native.Nat.{ℕ, zero, suc, ◌+◌, ◌-◌, ◌<◌, ◌≤◌}
use native.Mathlib.Omega.{arith}
use mathlib.Core.Bool.{Bool, true, false, ◌&&◌, false≢true}
use mathlib.Core.List.{List, [], ◌∷◌}
use mathlib.Core.Path.{◌≡◌, refl, sym, ap, ◌∙◌}
use borrow.Author.Tests.{eqb-true, eqb-false, ne_eqb, leb-true, ltb-true, le-leb, lt-ltb}
use lib.Dec.{eqb, leb, ltb}
use lib.ListN.{length, get_or, set}
use lib.Seq.{get_or-set_other}
use Rattle.capabilities.specs.Lists.{pick}
use Rattle.capabilities.proofs.Choice.{pick_yes, pick_no, and_left, and_right}
use Rattle.table.specs.Writes.{Write, after_writes, writes_to, EachOnce}
use Rattle.table.proofs.Truth.{both}

-- A write is to a place, or it is not.
module _ (w : Write) (j : ℕ) where
  abbrev to : ℕ
  to = pick (eqb w.place j) 1 0

  to_yes : eqb w.place j ≡ true → to ≡ 1
  to_yes p = pick_yes (eqb w.place j) 1 0 p

  to_no : eqb w.place j ≡ false → to ≡ 0
  to_no p = pick_no (eqb w.place j) 1 0 p

-- What is not written stays.
unwritten : (ws : List Write) (l : List ℕ) (j : ℕ) → writes_to j ws ≡ 0 → get_or (after_writes l ws) j 0 ≡ get_or l j 0
unfolding after_writes writes_to
unwritten [] l j e = refl
unwritten (w ∷ ws) l j e = go (eqb w.place j) refl (unwritten ws (set l w.place w.number) j)
  where
    go : (b : Bool) → eqb w.place j ≡ b → (writes_to j ws ≡ 0 → get_or (after_writes (set l w.place w.number) ws) j 0 ≡ get_or (set l w.place w.number) j 0)
        → get_or (after_writes (set l w.place w.number) ws) j 0 ≡ get_or l j 0
    go true p rest = absurd (omega (arith, to_yes w j p))
    go false p rest = rest (omega arith) ∙ get_or-set_other l w.place j w.number 0 (λ q. eqb-false w.place j p (sym q))

-- What changed was written.
pub changed_written : (ws : List Write) (l : List ℕ) (j : ℕ) → (get_or (after_writes l ws) j 0 ≡ get_or l j 0 → ⊥) → 0 < writes_to j ws
changed_written ws l j h = go (writes_to j ws) refl
  where
    go : (n : ℕ) → writes_to j ws ≡ n → 0 < writes_to j ws
    go zero e = absurd (h (unwritten ws l j e))
    go (suc n) e = omega arith

-- The writes to the k places from the i-th on.
writes_in : ℕ → ℕ → List Write → ℕ
writes_in i zero ws = 0
writes_in i (suc k) ws = writes_to (i + k) ws + writes_in i k ws

in_more : (i k : ℕ) (w : Write) (ws : List Write) → writes_in i k (w ∷ ws) ≡ writes_in i k (w ∷ []) + writes_in i k ws
unfolding writes_to writes_in
in_more i zero w ws = refl
in_more i (suc k) w ws = omega (arith, in_more i k w ws)

-- One write is in one place at most.
in_none : (i k : ℕ) (w : Write) → ((d : ℕ) → d < k → w.place ≡ i + d → ⊥) → writes_in i k (w ∷ []) ≡ 0
unfolding writes_to writes_in
in_none i zero w h = refl
in_none i (suc k) w h = omega (arith, to_no w (i + k) (ne_eqb w.place (i + k) (h k (omega arith))), in_none i k w (λ d s. h d (omega arith)))

-- A write to j is none to k other places.
beside : (i k j : ℕ) (w : Write) → ((d : ℕ) → d < k → j ≡ i + d → ⊥) → writes_in i k (w ∷ []) ≤ 1 → to w j + writes_in i k (w ∷ []) ≤ 1
beside i k j w h most = go (eqb w.place j) refl
  where
    go : (b : Bool) → eqb w.place j ≡ b → to w j + writes_in i k (w ∷ []) ≤ 1
    go true p = omega (arith, to_yes w j p, in_none i k w (λ d s e. h d s (sym (eqb-true w.place j p) ∙ e)))
    go false p = omega (arith, to_no w j p)

in_most : (i k : ℕ) (w : Write) → writes_in i k (w ∷ []) ≤ 1
unfolding writes_to writes_in
in_most i zero w = omega arith
in_most i (suc k) w = omega (arith, beside i k (i + k) w (λ d s e. omega arith) (in_most i k w))

in_nothing : (i k : ℕ) → writes_in i k [] ≡ 0
unfolding writes_to writes_in
in_nothing i zero = refl
in_nothing i (suc k) = omega (arith, in_nothing i k)

-- The writes to k places and to another one are no more than all.
all_most : (i k j : ℕ) → ((d : ℕ) → d < k → j ≡ i + d → ⊥) → (ws : List Write) → writes_to j ws + writes_in i k ws ≤ length ws
unfolding writes_to
all_most i k j h [] = omega (arith, in_nothing i k)
all_most i k j h (w ∷ ws) = omega (arith, in_more i k w ws, all_most i k j h ws, beside i k j w h (in_most i k w))

module _ (ws : List Write) (i : ℕ) where
  in_least : (k : ℕ) → ((d : ℕ) → d < k → 0 < writes_to (i + d) ws) → k ≤ writes_in i k ws
  unfolding writes_in
  in_least zero h = omega arith
  in_least (suc k) h = omega (arith, h k (omega arith), in_least k (λ d s. h d (omega arith)))

  in_each : (k : ℕ) → ((d : ℕ) → d < k → 0 < writes_to (i + d) ws) → writes_in i k ws ≤ k → (d : ℕ) → d < k → writes_to (i + d) ws ≡ 1
  unfolding writes_in
  in_each zero h most d s = absurd (omega arith)
  in_each (suc k) h most d s =
      let least = in_least k (λ c r. h c (omega arith)) in
      let here = h k (omega arith) in
      go (eqb d k) refl (omega arith) (in_each k (λ c r. h c (omega arith)) (omega arith) d)
    where
      go : (b : Bool) → eqb d k ≡ b → writes_to (i + k) ws ≡ 1 → (d < k → writes_to (i + d) ws ≡ 1) → writes_to (i + d) ws ≡ 1
      go true p here below = ap (λ c. writes_to (i + c) ws) (eqb-true d k p) ∙ here
      go false p here below = below (let n = eqb-false d k p in omega arith)

  -- As many writes as places, each of which is written: each is written once, and no other.
  pub each_once : (k : ℕ) → ((d : ℕ) → d < k → 0 < writes_to (i + d) ws) → length ws ≡ k → EachOnce i k ws
  each_once k h e j = go (leb i j && ltb j (i + k)) refl
    where
      go : (b : Bool) → (leb i j && ltb j (i + k)) ≡ b → ◌≡◌ {A = ℕ} (writes_to j ws) (pick (leb i j && ltb j (i + k)) 1 0)
      go true p =
          let from = leb-true i j (and_left (leb i j) (ltb j (i + k)) p) in
          let below = ltb-true j (i + k) (and_right (leb i j) (ltb j (i + k)) p) in
          let place : i + (j - i) ≡ j = omega arith in
          let most = all_most i k (i + k) (λ d s q. omega arith) ws in
          sym (ap (λ c. writes_to c ws) place) ∙ in_each k h (omega arith) (j - i) (omega arith) ∙ sym (pick_yes {A = ℕ} (leb i j && ltb j (i + k)) 1 0 p)
      go false p =
          let other : (d : ℕ) → d < k → j ≡ i + d → ⊥ = λ d s q. false≢true (sym p ∙ both (leb i j) (ltb j (i + k)) (le-leb i j (omega arith)) (lt-ltb j (i + k) (omega arith))) in
          omega (arith, all_most i k j other ws, in_least k h, pick_no {A = ℕ} (leb i j && ltb j (i + k)) 1 0 p)
