-- Reasons that stand in an order: the first of them that applies is the first number of the order that does. Assumes nothing.
use Prim.Native.Nat.{ℕ}
use mathlib.Core.Bool.{Bool, true, false, not, ◌&&◌, ◌||◌, false≢true}
use mathlib.Core.List.{List, [], ◌∷◌}
use mathlib.Core.Logic.{◌⊎◌, inl, inr}
use mathlib.Core.Path.{◌≡◌, refl, sym, ap, subst, ◌∙◌}
use lib.Dec.{eqb}
use borrow.Author.Tests.{eqb-true, eq-eqb, not-true}
use Rattle.capabilities.specs.Lists.{pick, all}
use Rattle.capabilities.specs.Refusals.{Reason, reason, first, applied, first_in}
use Rattle.capabilities.proofs.Choice.{pick_no, and_left, and_right}

-- The numbers of the reasons are some of these, in this order.
unfoldable pub ordered : List ℕ → List Reason → Bool
ordered ks [] = true
ordered [] (r ∷ rest) = false
ordered (k ∷ ks) (r ∷ rest) = pick (eqb k r.number) (ordered ks rest) (ordered ks (r ∷ rest))

-- No number stands there twice, and 0 does not.
unfoldable pub absent : ℕ → List ℕ → Bool
absent k [] = true
absent k (j ∷ ks) = not (eqb j k) && absent k ks

unfoldable pub distinct : List ℕ → Bool
distinct [] = true
distinct (k ∷ ks) = absent k ks && distinct ks

-- A reason that does not apply adds nothing.
skips : (n k : ℕ) (a : Bool) → ((eqb n k && false) || a) ≡ a
skips n k a = go (eqb n k)
  where
    go : (b : Bool) → ((b && false) || a) ≡ a
    go true = refl
    go false = refl

-- A number that does not stand in the order does not apply.
outside : (k : ℕ) (ks : List ℕ) (l : List Reason) → ordered ks l ≡ true → absent k ks ≡ true → applied k l ≡ false
unfolding ordered absent applied
outside k ks [] e f = refl
outside k [] (r ∷ rest) e f = absurd (false≢true e)
outside k (j ∷ ks) (r ∷ rest) e f =
    go (eqb j r.number) refl e (λ y. outside k ks rest y (and_right (not (eqb j k)) (absent k ks) f)) (λ y. outside k ks (r ∷ rest) y (and_right (not (eqb j k)) (absent k ks) f))
  where
    apart : eqb j k ≡ false
    apart = not-true (eqb j k) (and_left (not (eqb j k)) (absent k ks) f)

    go : (b : Bool) → eqb j r.number ≡ b → pick b (ordered ks rest) (ordered ks (r ∷ rest)) ≡ true
        → (ordered ks rest ≡ true → applied k rest ≡ false) → (ordered ks (r ∷ rest) ≡ true → ((eqb r.number k && r.applies) || applied k rest) ≡ false)
        → ((eqb r.number k && r.applies) || applied k rest) ≡ false
    go true x y here there = let z : eqb r.number k ≡ false = subst (λ i. eqb i k ≡ false) (eqb-true j r.number x) apart in rw z (here y)
    go false x y here there = there y

-- The number of the first reason stands there.
listed : (ks : List ℕ) (n : ℕ) (b : Bool) (rest : List Reason) → ordered ks (reason n b ∷ rest) ≡ true → absent n ks ≡ true → ⊥
unfolding ordered absent
listed [] n b rest e f = false≢true e
listed (k ∷ ks) n b rest e f =
    let apart = not-true (eqb k n) (and_left (not (eqb k n)) (absent n ks) f) in
    listed ks n b rest (sym (pick_no (eqb k n) (ordered ks rest) (ordered ks (reason n b ∷ rest)) apart) ∙ e) (and_right (not (eqb k n)) (absent n ks) f)

-- So an order with one number more will do as well.
pub ordered_wider : (k : ℕ) (ks : List ℕ) (l : List Reason) → absent k ks ≡ true → ordered ks l ≡ true → ordered (k ∷ ks) l ≡ true
unfolding ordered
ordered_wider k ks [] f e = refl
ordered_wider k ks (r ∷ rest) f e = go (eqb k r.number) refl
  where
    go : (b : Bool) → eqb k r.number ≡ b → pick b (ordered ks rest) (ordered ks (r ∷ rest)) ≡ true
    go true x = absurd (listed ks r.number r.applies rest e (subst (λ i. absent i ks ≡ true) (eqb-true k r.number x) f))
    go false x = e

-- Tests that agree find the same number.
same_found : (ks : List ℕ) (p q : ℕ → Bool) → ((k : ℕ) → p k ≡ q k) → first_in ks p ≡ first_in ks q
unfolding first_in
same_found [] p q e = refl
same_found (k ∷ ks) p q e = ap (λ b. pick b k (first_in ks p)) (e k) ∙ ap (λ n. pick (q k) k n) (same_found ks p q e)

-- The next number of the order has a reason.
next_in : (k : ℕ) (ks : List ℕ) (b : Bool) (rest : List Reason) → absent k ks ≡ true → ordered ks rest ≡ true → first rest ≡ first_in ks (λ j. applied j rest)
    → first (reason k b ∷ rest) ≡ first_in (k ∷ ks) (λ j. applied j (reason k b ∷ rest))
unfolding first first_in applied
next_in k ks true rest out e ih = rw (eq-eqb k k refl)
next_in k ks false rest out e ih =
    ih ∙ same_found ks (λ j. applied j rest) (λ j. (eqb k j && false) || applied j rest) (λ j. sym (skips k j (applied j rest)))
    ∙ sym (pick_no ((eqb k k && false) || applied k rest) k _ (skips k k (applied k rest) ∙ outside k ks rest e out))

pub first_in_lem : (ks : List ℕ) (l : List Reason) → distinct ks ≡ true → ordered ks l ≡ true → first l ≡ first_in ks (λ k. applied k l)
first_in_lem [] [] d e = unfold first in unfold first_in in refl
first_in_lem [] (r ∷ rest) d e = absurd (false≢true (unfold ordered in e))
first_in_lem (k ∷ ks) [] d e =
    first_in_lem ks [] (and_right (absent k ks) (distinct ks) (unfold distinct in d)) (unfold ordered in refl) ∙ (unfold first_in in unfold applied in refl)
first_in_lem (k ∷ ks) (r ∷ rest) d e =
    go (eqb k r.number) refl (unfold ordered in e)
    (λ y. next_in k ks r.applies rest (and_left (absent k ks) (distinct ks) (unfold distinct in d)) y (first_in_lem ks rest (and_right (absent k ks) (distinct ks) (unfold distinct in d)) y))
    (λ y. first_in_lem ks (r ∷ rest) (and_right (absent k ks) (distinct ks) (unfold distinct in d)) y)
  where
    -- The number itself, or one that stands before it and has none.
    go : (b : Bool) → eqb k r.number ≡ b → pick b (ordered ks rest) (ordered ks (r ∷ rest)) ≡ true
        → (ordered ks rest ≡ true → first (reason k r.applies ∷ rest) ≡ first_in (k ∷ ks) (λ j. applied j (reason k r.applies ∷ rest)))
        → (ordered ks (r ∷ rest) ≡ true → first (r ∷ rest) ≡ first_in ks (λ j. applied j (r ∷ rest)))
        → first (r ∷ rest) ≡ first_in (k ∷ ks) (λ j. applied j (r ∷ rest))
    go true x y here there =
        subst (λ n. first (reason n r.applies ∷ rest) ≡ first_in (k ∷ ks) (λ j. applied j (reason n r.applies ∷ rest))) (eqb-true k r.number x) (here y)
    go false x y here there =
        there y ∙ sym (unfold first_in in pick_no (applied k (r ∷ rest)) k (first_in ks (λ j. applied j (r ∷ rest))) (outside k ks (r ∷ rest) y (and_left (absent k ks) (distinct ks) (unfold distinct in d))))

-- What holds of every number of the order holds of the one that is found, if any is.
pub first_passes : (P : ℕ → Bool) (ks : List ℕ) (l : List Reason) → all P ks ≡ true → ordered ks l ≡ true → (first l ≡ 0) ⊎ (P (first l) ≡ true)
unfolding all ordered first
first_passes P ks [] a e = inl refl
first_passes P [] (r ∷ rest) a e = absurd (false≢true e)
first_passes P (k ∷ ks) (r ∷ rest) a e =
    go (eqb k r.number) refl e (λ y. first_passes P ks rest (and_right (P k) (all P ks) a) y) (λ y. first_passes P ks (r ∷ rest) (and_right (P k) (all P ks) a) y)
  where
    mine : k ≡ r.number → (b : Bool) → (first rest ≡ 0) ⊎ (P (first rest) ≡ true) → (pick b r.number (first rest) ≡ 0) ⊎ (P (pick b r.number (first rest)) ≡ true)
    mine n true h = inr (subst (λ i. P i ≡ true) n (and_left (P k) (all P ks) a))
    mine n false h = h

    go : (x : Bool) → eqb k r.number ≡ x → pick x (ordered ks rest) (ordered ks (r ∷ rest)) ≡ true
        → (ordered ks rest ≡ true → (first rest ≡ 0) ⊎ (P (first rest) ≡ true))
        → (ordered ks (r ∷ rest) ≡ true → (pick r.applies r.number (first rest) ≡ 0) ⊎ (P (pick r.applies r.number (first rest)) ≡ true))
        → (pick r.applies r.number (first rest) ≡ 0) ⊎ (P (pick r.applies r.number (first rest)) ≡ true)
    go true x y here there = mine (eqb-true k r.number x) r.applies (here y)
    go false x y here there = there y
