-- The histories stand in the document's order, and no two lines are equal. The bytes of two listed commands differ at a place that both
-- have, so that whatever follows them does not matter. Assumes nothing.
use Prim.Native.Nat.{ℕ, suc, ◌+◌, ◌/◌, ◌%◌, ◌<◌}
use native.Mathlib.Omega.{arith}
use mathlib.Core.Bool.{Bool, true, false, ◌&&◌, ◌||◌, true≢false}
use mathlib.Core.Logic.{◌⊎◌, inl, inr}
use mathlib.Core.List.{List, [], ◌∷◌, ◌++◌, map, flatten, append_cancel_left, cons-ne-nil}
use mathlib.Core.Path.{◌≡◌, refl, sym, ◌∙◌, ap, subst}
use lib.ListN.{length, get_or, drop}
use lib.Dec.{eqb, ltb}
use borrow.Author.Tests.{eq-eqb, le-ltb, ltb-true, ltb-false}
use Rattle.capabilities.specs.Lists.{pick, map_each, all, Every, In, Ordered}
use Rattle.capabilities.proofs.Choice.{and_left, and_right}
use Rattle.capabilities.proofs.Lists.{every}
use Rattle.capabilities.proofs.Members.{of_every, from_map, from_flatten, ordered_parts, ordered_filter}
use Rattle.calls.specs.Commands.{bytes_of}
use Rattle.calls.specs.declared.Call.{Call}
use Rattle.short_histories.specs.Listed.{choices, operands, listed}
use Rattle.short_histories.specs.Text.{bytes_in, lower, digit, digits, hex_line, line_of}
use Rattle.short_histories.specs.Histories.{fresh_one, grants_all, sequences, counts, histories}
use Rattle.short_histories.specs.Promises.{Precedes, InOrder, NothingTwice}
use Rattle.short_histories.proofs.Choosing.{from_choices, ordered_choices}
use Rattle.short_histories.proofs.Listing.{nothing_else}

-- ---- Orders
-- An order, tested.
unfoldable ordered_by : {A : Type 0} → (A → A → Bool) → List A → Bool
ordered_by t [] = true
ordered_by t (x ∷ l) = all (t x) l && ordered_by t l

module _ {A : Type 0} where
  ordered_by_lem : (t : A → A → Bool) (l : List A) → ordered_by t l ≡ true → Ordered (λ x y. t x y ≡ true) l
  unfolding ordered_by
  ordered_by_lem t [] e = tt
  ordered_by_lem t (x ∷ l) e = (
    (λ y i. of_every (λ z. t x z ≡ true) l y (every (t x) (λ z. t x z ≡ true) (λ z p. p) l (and_left (all (t x) l) (ordered_by t l) e)) i),
    ordered_by_lem t l (and_right (all (t x) l) (ordered_by t l) e),
  )

  module _ (R S : A → A → Type 0) where
    ordered_weaker : (l : List A) → ((x y : A) → In x l → In y l → R x y → S x y) → Ordered R l → Ordered S l
    ordered_weaker [] h r = tt
    ordered_weaker (x ∷ l) h r = ((λ y i. h x y (inl refl) (inr i) (r.0 y i)), ordered_weaker l (λ u v i j. h u v (inr i) (inr j)) r.1)

  -- Of two entries one comes before the other, or they are one.
  module _ (R : A → A → Type 0) where
    three : (l : List A) → Ordered R l → (x y : A) → In x l → In y l → (x ≡ y) ⊎ (R x y ⊎ R y x)
    three [] r x y i j = absurd i
    three (z ∷ l) r x y (inl i) (inl j) = inl (i ∙ sym j)
    three (z ∷ l) r x y (inl i) (inr j) = inr (inl (subst (λ u. R u y) (sym i) (r.0 y j)))
    three (z ∷ l) r x y (inr i) (inl j) = inr (inr (subst (λ u. R u x) (sym j) (r.0 x i)))
    three (z ∷ l) r x y (inr i) (inr j) = three l r.1 x y i j

-- ---- Bytes
-- The lower one has the lower byte at a place that both have.
unfoldable pub before : List ℕ → List ℕ → Bool
before [] ys = false
before (x ∷ xs) [] = false
before (x ∷ xs) (y ∷ ys) = ltb x y || (eqb x y && before xs ys)

before_lower : (xs ys a b : List ℕ) → before xs ys ≡ true → lower (xs ++ a) (ys ++ b) ≡ true
unfolding before lower
before_lower [] ys a b e = absurd (true≢false (sym e))
before_lower (x ∷ xs) [] a b e = absurd (true≢false (sym e))
before_lower (x ∷ xs) (y ∷ ys) a b e = go (ltb x y) (eqb x y) (before xs ys) (lower (xs ++ a) (ys ++ b)) (before_lower xs ys a b) e
  where
    go : (p q u w : Bool) → (u ≡ true → w ≡ true) → p || (q && u) ≡ true → p || (q && w) ≡ true
    go true q u w h e = refl
    go false true u w h e = h e
    go false false u w h e = e

lower_after : (xs a b : List ℕ) → lower a b ≡ true → lower (xs ++ a) (xs ++ b) ≡ true
unfolding lower
lower_after [] a b e = e
lower_after (x ∷ xs) a b e = go (ltb x x) (eqb x x) (eq-eqb x x refl) (lower_after xs a b e)
  where
    go : (p q : Bool) → q ≡ true → lower (xs ++ a) (xs ++ b) ≡ true → p || (q && lower (xs ++ a) (xs ++ b)) ≡ true
    go true q e f = refl
    go false true e f = f
    go false false e f = e

lower_itself : (xs : List ℕ) → lower xs xs ≡ false
unfolding lower
lower_itself [] = refl
lower_itself (x ∷ xs) = rw (le-ltb x x (omega arith), eq-eqb x x refl) (lower_itself xs)

-- The listed commands stand in rising byte order.
abbrev pub Before : Call → Call → Type 0
Before c d = before (bytes_of c) (bytes_of d) ≡ true

listed_rises : ordered_by (λ c d. before (bytes_of c) (bytes_of d)) listed ≡ true
unfolding ordered_by all before listed choices operands flatten map_each
listed_rises = refl

pub listed_ordered : Ordered Before listed
listed_ordered = ordered_by_lem (λ c d. before (bytes_of c) (bytes_of d)) listed listed_rises

-- ---- The histories
abbrev Lower : List Call → List Call → Type 0
Lower x y = lower (bytes_in x) (bytes_in y) ≡ true

apart : (c d : Call) (x y : List Call) → Before c d → Lower (c ∷ x) (d ∷ y)
unfolding bytes_in flatten
apart c d x y e = before_lower (bytes_of c) (bytes_of d) (flatten (map bytes_of x)) (flatten (map bytes_of y)) e

after : (c : Call) (x y : List Call) → Lower x y → Lower (c ∷ x) (c ∷ y)
unfolding bytes_in flatten
after c x y e = lower_after (bytes_of c) (flatten (map bytes_of x)) (flatten (map bytes_of y)) e

of_count : (n : ℕ) (x : List Call) → In x (sequences n) → length x ≡ n
unfolding sequences
of_count n x i = (from_choices listed n x i).0

sequences_ordered : (n : ℕ) → Ordered Precedes (sequences n)
sequences_ordered n =
    ordered_weaker Lower Precedes (sequences n) (λ x y i j e. inr (of_count n x i ∙ sym (of_count n y j), e)) rises
  where
    rises : Ordered Lower (sequences n)
    rises = unfold sequences in ordered_choices Before Lower apart after n listed listed_ordered

shorter_first : (ns : List ℕ) → Ordered ◌<◌ ns → Ordered Precedes (flatten (map sequences ns))
unfolding flatten
shorter_first [] r = tt
shorter_first (n ∷ ns) r =
    ordered_parts Precedes (sequences n) (flatten (map sequences ns)) (sequences_ordered n) (shorter_first ns r.1) across
  where
    across : (x y : List Call) → In x (sequences n) → In y (flatten (map sequences ns)) → Precedes x y
    across x y i j =
        let (block, (k, p)) = from_flatten (map sequences ns) y j in
        let (m, (q, is)) = from_map sequences ns block k in
        let long : length y ≡ m = of_count m y (subst (In y) (sym is) p) in
        inl (subst (λ (a : ℕ). a < length y) (sym (of_count n x i)) (subst (λ (b : ℕ). n < b) (sym long) (r.0 m q)))

counts_rise : Ordered ◌<◌ counts
counts_rise = ordered_weaker (λ m n. ltb m n ≡ true) ◌<◌ counts (λ m n i j e. ltb-true m n e) (ordered_by_lem ltb counts (unfold ordered_by all in refl))

pub in_order : InOrder
unfolding histories
in_order = ordered_filter Precedes (grants_all fresh_one) (flatten (map sequences counts)) (shorter_first counts counts_rise)

-- ---- Lines
same_digit : (m n : ℕ) → digit m ≡ digit n → m ≡ n
unfolding digit
same_digit m n e = go (ltb m 10) refl (ltb n 10) refl e
  where
    go : (a : Bool) → ltb m 10 ≡ a → (b : Bool) → ltb n 10 ≡ b → pick a (48 + m) (55 + m) ≡ pick b (48 + n) (55 + n) → m ≡ n
    go true p true q e = omega arith
    go true p false q e = let h = ltb-true m 10 p in let k = ltb-false n 10 q in omega arith
    go false p true q e = let h = ltb-false m 10 p in let k = ltb-true n 10 q in omega arith
    go false p false q e = omega arith

-- A line gives its bytes back.
pub same_bytes : (xs ys : List ℕ) → hex_line xs ≡ hex_line ys → xs ≡ ys
unfolding hex_line digits
same_bytes [] [] e = refl
same_bytes [] (y ∷ ys) e = let z : 1 ≡ suc (suc (length (hex_line ys))) = ap length e in let w : ⊥ = omega arith in absurd w
same_bytes (x ∷ xs) [] e = let z : suc (suc (length (hex_line xs))) ≡ 1 = ap length e in let w : ⊥ = omega arith in absurd w
same_bytes (x ∷ xs) (y ∷ ys) e =
    let high : x / 16 ≡ y / 16 = same_digit (x / 16) (y / 16) (ap (λ l. get_or l 0 0) e) in
    let low : x % 16 ≡ y % 16 = same_digit (x % 16) (y % 16) (ap (λ l. get_or l 1 0) e) in
    let same : x ≡ y = omega arith in
    let rest : xs ≡ ys = same_bytes xs ys (ap (drop 2) e) in
    λ i. same i ∷ rest i

-- Bytes of listed commands give the commands back.
abbrev OfListed : List Call → Type 0
OfListed x = Every (λ c. In c listed) x

apart_never : (c d : Call) (x y : List Call) → bytes_in (c ∷ x) ≡ bytes_in (d ∷ y) → Before c d → ⊥
apart_never c d x y e b = true≢false (sym (apart c d x y b) ∙ ap (λ l. lower (bytes_in (c ∷ x)) l) (sym e) ∙ lower_itself (bytes_in (c ∷ x)))

none_some : (d : Call) (y : List Call) → bytes_in [] ≡ bytes_in (d ∷ y) → ⊥
unfolding bytes_in flatten
none_some d y e = cons-ne-nil _ _ (sym e)

same_calls : (x y : List Call) → OfListed x → OfListed y → bytes_in x ≡ bytes_in y → x ≡ y
unfolding Every
same_calls [] [] p q e = refl
same_calls [] (d ∷ y) p q e = absurd (none_some d y e)
same_calls (c ∷ x) [] p q e = absurd (none_some c x (sym e))
same_calls (c ∷ x) (d ∷ y) p q e =
    go (three Before listed listed_ordered c d p.0 q.0) (same_calls x y p.1 q.1)
  where
    go : (c ≡ d) ⊎ (Before c d ⊎ Before d c) → (bytes_in x ≡ bytes_in y → x ≡ y) → (c ∷ x) ≡ (d ∷ y)
    go (inl s) ih = let r = ih (cancel s) in λ i. s i ∷ r i
      where
        cancel : c ≡ d → bytes_in x ≡ bytes_in y
        cancel s = unfold bytes_in flatten in append_cancel_left (bytes_of c) (bytes_in x) (bytes_in y) (e ∙ ap (λ k. bytes_of k ++ bytes_in y) (sym s))
    go (inr (inl b)) ih = absurd (apart_never c d x y e b)
    go (inr (inr b)) ih = absurd (apart_never d c y x (sym e) b)

pub nothing_twice : NothingTwice
nothing_twice = ordered_weaker Precedes (λ x y. line_of x ≡ line_of y → ⊥) histories differ in_order
  where
    never : (x : List Call) → Precedes x x → ⊥
    never x (inl h) = omega arith
    never x (inr h) = true≢false (sym h.1 ∙ lower_itself (bytes_in x))

    differ : (x y : List Call) → In x histories → In y histories → Precedes x y → line_of x ≡ line_of y → ⊥
    differ x y i j r e =
        let same = same_calls x y (nothing_else x i).of_listed (nothing_else y j).of_listed (unfold line_of in same_bytes (bytes_in x) (bytes_in y) e) in
        never x (subst (Precedes x) (sym same) r)
