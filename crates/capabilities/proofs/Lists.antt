-- Laws of `each`, `map_each`, `map` and `all`: one entry more, as a loop goes, what they say of one entry, and lists in parts. Assumes nothing.
use Prim.Native.Nat.{ℕ, zero, suc, ◌+◌, ◌<◌, ◌≤◌}
use native.Mathlib.Nat.{add-zero, add-suc, suc-add, zero-add}
use native.Mathlib.Numerals.{add-one}
use native.Mathlib.Omega.{arith}
use mathlib.Core.Bool.{Bool, true, false, ◌&&◌, and-true, and_assoc}
use mathlib.Core.List.{List, [], ◌∷◌, ◌++◌, append-nil, append_assoc, map}
use mathlib.Core.Path.{◌≡◌, refl, sym, ap, ◌∙◌}
use lib.ListN.{length, get_or, take, drop, set, replicate, length-drop, length-replicate, drop_of_length-le, take-append-drop, get_or-replicate, get_or-eq_default}
use lib.Seq.{take-suc, take_all, take_at, take-add, length-take-le, length_front, get_or_at, get_or-drop, set_at, drop_at, drop-cons, drop-drop, append_snoc}
use lib.Dec.{leb, ltb}
use borrow.Author.Tests.{leb-true, leb-false, ltb-true, ltb-false}
use Rattle.capabilities.specs.Lists.{each, map_each, all, Every}
use Rattle.capabilities.proofs.Choice.{and_left, and_right, cross}

pub empty : {A : Type 0} (l : List A) → length l ≡ 0 → l ≡ []
empty [] e = refl
empty (x ∷ l) e = let z : ⊥ = omega arith in absurd z

-- A list with one entry over and over, also past its end.
pub same_everywhere : {A : Type 0} (n i : ℕ) (x : A) → get_or (replicate n x) i x ≡ x
same_everywhere n i x = go (ltb i n) refl
  where
    go : (b : Bool) → ltb i n ≡ b → get_or (replicate n x) i x ≡ x
    go true e = get_or-replicate n i x x (ltb-true i n e)
    go false e = get_or-eq_default (replicate n x) x (rw length-replicate (ltb-false i n e))

module _ {A : Type 0} (P : ℕ → A → Bool) where
  pub each_append : (n : ℕ) (l m : List A) → each P n (l ++ m) ≡ (each P n l && each P (n + length l) m)
  unfolding each
  each_append n [] m = rw add-zero
  each_append n (x ∷ l) m =
      rw (each_append (suc n) l m, suc-add n (length l), add-suc n (length l)) (sym (and_assoc (P n x) (each P (suc n) l) (each P (suc (n + length l)) m)))

  each_snoc : (n : ℕ) (l : List A) (y : A) → each P n (l ++ (y ∷ [])) ≡ (each P n l && P (n + length l) y)
  unfolding each
  each_snoc n l y = each_append n l (y ∷ []) ∙ ap (λ b. each P n l && b) (and-true (P (n + length l) y))

  -- A loop that tests one entry a turn: after i + 1 turns.
  pub each_more : (l : List A) (i : ℕ) (d : A) → i < length l → each P 0 (take (i + 1) l) ≡ (each P 0 (take i l) && P i (get_or l i d))
  each_more l i d h =
      let e : length (take i l) ≡ i = length-take-le i l (omega arith) in
      rw (add-one, take-suc l i d h, each_snoc 0 (take i l) (get_or l i d), zero-add, e)

  -- Of all the entries that passed, one passed.
  pub each_at : (n : ℕ) (l : List A) (i : ℕ) (d : A) → i < length l → each P n l ≡ true → P (n + i) (get_or l i d) ≡ true
  unfolding each
  each_at n [] i d h e = let z : ⊥ = omega arith in absurd z
  each_at n (x ∷ l) zero d h e = rw add-zero (and_left (P n x) _ e)
  each_at n (x ∷ l) (suc i) d h e = rw (add-suc, ← suc-add) (each_at (suc n) l i d (omega arith) (and_right (P n x) _ e))

  -- What passes entry by entry passes as a whole.
  pub each_all : (n : ℕ) (l : List A) (d : A) → ((i : ℕ) → i < length l → P (n + i) (get_or l i d) ≡ true) → each P n l ≡ true
  unfolding each
  each_all n [] d h = refl
  each_all n (x ∷ l) d h =
      rw (rw add-zero at (h 0 (omega arith)))
      (each_all (suc n) l d (λ i k. rw (suc-add, ← add-suc) (h (suc i) (omega arith))))

  -- A list in two parts.
  pub each_parts : (k : ℕ) (l : List A) → k ≤ length l → each P 0 l ≡ (each P 0 (take k l) && each P k (drop k l))
  each_parts k l h =
      ap (each P 0) (sym (take-append-drop k l)) ∙ each_append 0 (take k l) (drop k l)
      ∙ ap (λ n. each P 0 (take k l) && each P n (drop k l)) (zero-add (length (take k l)) ∙ length-take-le k l h)

  -- The entries from one on pass: it is enough to test those before it.
  pub each_rest : (k : ℕ) (l : List A) (d : A) → ((i : ℕ) → k ≤ i → i < length l → P i (get_or l i d) ≡ true) → each P 0 (take k l) ≡ each P 0 l
  each_rest k l d h = go (leb k (length l)) refl
    where
      go : (b : Bool) → leb k (length l) ≡ b → each P 0 (take k l) ≡ each P 0 l
      go true e =
          let s = leb-true k (length l) e in
          let r : each P k (drop k l) ≡ true = each_all k (drop k l) d (λ i j. rw get_or-drop (h (k + i) (omega arith) (omega (arith, length-drop k l)))) in
          sym (each_parts k l s ∙ ap (λ b. each P 0 (take k l) && b) r ∙ and-true (each P 0 (take k l)))
      go false e = let s = leb-false k (length l) e in ap (each P 0) (take_all k l (omega arith))

-- Two tests at once.
pub each_and : {A : Type 0} (P Q : ℕ → A → Bool) (n : ℕ) (l : List A) → (each P n l && each Q n l) ≡ each (λ i x. P i x && Q i x) n l
unfolding each
each_and P Q n [] = refl
each_and P Q n (x ∷ l) =
    cross (P n x) (each P (suc n) l) (Q n x) (each Q (suc n) l) ∙ ap (λ b. (P n x && Q n x) && b) (each_and P Q (suc n) l)

-- A test that does not look at the numbers.
pub each_anywhere : {A : Type 0} (P : A → Bool) (m n : ℕ) (l : List A) → each (λ i x. P x) m l ≡ each (λ i x. P x) n l
unfolding each
each_anywhere P m n [] = refl
each_anywhere P m n (x ∷ l) = ap (λ b. P x && b) (each_anywhere P (suc m) (suc n) l)

-- A map that doesn't look at the numbers.
pub map_each_map : {A B : Type 0} (f : A → B) (n : ℕ) (l : List A) → map_each (λ i x. f x) n l ≡ map f l
unfolding map_each
map_each_map f n [] = refl
map_each_map f n (x ∷ l) = ap (λ r. f x ∷ r) (map_each_map f (suc n) l)

-- A test of what a map leaves.
pub each_map_each : {A B : Type 0} (P : ℕ → B → Bool) (f : ℕ → A → B) (n : ℕ) (l : List A) → each P n (map_each f n l) ≡ each (λ i x. P i (f i x)) n l
unfolding each map_each
each_map_each P f n [] = refl
each_map_each P f n (x ∷ l) = ap (λ b. P n (f n x) && b) (each_map_each P f (suc n) l)

pub each_map : {A B : Type 0} (P : ℕ → B → Bool) (f : A → B) (n : ℕ) (l : List A) → each P n (map f l) ≡ each (λ i x. P i (f x)) n l
each_map P f n l = ap (each P n) (sym (map_each_map f n l)) ∙ each_map_each P (λ i x. f x) n l

-- Two tests that agree on every entry.
pub each_same : {A : Type 0} (P Q : ℕ → A → Bool) (n : ℕ) (l : List A) → ((i : ℕ) (x : A) → i < length l → P (n + i) x ≡ Q (n + i) x) → each P n l ≡ each Q n l
unfolding each
each_same P Q n [] h = refl
each_same P Q n (x ∷ l) h =
    rw (rw add-zero at (h 0 x (omega arith)), each_same P Q (suc n) l (λ i y k. rw (suc-add, ← add-suc) (h (suc i) y (omega arith))))

module _ {A B : Type 0} (f : ℕ → A → B) where
  pub length_map_each : (n : ℕ) (l : List A) → length (map_each f n l) ≡ length l
  unfolding map_each
  length_map_each n [] = refl
  length_map_each n (x ∷ l) = ap suc (length_map_each (suc n) l)

  pub get_d_map_each : (n : ℕ) (l : List A) (i : ℕ) (d : A) (e : B) → i < length l → get_or (map_each f n l) i e ≡ f (n + i) (get_or l i d)
  unfolding map_each
  get_d_map_each n [] i d e h = let z : ⊥ = omega arith in absurd z
  get_d_map_each n (x ∷ l) zero d e h = rw add-zero
  get_d_map_each n (x ∷ l) (suc i) d e h = rw (add-suc, ← suc-add) (get_d_map_each (suc n) l i d e (omega arith))

  -- One entry, also past the last one.
  pub map_each_at : (d : A) (e : B) → ((i : ℕ) → f i d ≡ e) → (l : List A) (i : ℕ) → get_or (map_each f 0 l) i e ≡ f i (get_or l i d)
  map_each_at d e none l i = go (ltb i (length l)) refl
    where
      go : (b : Bool) → ltb i (length l) ≡ b → get_or (map_each f 0 l) i e ≡ f i (get_or l i d)
      go true h = get_d_map_each 0 l i d e (ltb-true i (length l) h) ∙ ap (λ n. f n (get_or l i d)) (zero-add i)
      go false h =
          let out = ltb-false i (length l) h in
          get_or-eq_default (map_each f 0 l) e (rw (length_map_each 0 l) out) ∙ sym (ap (f i) (get_or-eq_default l d out) ∙ none i)

  pub map_each_append : (n : ℕ) (l m : List A) → map_each f n (l ++ m) ≡ map_each f n l ++ map_each f (n + length l) m
  unfolding map_each
  map_each_append n [] m = rw add-zero
  map_each_append n (x ∷ l) m = rw (map_each_append (suc n) l m, suc-add n (length l), add-suc n (length l))

  map_each_snoc : (n : ℕ) (l : List A) (y : A) → map_each f n (l ++ (y ∷ [])) ≡ map_each f n l ++ (f (n + length l) y ∷ [])
  unfolding map_each
  map_each_snoc n l y = map_each_append n l (y ∷ [])

pub map_each_same : {A : Type 0} (f : ℕ → A → A) (n : ℕ) (l : List A) → ((i : ℕ) (x : A) → i < length l → f (n + i) x ≡ x) → map_each f n l ≡ l
unfolding map_each
map_each_same f n [] h = refl
map_each_same f n (x ∷ l) h =
    rw (rw add-zero at (h 0 x (omega arith)), map_each_same f (suc n) l (λ i y k. rw (suc-add, ← add-suc) (h (suc i) y (omega arith))))

-- Two functions that agree on every entry.
pub map_each_agree : {A B : Type 0} (f g : ℕ → A → B) (n : ℕ) (l : List A) → ((i : ℕ) (x : A) → i < length l → f (n + i) x ≡ g (n + i) x) → map_each f n l ≡ map_each g n l
unfolding map_each
map_each_agree f g n [] h = refl
map_each_agree f g n (x ∷ l) h =
    rw (rw add-zero at (h 0 x (omega arith)), map_each_agree f g (suc n) l (λ i y k. rw (suc-add, ← add-suc) (h (suc i) y (omega arith))))

-- A loop that replaces one entry a turn: after i + 1 turns.
module _ {A : Type 0} (f : ℕ → A → A) where
  pub map_each_more :
      (l : List A) (i : ℕ) (d : A) → i < length l
      → set (map_each f 0 (take i l) ++ drop i l) i (f i (get_or l i d)) ≡ map_each f 0 (take (i + 1) l) ++ drop (i + 1) l
  map_each_more l i d h =
      let e : length (take i l) ≡ i = length-take-le i l (omega arith) in
      rw (add-one, take-suc l i d h, map_each_snoc f 0 (take i l) (get_or l i d), zero-add, e, drop-cons l i d h)
      (set_at (map_each f 0 (take i l)) (get_or l i d) (drop (suc i) l) (f i (get_or l i d)) i (length_map_each f 0 (take i l) ∙ e)
      ∙ sym (append_snoc (map_each f 0 (take i l)) (f i (get_or l i d)) (drop (suc i) l)))

  -- The entry that the loop's next turn reads is still the old one.
  pub map_each_next : (l : List A) (i : ℕ) (d : A) → i < length l → get_or (map_each f 0 (take i l) ++ drop i l) i d ≡ get_or l i d
  map_each_next l i d h =
      let e : length (take i l) ≡ i = length-take-le i l (omega arith) in
      rw (drop-cons l i d h) (get_or_at (map_each f 0 (take i l)) (get_or l i d) (drop (suc i) l) d i (length_map_each f 0 (take i l) ∙ e))

  -- A whole turn: the entry read, what f makes of it written.
  pub map_each_turn :
      (l t : List A) (i : ℕ) (d x : A) → i < length l → t ≡ map_each f 0 (take i l) ++ drop i l → x ≡ f i (get_or t i d)
      → set t i x ≡ map_each f 0 (take (i + 1) l) ++ drop (i + 1) l
  map_each_turn l t i d x h e y =
      rw (y, e) (ap (λ z. set (map_each f 0 (take i l) ++ drop i l) i (f i z)) (map_each_next l i d h) ∙ map_each_more l i d h)

  pub map_each_whole : (l : List A) (i : ℕ) → length l ≤ i → map_each f 0 (take i l) ++ drop i l ≡ map_each f 0 l
  map_each_whole l i h = rw (take_all i l h, drop_of_length-le l {i = i} h, append-nil)

-- A loop that replaces a part a turn: the part that the next turn replaces is still the old one.
module _ {A : Type 0} (f : ℕ → A → A) where
  pub part_next : (l t : List A) (k : ℕ) → k ≤ length l → t ≡ map_each f 0 (take k l) ++ drop k l → drop k t ≡ drop k l
  part_next l t k h e = ap (drop k) e ∙ drop_at (map_each f 0 (take k l)) (drop k l) k (length_map_each f 0 (take k l) ∙ length-take-le k l h)

  pub part_turn :
      (l t ys : List A) (k n : ℕ) → k + n ≤ length l → t ≡ map_each f 0 (take k l) ++ drop k l → ys ≡ map_each f k (take n (drop k l))
      → take k t ++ (ys ++ drop n (drop k t)) ≡ map_each f 0 (take (k + n) l) ++ drop (k + n) l
  part_turn l t ys k n h e y =
      let done = map_each f 0 (take k l) in
      let long : length done ≡ k = length_map_each f 0 (take k l) ∙ length-take-le k l (omega arith) in
      let front : take k t ≡ done = ap (take k) e ∙ take_at done (drop k l) k long in
      let back = part_next l t k (omega arith) e in
      let whole : map_each f 0 (take (k + n) l) ≡ done ++ map_each f k (take n (drop k l)) =
      ap (map_each f 0) (take-add k n l) ∙ map_each_append f 0 (take k l) (take n (drop k l))
      ∙ ap (λ (i : ℕ). done ++ map_each f i (take n (drop k l))) (zero-add (length (take k l)) ∙ length-take-le k l (omega arith)) in
      ap (λ (a : List A). a ++ (ys ++ drop n (drop k t))) front ∙ ap (λ (a : List A). done ++ (ys ++ drop n a)) back
      ∙ ap (λ (a : List A). done ++ (a ++ drop n (drop k l))) y ∙ ap (λ (a : List A). done ++ (map_each f k (take n (drop k l)) ++ a)) (drop-drop n k l)
      ∙ sym (append_assoc done (map_each f k (take n (drop k l))) (drop (k + n) l)) ∙ ap (λ (a : List A). a ++ drop (k + n) l) (sym whole)

  pub part_length : (k : ℕ) (l : List A) → length (map_each f 0 (take k l) ++ drop k l) ≡ length l
  part_length k l = length_front l (map_each f 0 (take k l)) k (length_map_each f 0 (take k l))

-- Entries replaced one by one, in a list that is cut, joined or written.
module _ {A B : Type 0} (f : A → B) where
  pub map_append : (l m : List A) → map f (l ++ m) ≡ map f l ++ map f m
  map_append [] m = refl
  map_append (x ∷ l) m = ap (λ r. f x ∷ r) (map_append l m)

  pub map_take : (n : ℕ) (l : List A) → map f (take n l) ≡ take n (map f l)
  map_take zero l = refl
  map_take (suc n) [] = refl
  map_take (suc n) (x ∷ l) = ap (λ r. f x ∷ r) (map_take n l)

  pub map_drop : (n : ℕ) (l : List A) → map f (drop n l) ≡ drop n (map f l)
  map_drop zero l = refl
  map_drop (suc n) [] = refl
  map_drop (suc n) (x ∷ l) = map_drop n l

  pub map_set : (l : List A) (i : ℕ) (x : A) → map f (set l i x) ≡ set (map f l) i (f x)
  map_set [] i x = refl
  map_set (y ∷ l) zero x = refl
  map_set (y ∷ l) (suc i) x = ap (λ r. f y ∷ r) (map_set l i x)

  -- Written and read again.
  pub back : (g : B → A) (d : A) (l : List A) → ((i : ℕ) → i < length l → g (f (get_or l i d)) ≡ get_or l i d) → map g (map f l) ≡ l
  back g d [] h = refl
  back g d (y ∷ l) h = ap (λ z. z ∷ map g (map f l)) (h 0 (omega arith)) ∙ ap (λ k. y ∷ k) (back g d l (λ i p. h (suc i) (omega (arith, p))))

-- What holds of each entry that passes holds of every entry of a list that passes.
pub every : {A : Type 0} (t : A → Bool) (P : A → Type 0) → ((x : A) → t x ≡ true → P x) → (l : List A) → all t l ≡ true → Every P l
unfolding Every all
every t P f [] e = tt
every t P f (x ∷ l) e = (f x (and_left (t x) (all t l) e), every t P f l (and_right (t x) (all t l) e))
