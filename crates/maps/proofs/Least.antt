-- The nearest: "no farther, and at the same distance no higher" is an order, and of two candidates the lower one in it is kept, so the last
-- one kept is the lowest of all; where there is a candidate one is kept. Assumes nothing.
use Prim.Native.Nat.{ℕ, ◌<◌, ◌≤◌}
use native.Mathlib.Omega.{arith}
use mathlib.Core.Bool.{Bool, true, false, ◌&&◌, ◌||◌, true≢false, false≢true}
use mathlib.Core.Logic.{◌⊎◌, inl, inr}
use mathlib.Core.List.{List, [], ◌∷◌}
use mathlib.Core.Path.{◌≡◌, refl, sym, ap, subst}
use lib.Dec.{eqb, ltb}
use lib.ListN.{length}
use borrow.Author.Tests.{eqb-true, eqb-false, ltb-true, ltb-false}
use Rattle.capabilities.specs.Lists.{pick, In, filter}
use Rattle.capabilities.proofs.Members.{in_filter, from_filter}
use Rattle.capabilities.proofs.Choice.{is_false}
use Rattle.table.specs.declared.Reservation.{Reservation}
use Rattle.table.specs.Rows.{range_of}
use Rattle.maps.specs.declared.Question.TheVariants.{Nearest}
use Rattle.maps.specs.Cells.{distance}
use Rattle.maps.specs.Questions.{candidate, nearer, nearest, Answer, answer, found, response, granted_answer, is_refused, ask_of}
use Rattle.maps.specs.Promises.{NoFarther, NearestIsLeast, NoneOnlyIfNone}

-- ---- The order of distances, and of bases at one distance
abbrev Low : ℕ → ℕ → ℕ → ℕ → Type 0
Low d b e c = (d < e) ⊎ ((d ≡ e) × (b ≤ c))

low_trans : (d b e c f a : ℕ) → Low d b e c → Low e c f a → Low d b f a
low_trans d b e c f a (inl h) (inl k) = inl (omega (arith, h, k))
low_trans d b e c f a (inl h) (inr (k, m)) = inl (omega (arith, h, k))
low_trans d b e c f a (inr (h, n)) (inl k) = inl (omega (arith, h, k))
low_trans d b e c f a (inr (h, n)) (inr (k, m)) = inr (omega (arith, h, k), omega (arith, n, m))

-- The test that the walk makes, in numbers: true, or false.
below : (d b e c : ℕ) → ltb d e || (eqb d e && ltb b c) ≡ true → Low d b e c
below d b e c h = go (ltb d e) (eqb d e) refl refl h
  where
    go : (x y : Bool) → ltb d e ≡ x → eqb d e ≡ y → x || (y && ltb b c) ≡ true → Low d b e c
    go true y p q h = inl (ltb-true d e p)
    go false true p q h = inr (eqb-true d e q, let k = ltb-true b c h in omega (arith, k))
    go false false p q h = absurd (false≢true h)

not_below : (d b e c : ℕ) → ltb d e || (eqb d e && ltb b c) ≡ false → Low e c d b
not_below d b e c h = go (ltb d e) (eqb d e) refl refl h
  where
    go : (x y : Bool) → ltb d e ≡ x → eqb d e ≡ y → x || (y && ltb b c) ≡ false → Low e c d b
    go true y p q h = absurd (true≢false h)
    go false true p q h = inr (sym (eqb-true d e q), ltb-false b c h)
    go false false p q h = inl (let k = ltb-false d e p in let n = eqb-false d e q in omega (arith, k, n))

-- ---- The walk
module _ (c : ℕ) where
  abbrev far : Reservation → ℕ
  far r = distance c (range_of r)

  no_farther_trans : (r s t : Reservation) → NoFarther c r s → NoFarther c s t → NoFarther c r t
  no_farther_trans r s t = low_trans (far r) r.base (far s) s.base (far t) t.base

  no_farther_self : (r s : Reservation) → s ≡ r → NoFarther c r s
  no_farther_self r s e = subst (NoFarther c r) (sym e) (inr (refl, omega arith))

  -- The one that is kept is one of the two, and no farther than either.
  kept_in : (b : Bool) (r best : Reservation) (l : List Reservation) (x : Reservation) → In x (pick b r best ∷ l) → In x (best ∷ (r ∷ l))
  kept_in true r best l x (inl i) = inr (inl i)
  kept_in false r best l x (inl i) = inl i
  kept_in true r best l x (inr i) = inr (inr i)
  kept_in false r best l x (inr i) = inr (inr i)

  kept_low : (b : Bool) (r best : Reservation) → nearer c r best ≡ b → NoFarther c (pick b r best) r × NoFarther c (pick b r best) best
  kept_low true r best e = (no_farther_self r r refl, below (far r) r.base (far best) best.base e)
  kept_low false r best e = (not_below (far r) r.base (far best) best.base e, no_farther_self best best refl)

  nearest_in : (best : Reservation) (l : List Reservation) → In (nearest c best l) (best ∷ l)
  unfolding nearest
  nearest_in best [] = inl refl
  nearest_in best (r ∷ l) = kept_in (nearer c r best) r best l (nearest c (pick (nearer c r best) r best) l) (nearest_in (pick (nearer c r best) r best) l)

  -- What is no farther than the kept one, and than the others, is no farther than any.
  low_all : (last kept best r : Reservation) (l : List Reservation) (q : Reservation) → NoFarther c last kept → NoFarther c kept r × NoFarther c kept best
      → (In q l → NoFarther c last q) → In q (best ∷ (r ∷ l)) → NoFarther c last q
  low_all last kept best r l q h k rest (inl i) = no_farther_trans last kept q h (subst (NoFarther c kept) (sym i) k.1)
  low_all last kept best r l q h k rest (inr (inl i)) = no_farther_trans last kept q h (subst (NoFarther c kept) (sym i) k.0)
  low_all last kept best r l q h k rest (inr (inr i)) = rest i

  nearest_low : (best : Reservation) (l : List Reservation) (q : Reservation) → In q (best ∷ l) → NoFarther c (nearest c best l) q
  unfolding nearest
  nearest_low best [] q (inl i) = no_farther_self best q i
  nearest_low best [] q (inr i) = absurd i
  nearest_low best (r ∷ l) q i =
      let kept = pick (nearer c r best) r best in
      low_all (nearest c kept l) kept best r l q (nearest_low kept l kept (inl refl)) (kept_low (nearer c r best) r best refl) (λ j. nearest_low kept l q (inr j)) i

-- ---- The promises
-- An answer with code 0 is what was found.
granted_found : (l : List Reservation) (c n : ℕ) (bases : List ℕ) (a : Answer) → (ask_of l (Nearest c n) bases).answer ≡ a → a.code ≡ 0 → found c (filter (candidate n) l) ≡ a
unfolding ask_of granted_answer
granted_found l c n bases a e z = go (is_refused l (Nearest c n) (length bases)) e
  where
    go : (b : Bool) → (pick b (response (answer 25 0 0) bases) (response (found c (filter (candidate n) l)) bases)).answer ≡ a → found c (filter (candidate n) l) ≡ a
    go true e = absurd (omega (arith, ap (λ (x : Answer). x.code) e, z))
    go false e = e

-- What is found of candidates is the nearest of them, and nothing only of none.
found_least : (c b : ℕ) (l : List Reservation) → found c l ≡ answer 0 1 b → (r : Reservation) × (In r l × ((r.base ≡ b) × ((q : Reservation) → In q l → NoFarther c r q)))
unfolding found
found_least c b [] e = absurd (omega (arith, ap (λ (x : Answer). x.count) e))
found_least c b (r ∷ l) e = (nearest c r l, (nearest_in c r l, (ap (λ (x : Answer). x.base) e, nearest_low c r l)))

found_none : (c : ℕ) (l : List Reservation) → found c l ≡ answer 0 0 0 → (r : Reservation) → In r l → ⊥
unfolding found
found_none c [] e r i = i
found_none c (x ∷ l) e r i = omega (arith, ap (λ (y : Answer). y.count) e)

pub nearest_is_least : NearestIsLeast
nearest_is_least l c n b bases e =
    let (r, (i, (h, low))) = found_least c b (filter (candidate n) l) (granted_found l c n bases (answer 0 1 b) e refl) in
    let (k, open-one) = from_filter (candidate n) l r i in
    (r, (k, (open-one, (h, λ q j g. low q (in_filter (candidate n) l q j g)))))

pub none_only_if_none : NoneOnlyIfNone
none_only_if_none l c n bases e r i =
    is_false (candidate n r) (λ g. found_none c (filter (candidate n) l) (granted_found l c n bases (answer 0 0 0) e refl) r (in_filter (candidate n) l r i g))
