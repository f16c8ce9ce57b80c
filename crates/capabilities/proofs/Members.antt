-- What stands in a list that is mapped, filtered or put together, and in which order. Assumes nothing.
use mathlib.Core.Bool.{Bool, true, false}
use mathlib.Core.Logic.{◌⊎◌, inl, inr, ⊎_elim}
use mathlib.Core.List.{List, [], ◌∷◌, ◌++◌, map, flatten}
use mathlib.Core.Path.{◌≡◌, refl, sym, ◌∙◌, ap, subst}
use Rattle.capabilities.specs.Lists.{pick, Every, In, Ordered, filter}
use Rattle.capabilities.proofs.Choice.{pick_yes}

-- ---- What stands there
module _ {A B : Type 0} (f : A → B) where
  pub in_map : (l : List A) (x : A) → In x l → In (f x) (map f l)
  in_map [] x i = absurd i
  in_map (y ∷ l) x (inl i) = inl (ap f i)
  in_map (y ∷ l) x (inr i) = inr (in_map l x i)

  pub from_map : (l : List A) (b : B) → In b (map f l) → (x : A) × (In x l × (f x ≡ b))
  from_map [] b i = absurd i
  from_map (y ∷ l) b (inl i) = (y, (inl refl, sym i))
  from_map (y ∷ l) b (inr i) = let (x, (j, e)) = from_map l b i in (x, (inr j, e))

module _ {A : Type 0} (P : A → Bool) where
  in_rest : (b : Bool) (x y : A) (l : List A) → In x l → In x (pick b (y ∷ l) l)
  in_rest true x y l i = inr i
  in_rest false x y l i = i

  pub in_filter : (l : List A) (x : A) → In x l → P x ≡ true → In x (filter P l)
  unfolding filter
  in_filter [] x i e = absurd i
  in_filter (y ∷ l) x (inl i) e = subst (In x) (sym (pick_yes (P y) (y ∷ filter P l) (filter P l) (sym (ap P i) ∙ e))) (inl i)
  in_filter (y ∷ l) x (inr i) e = in_rest (P y) x y (filter P l) (in_filter l x i e)

  from_first : (b : Bool) (x y : A) (l : List A) → P y ≡ b → In x (pick b (y ∷ l) l) → ((x ≡ y) × (P x ≡ true)) ⊎ In x l
  from_first true x y l e (inl i) = inl (i, ap P i ∙ e)
  from_first true x y l e (inr i) = inr i
  from_first false x y l e i = inr i

  pub from_filter : (l : List A) (x : A) → In x (filter P l) → In x l × (P x ≡ true)
  unfolding filter
  from_filter [] x i = absurd i
  from_filter (y ∷ l) x i =
      ⊎_elim (λ (first, e). (inl first, e)) (λ rest. let (k, e) = from_filter l x rest in (inr k, e)) (from_first (P y) x y (filter P l) refl i)

module _ {A : Type 0} where
  pub in_front : (l m : List A) (x : A) → In x l → In x (l ++ m)
  in_front [] m x i = absurd i
  in_front (y ∷ l) m x (inl i) = inl i
  in_front (y ∷ l) m x (inr i) = inr (in_front l m x i)

  pub in_back : (l m : List A) (x : A) → In x m → In x (l ++ m)
  in_back [] m x i = i
  in_back (y ∷ l) m x i = inr (in_back l m x i)

  pub from_parts : (l m : List A) (x : A) → In x (l ++ m) → In x l ⊎ In x m
  from_parts [] m x i = inr i
  from_parts (y ∷ l) m x (inl i) = inl (inl i)
  from_parts (y ∷ l) m x (inr i) = ⊎_elim (λ j. inl (inr j)) (λ j. inr j) (from_parts l m x i)

  pub in_flatten : (ls : List (List A)) (l : List A) (x : A) → In l ls → In x l → In x (flatten ls)
  unfolding flatten
  in_flatten [] l x i j = absurd i
  in_flatten (m ∷ ls) l x (inl i) j = in_front m (flatten ls) x (subst (In x) i j)
  in_flatten (m ∷ ls) l x (inr i) j = in_back m (flatten ls) x (in_flatten ls l x i j)

  pub from_flatten : (ls : List (List A)) (x : A) → In x (flatten ls) → (l : List A) × (In l ls × In x l)
  unfolding flatten
  from_flatten [] x i = absurd i
  from_flatten (m ∷ ls) x i =
      ⊎_elim (λ j. (m, (inl refl, j))) (λ j. let (l, (k, e)) = from_flatten ls x j in (l, (inr k, e))) (from_parts m (flatten ls) x i)

  pub of_every : (P : A → Type 0) (l : List A) (x : A) → Every P l → In x l → P x
  unfolding Every
  of_every P [] x e i = absurd i
  of_every P (y ∷ l) x e (inl i) = subst P (sym i) e.0
  of_every P (y ∷ l) x e (inr i) = of_every P l x e.1 i

-- ---- In which order
module _ {A : Type 0} (R : A → A → Type 0) where
  pub ordered_parts : (l m : List A) → Ordered R l → Ordered R m → ((x y : A) → In x l → In y m → R x y) → Ordered R (l ++ m)
  ordered_parts [] m p q h = q
  ordered_parts (x ∷ l) m p q h =
      ((λ y i. ⊎_elim (p.0 y) (h x y (inl refl)) (from_parts l m y i)), ordered_parts l m p.1 q (λ u v i j. h u v (inr i) j))

  pub ordered_filter : (P : A → Bool) (l : List A) → Ordered R l → Ordered R (filter P l)
  unfolding filter
  ordered_filter P [] p = tt
  ordered_filter P (x ∷ l) p = go (P x) (ordered_filter P l p.1) where
    go : (b : Bool) → Ordered R (filter P l) → Ordered R (pick b (x ∷ filter P l) (filter P l))
    go true q = ((λ y i. p.0 y (from_filter P l y i).0), q)
    go false q = q

-- An order of some things makes one of what they are mapped to.
pub ordered_map : {A B : Type 0} (R : A → A → Type 0) (S : B → B → Type 0) (f : A → B) (l : List A)
    → ((x y : A) → In x l → In y l → R x y → S (f x) (f y)) → Ordered R l → Ordered S (map f l)
ordered_map R S f [] h p = tt
ordered_map R S f (x ∷ l) h p = (
  (λ b i. let (y, (j, e)) = from_map f l b i in subst (S (f x)) e (h x y (inl refl) (inr j) (p.0 y j))),
  ordered_map R S f l (λ u v i j r. h u v (inr i) (inr j) r) p.1,
)
