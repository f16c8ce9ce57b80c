-- Laws of lists put together, filtered and mapped. Assumes nothing.
use mathlib.Core.Bool.{Bool, true, false}
use mathlib.Core.Logic.{inl, inr}
use mathlib.Core.List.{List, [], ◌∷◌, ◌++◌, map, map-append, flatten, append_assoc}
use mathlib.Core.Path.{◌≡◌, refl, sym, ◌∙◌, ap}
use Rattle.capabilities.specs.Lists.{pick, In, filter}

module _ {A : Type 0} where
  pub flatten_append : (ls ms : List (List A)) → flatten (ls ++ ms) ≡ flatten ls ++ flatten ms
  unfolding flatten
  flatten_append [] ms = refl
  flatten_append (l ∷ ls) ms = ap (λ m. l ++ m) (flatten_append ls ms) ∙ sym (append_assoc l (flatten ls) (flatten ms))

  pub filter_append : (P : A → Bool) (l m : List A) → filter P (l ++ m) ≡ filter P l ++ filter P m
  unfolding filter
  filter_append P [] m = refl
  filter_append P (x ∷ l) m = go (P x) (filter_append P l m) where
    go : (b : Bool) → filter P (l ++ m) ≡ filter P l ++ filter P m
        → pick b (x ∷ filter P (l ++ m)) (filter P (l ++ m)) ≡ pick b (x ∷ filter P l) (filter P l) ++ filter P m
    go true e = ap (λ t. x ∷ t) e
    go false e = e

  pub filter_flatten : (P : A → Bool) (ls : List (List A)) → filter P (flatten ls) ≡ flatten (map (filter P) ls)
  unfolding flatten filter
  filter_flatten P [] = refl
  filter_flatten P (l ∷ ls) = filter_append P l (flatten ls) ∙ ap (λ m. filter P l ++ m) (filter_flatten P ls)

  pub filter_none : (P : A → Bool) (l : List A) → ((x : A) → P x ≡ false) → filter P l ≡ []
  unfolding filter
  filter_none P [] h = refl
  filter_none P (x ∷ l) h = ap (λ b. pick b (x ∷ filter P l) (filter P l)) (h x) ∙ filter_none P l h

  -- Tests that agree on what stands there.
  pub filter_agrees : (P Q : A → Bool) (l : List A) → ((x : A) → In x l → P x ≡ Q x) → filter P l ≡ filter Q l
  unfolding filter
  filter_agrees P Q [] h = refl
  filter_agrees P Q (x ∷ l) h = λ i. let rest = filter_agrees P Q l (λ y j. h y (inr j)) in pick (h x (inl refl) i) (x ∷ rest i) (rest i)

module _ {A B : Type 0} where
  pub map_flatten : (f : A → B) (ls : List (List A)) → map f (flatten ls) ≡ flatten (map (map f) ls)
  unfolding flatten
  map_flatten f [] = refl
  map_flatten f (l ∷ ls) = map-append f l (flatten ls) ∙ ap (λ m. map f l ++ m) (map_flatten f ls)

  pub map_same : (f g : A → B) (l : List A) → ((x : A) → f x ≡ g x) → map f l ≡ map g l
  map_same f g [] h = refl
  map_same f g (x ∷ l) h = λ i. h x i ∷ map_same f g l h i

  pub filter_map : (P : B → Bool) (f : A → B) (l : List A) → filter P (map f l) ≡ map f (filter (λ x. P (f x)) l)
  unfolding filter
  filter_map P f [] = refl
  filter_map P f (x ∷ l) = go (P (f x)) (filter_map P f l) where
    go : (b : Bool) → filter P (map f l) ≡ map f (filter (λ x. P (f x)) l)
        → pick b (f x ∷ filter P (map f l)) (filter P (map f l)) ≡ map f (pick b (x ∷ filter (λ x. P (f x)) l) (filter (λ x. P (f x)) l))
    go true e = ap (λ t. f x ∷ t) e
    go false e = e

-- Parts put together twice over.
pub flatten_flatten : {A : Type 0} (lss : List (List (List A))) → flatten (flatten lss) ≡ flatten (map flatten lss)
unfolding flatten
flatten_flatten [] = refl
flatten_flatten (ls ∷ lss) = flatten_append ls (flatten lss) ∙ ap (λ m. flatten ls ++ m) (flatten_flatten lss)
