-- What stands among the choices of n entries of a list, and in which order. Assumes nothing.
use Prim.Native.Nat.{ℕ, zero, suc}
use mathlib.Core.Logic.{inl, inr}
use mathlib.Core.List.{List, [], ◌∷◌, map, flatten}
use mathlib.Core.Path.{◌≡◌, refl, sym, ◌∙◌, ap, subst}
use lib.ListN.{length, replicate}
use Rattle.capabilities.specs.Lists.{Every, In, Ordered}
use Rattle.capabilities.proofs.Members.{in_map, from_map, in_flatten, from_flatten, ordered_parts, ordered_map}
use Rattle.short_histories.specs.Listed.{choices}

module _ {A : Type 0} (l : List A) where
  -- Those that begin with x.
  abbrev first : ℕ → A → List (List A)
  first n x = map (λ h. x ∷ h) (choices (replicate n l))

  pub in_choices : (h : List A) → Every (λ x. In x l) h → In h (choices (replicate (length h) l))
  unfolding choices Every
  in_choices [] e = inl refl
  in_choices (x ∷ h) e =
      in_flatten (map (first (length h)) l) (first (length h) x) (x ∷ h)
      (in_map (first (length h)) l x e.0)
      (in_map (λ t. x ∷ t) (choices (replicate (length h) l)) h (in_choices h e.1))

  pub from_choices : (n : ℕ) (h : List A) → In h (choices (replicate n l)) → (length h ≡ n) × Every (λ x. In x l) h
  unfolding choices Every
  from_choices zero h (inl i) = (ap length i, subst (Every (λ x. In x l)) (sym i) tt)
  from_choices zero h (inr i) = absurd i
  from_choices (suc n) h i =
      let (block, (j, k)) = from_flatten (map (first n) l) h i in
      let (x, (p, e)) = from_map (first n) l block j in
      let (t, (q, is)) = from_map (λ t. x ∷ t) (choices (replicate n l)) h (subst (In h) (sym e) k) in
      let (len, all) = from_choices n t q in
      (sym (ap length is) ∙ ap suc len, subst (Every (λ x. In x l)) is (p, all))

-- An order of entries makes one of the choices: by a relation of lists that goes by their first entries, and where these are equal by
-- the rest.
module _ {A : Type 0} (R : A → A → Type 0) (S : List A → List A → Type 0)
    (apart : (x y : A) (g h : List A) → R x y → S (x ∷ g) (y ∷ h)) (after : (x : A) (g h : List A) → S g h → S (x ∷ g) (x ∷ h)) where
  module _ (rest : List (List A)) (o : Ordered S rest) where
    -- Those that begin with x and go on with one of the rest.
    abbrev begin : A → List (List A)
    begin x = map (λ h. x ∷ h) rest

    across : (x : A) (m : List A) → ((y : A) → In y m → R x y) → (g h : List A) → In g (begin x) → In h (flatten (map begin m)) → S g h
    across x m r g h i j =
        let (t, (p, is)) = from_map (λ t. x ∷ t) rest g i in
        let (block, (k, in_block)) = from_flatten (map begin m) h j in
        let (y, (q, e)) = from_map begin m block k in
        let (u, (s, is')) = from_map (λ t. y ∷ t) rest h (subst (In h) (sym e) in_block) in
        subst (λ v. S v h) is (subst (S (x ∷ t)) is' (apart x y t u (r y q)))

    blocks : (m : List A) → Ordered R m → Ordered S (flatten (map begin m))
    unfolding flatten
    blocks [] r = tt
    blocks (x ∷ m) r =
        ordered_parts S (begin x) (flatten (map begin m)) (ordered_map S S (λ t. x ∷ t) rest (λ g h i j s. after x g h s) o) (blocks m r.1)
        (across x m r.0)

  pub ordered_choices : (n : ℕ) (l : List A) → Ordered R l → Ordered S (choices (replicate n l))
  unfolding choices
  ordered_choices zero l r = ((λ y i. absurd i), tt)
  ordered_choices (suc n) l r = blocks (choices (replicate n l)) (ordered_choices n l r) l r
