-- The test of descent finds what leads up by parents, all of it in well-formed claims, where nobody is above itself. Assumes nothing.
use Prim.Native.Nat.{ℕ, zero, suc, ◌-◌, ◌<◌, ◌≤◌}
use native.Mathlib.Omega.{arith}
use mathlib.Core.Bool.{Bool, true, false, ◌||◌, or-true}
use mathlib.Core.Path.{◌≡◌, refl, sym, ap, subst, ◌∙◌}
use lib.Dec.{eqb, leb}
use borrow.Author.Tests.{eqb-true, eqb-false, eq-eqb, ne_eqb, leb-true, leb-false}
use Rattle.capabilities.proofs.Choice.{is_false}
use Rattle.claims.specs.Claims.{Claims, in_being, parent_of}
use Rattle.claims.specs.Tree.{LeadsUp, itself, by_parent, leads_within, leads_up}
use Rattle.claims.specs.Sound.{claims_sound}
use Rattle.claims.proofs.Climbing.{climb, climb_zero, climb_on, no_return}
use Rattle.claims.proofs.Principals.{being_at, root_parent}

-- So many parents up.
abbrev pub ancestor : Claims → ℕ → ℕ → ℕ
ancestor c n p = climb (λ q. parent_of c q) n p

module _ (c : Claims) (top : ℕ) where
  pub within_ancestor : (n p : ℕ) → leads_within n c top p ≡ true → (m : ℕ) × (m ≤ n) × (ancestor c m p ≡ top)
  unfolding leads_within climb
  within_ancestor zero p e = (0, omega arith, eqb-true p top e)
  within_ancestor (suc n) p e = go (eqb p top) refl (within_ancestor n (parent_of c p))
    where
      go :
          (b : Bool) → eqb p top ≡ b → (leads_within n c top (parent_of c p) ≡ true → (m : ℕ) × (m ≤ n) × (ancestor c m (parent_of c p) ≡ top))
          → (m : ℕ) × (m ≤ suc n) × (ancestor c m p ≡ top)
      go true q rest = (0, omega arith, eqb-true p top q)
      go false q rest = let r = rest (rw q at e) in (suc r.0, omega (arith, r.1), r.2)

  pub ancestor_within : (n m p : ℕ) → m ≤ n → ancestor c m p ≡ top → leads_within n c top p ≡ true
  unfolding leads_within climb
  ancestor_within zero zero p h e = eq-eqb p top e
  ancestor_within zero (suc m) p h e = let z : ⊥ = omega arith in absurd z
  ancestor_within (suc n) zero p h e = rw (eq-eqb p top e) refl
  ancestor_within (suc n) (suc m) p h e = rw (ancestor_within n m (parent_of c p) (omega arith) e) (or-true (eqb p top))

  -- The test, one parent after the other: it ends where it arrives, or at one that is its own parent.
  pub leads_there : (n p : ℕ) → p ≡ top → leads_within n c top p ≡ true
  unfolding climb
  leads_there n p e = ancestor_within n 0 p (omega arith) e

  pub leads_on : (n p : ℕ) → (p ≡ top → ⊥) → 0 < n → leads_within n c top p ≡ leads_within (n - 1) c top (parent_of c p)
  unfolding leads_within
  leads_on zero p e h = let z : ⊥ = omega arith in absurd z
  leads_on (suc n) p e h = let s : suc n - 1 ≡ n = omega arith in rw (ne_eqb p top e, s)

  pub leads_nowhere : (n p : ℕ) → (p ≡ top → ⊥) → parent_of c p ≡ p → leads_within n c top p ≡ false
  unfolding leads_within
  leads_nowhere zero p e q = ne_eqb p top e
  leads_nowhere (suc n) p e q = rw (ne_eqb p top e, q) (leads_nowhere n p e q)

  ancestor_leads : (m p : ℕ) → ancestor c m p ≡ top → LeadsUp c top p
  unfolding climb
  ancestor_leads zero p e = subst (λ q. LeadsUp c top q) (sym e) itself
  ancestor_leads (suc m) p e = by_parent p (ancestor_leads m (parent_of c p) e)

  leads_ancestor : (p : ℕ) → LeadsUp c top p → (m : ℕ) × (ancestor c m p ≡ top)
  unfolding climb
  leads_ancestor p itself = (0, refl)
  leads_ancestor p (by_parent q l) = let r = leads_ancestor (parent_of c q) l in (suc r.0, r.1)

-- Where parents are the same for all that they lead to, the test finds the same.
pub leads_same :
    (c d : Claims) (P : ℕ → Type 0) → ((q : ℕ) → P q → P (parent_of c q)) → ((q : ℕ) → P q → parent_of d q ≡ parent_of c q) → (n top p : ℕ) → P p
    → leads_within n d top p ≡ leads_within n c top p
unfolding leads_within
leads_same c d P step same zero top p h = refl
leads_same c d P step same (suc n) top p h =
    ap (λ q. eqb p top || leads_within n d top q) (same p h) ∙ ap (λ b. eqb p top || b) (leads_same c d P step same n top (parent_of c p) (step p h))

-- Where no other has it as parent, the test finds it alone.
pub leads_itself : (c : Claims) (top : ℕ) → ((q : ℕ) → (q ≡ top → ⊥) → parent_of c q ≡ top → ⊥) → (n p : ℕ) → leads_within n c top p ≡ eqb p top
unfolding leads_within
leads_itself c top alone zero p = refl
leads_itself c top alone (suc n) p = go (eqb p top) refl (leads_itself c top alone n (parent_of c p))
  where
    go : (b : Bool) → eqb p top ≡ b → leads_within n c top (parent_of c p) ≡ eqb (parent_of c p) top → (b || leads_within n c top (parent_of c p)) ≡ b
    go true q rest = refl
    go false q rest = rest ∙ ne_eqb (parent_of c p) top (alone p (eqb-false p top q))

-- The test finds no more than the relation.
pub leads_back : (c : Claims) (top p : ℕ) → leads_up c top p ≡ true → LeadsUp c top p
leads_back c top p e = let r = within_ancestor c top 31 p e in ancestor_leads c top r.0 p r.2

module _ (v : ℕ) (c : Claims) (s : claims_sound v c ≡ true) where
  -- One in being is at 0 after at most 31 parents, and stays there.
  reaches_root : (p : ℕ) → in_being c p ≡ true → (m : ℕ) × (m ≤ 31) × (ancestor c m p ≡ 0)
  reaches_root p e = within_ancestor c 0 31 p (being_at v c s p e).reaches

  -- In well-formed claims the test finds no less: whatever parents lead to, they lead to before they come to 0, or it is 0.
  pub leads_up_lem : (top p : ℕ) → in_being c p ≡ true → LeadsUp c top p → leads_up c top p ≡ true
  leads_up_lem top p e l = let n = leads_ancestor c top p l in let m = reaches_root p e in go n.0 n.1 m.0 m.1 m.2 (leb n.0 m.0) refl
    where
      go : (n : ℕ) → ancestor c n p ≡ top → (m : ℕ) → m ≤ 31 → ancestor c m p ≡ 0 → (b : Bool) → leb n m ≡ b → leads_up c top p ≡ true
      go n there m h root true q = ancestor_within c top 31 n p (omega (arith, h, leb-true n m q)) there
      go n there m h root false q =
          let past = climb_on (λ x. parent_of c x) (root_parent v c s) m n p (omega (arith, leb-false n m q)) root in
          ancestor_within c top 31 m p h (root ∙ sym past ∙ there)

  pub leads_through : (top q p : ℕ) → in_being c p ≡ true → leads_up c q p ≡ true → leads_up c top q ≡ true → leads_up c top p ≡ true
  leads_through top q p e a b = leads_up_lem top p e (through p (leads_back c q p a))
    where
      through : (p : ℕ) → LeadsUp c q p → LeadsUp c top p
      through p itself = leads_back c top q b
      through p (by_parent r l) = by_parent r (through (parent_of c r) l)

  -- The parent of a principal other than 0 is not below it.
  pub parent_not_below : (p : ℕ) → in_being c p ≡ true → (p ≡ 0 → ⊥) → leads_up c p (parent_of c p) ≡ false
  unfolding climb
  parent_not_below p e d =
      is_false (leads_up c p (parent_of c p)) (λ t.
      let m = reaches_root p e in
      let k = within_ancestor c p 31 (parent_of c p) t in
      no_return (λ q. parent_of c q) (root_parent v c s) m.0 p m.2 d k.0 k.2)

  -- Principal 0 is below none but itself.
  pub root_not_below : (top : ℕ) → (top ≡ 0 → ⊥) → leads_up c top 0 ≡ false
  root_not_below top d =
      is_false (leads_up c top 0) (λ t.
      let m = within_ancestor c top 31 0 t in
      d (sym m.2 ∙ climb_zero (λ q. parent_of c q) (root_parent v c s) m.0))
