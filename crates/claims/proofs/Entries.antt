-- The entries of claims: what one reads once a principal or its counts are put in, and claims by their entries. Assumes nothing.
use Prim.Native.Nat.{ℕ, ◌+◌, ◌<◌}
use mathlib.Core.Bool.{Bool, true, false}
use mathlib.Core.List.{List, []}
use mathlib.Core.Path.{◌≡◌, refl, sym, ap, subst, ◌∙◌}
use lib.ListN.{length, length-set}
use lib.Seq.{get_or-set_same, get_or-set_other, ext_get_or}
use lib.Dec.{eqb}
use borrow.Author.Tests.{eqb-true, eqb-false}
use Rattle.claims.specs.declared.Principal.{Principal}
use Rattle.claims.specs.Claims.{Claims, claims, nobody, principal_at, counts_of, above, limit_of, with_principal, with_counts}

-- What holds of one number, and of every other, holds of all.
pub one_or_other : (P : ℕ → Type 0) (p : ℕ) → P p → ((q : ℕ) → (q ≡ p → ⊥) → P q) → (q : ℕ) → P q
one_or_other P p own other q = go (eqb q p) refl
  where
    go : (b : Bool) → eqb q p ≡ b → P q
    go true e = subst P (sym (eqb-true q p e)) own
    go false e = other q (eqb-false q p e)

module _ (c : Claims) (p : ℕ) where
  pub put_same : (q : Principal) → p < length c.principals → principal_at (with_principal c p q) p ≡ q
  unfolding principal_at with_principal
  put_same q h = get_or-set_same c.principals p q nobody h

  pub put_other : (q : Principal) (r : ℕ) → (r ≡ p → ⊥) → principal_at (with_principal c p q) r ≡ principal_at c r
  unfolding principal_at with_principal
  put_other q r d = get_or-set_other c.principals p r q nobody d

  pub put_counts : (q : Principal) (r : ℕ) → counts_of (with_principal c p q) r ≡ counts_of c r
  unfolding counts_of with_principal
  put_counts q r = refl

  pub counted_same : (l : List ℕ) → p < length c.counts → counts_of (with_counts c p l) p ≡ l
  unfolding counts_of with_counts
  counted_same l h = get_or-set_same c.counts p l [] h

  pub counted_other : (l : List ℕ) (r : ℕ) → (r ≡ p → ⊥) → counts_of (with_counts c p l) r ≡ counts_of c r
  unfolding counts_of with_counts
  counted_other l r d = get_or-set_other c.counts p r l [] d

  pub counted_principals : (l : List ℕ) (r : ℕ) → principal_at (with_counts c p l) r ≡ principal_at c r
  unfolding principal_at with_counts
  counted_principals l r = refl

  -- As many entries as before.
  pub put_length : (q : Principal) → length (with_principal c p q).principals ≡ length c.principals
  unfolding with_principal
  put_length q = length-set c.principals p q

  pub put_counts_length : (q : Principal) → length (with_principal c p q).counts ≡ length c.counts
  unfolding with_principal
  put_counts_length q = refl

  pub counted_length : (l : List ℕ) → length (with_counts c p l).counts ≡ length c.counts
  unfolding with_counts
  counted_length l = length-set c.counts p l

  pub counted_principals_length : (l : List ℕ) → length (with_counts c p l).principals ≡ length c.principals
  unfolding with_counts
  counted_principals_length l = refl

-- A principal's limit by its entries.
pub limit_by : (c : Claims) (q : ℕ) (l : List ℕ) (x : Principal) → counts_of c q ≡ l → principal_at c q ≡ x → limit_of c q ≡ above l + x.unspent
limit_by c q l x e f = λ i. above (e i) + (f i).unspent

-- Claims with the same entries are the same.
pub same_claims :
    (c d : Claims) → length c.principals ≡ length d.principals → length c.counts ≡ length d.counts
    → ((q : ℕ) → q < length c.principals → principal_at c q ≡ principal_at d q) → ((q : ℕ) → q < length c.counts → counts_of c q ≡ counts_of d q) → c ≡ d
unfolding principal_at counts_of
same_claims c d m n e f =
    ap (λ l. claims l c.counts) (ext_get_or nobody c.principals d.principals m e)
    ∙ ap (claims d.principals) (ext_get_or [] c.counts d.counts n f)
