-- One count of one principal changed, and with it the unspent part of the principal's limit: what a claim and a release do. Assumes nothing.
use Prim.Native.Nat.{ℕ, zero, suc, ◌+◌, ◌<◌}
use native.Mathlib.Omega.{arith}
use mathlib.Core.Bool.{Bool, true, false}
use mathlib.Core.List.{List, [], ◌∷◌}
use mathlib.Core.Path.{◌≡◌, refl, sym, ap, ◌∙◌}
use lib.ListN.{length, get_or, set}
use lib.Seq.{get_or-set_same, get_or-set_other, set-set, set-get_or}
use Rattle.capabilities.specs.Lists.{pick}
use Rattle.claims.specs.Claims.{Claims, claims, nobody, principal_at, unspent, counts_of, count_of, limit_of, one}
use Rattle.claims.specs.Claims.{with_principal, with_counts, with_unspent, leaving}
use Rattle.claims.specs.Operations.{with_count}
use Rattle.claims.proofs.Counting.{above_set}
use Rattle.claims.proofs.Entries.{one_or_other, put_same, put_other, put_length, counted_other, counted_length, limit_by}
use Rattle.claims.proofs.Unspent.{SameTree}

-- An entry put in place of one that f cannot tell from it: no entry is another to f.
get_d_set_alike : {A B : Type 0} (f : A → B) (l : List A) (i j : ℕ) (x d : A) → f x ≡ f (get_or l i d) → f (get_or (set l i x) j d) ≡ f (get_or l j d)
get_d_set_alike f [] i j x d e = refl
get_d_set_alike f (y ∷ l) zero zero x d e = e
get_d_set_alike f (y ∷ l) zero (suc j) x d e = refl
get_d_set_alike f (y ∷ l) (suc i) zero x d e = refl
get_d_set_alike f (y ∷ l) (suc i) (suc j) x d e = get_d_set_alike f l i j x d e

-- A number in one of some lists: past the last list there is nothing to change.
get_d_set_in : (ls : List (List ℕ)) (p k n : ℕ) → get_or (set ls p (set (get_or ls p []) k n)) p [] ≡ set (get_or ls p []) k n
get_d_set_in [] p k n = refl
get_d_set_in (l ∷ ls) zero k n = refl
get_d_set_in (l ∷ ls) (suc p) k n = get_d_set_in ls p k n

-- The principal has u unspent and counts the page n times.
unfoldable pub changed : Claims → ℕ → ℕ → ℕ → ℕ → Claims
changed c p page u n = with_count (with_unspent c p u) p page n

module _ (c : Claims) (p page u n : ℕ) where
  pub changed_tree : SameTree c (changed c p page u n)
  unfolding changed with_principal with_counts principal_at
  changed_tree q = get_d_set_alike (λ x. leaving x 0) c.principals p q (leaving (principal_at c p) u) nobody refl

  pub changed_principals : length (changed c p page u n).principals ≡ length c.principals
  unfolding changed with_counts
  changed_principals = put_length c p (leaving (principal_at c p) u)

  pub changed_lists : length (changed c p page u n).counts ≡ length c.counts
  unfolding changed with_principal counts_of
  changed_lists = counted_length (with_unspent c p u) p (set (counts_of c p) page n)

  -- The principal itself, and any other.
  pub changed_it : p < length c.principals → principal_at (changed c p page u n) p ≡ leaving (principal_at c p) u
  unfolding changed with_counts principal_at
  changed_it h = put_same c p (leaving (principal_at c p) u) h

  pub changed_else : (q : ℕ) → (q ≡ p → ⊥) → principal_at (changed c p page u n) q ≡ principal_at c q
  unfolding changed with_counts principal_at
  changed_else q h = put_other c p (leaving (principal_at c p) u) q h

  pub changed_counts : counts_of (changed c p page u n) p ≡ set (counts_of c p) page n
  unfolding changed with_principal with_counts counts_of
  changed_counts = get_d_set_in c.counts p page n

  pub changed_counts_else : (q : ℕ) → (q ≡ p → ⊥) → counts_of (changed c p page u n) q ≡ counts_of c q
  unfolding changed with_principal counts_of
  changed_counts_else q h = counted_other (with_unspent c p u) p (set (counts_of c p) page n) q h

  pub changed_count : page < length (counts_of c p) → count_of (changed c p page u n) p page ≡ n
  changed_count h = ap (λ l. get_or l page 0) changed_counts ∙ get_or-set_same (counts_of c p) page n 0 h

  pub changed_count_else : (q k : ℕ) → ((q ≡ p) × (k ≡ page) → ⊥) → count_of (changed c p page u n) q k ≡ count_of c q k
  changed_count_else q k h =
      one_or_other (λ j. ((j ≡ p) × (k ≡ page) → ⊥) → count_of (changed c p page u n) j k ≡ count_of c j k) p
      (λ x. ap (λ l. get_or l k 0) changed_counts ∙ get_or-set_other (counts_of c p) page k n 0 (λ y. x (refl, y)))
      (λ j w x. ap (λ l. get_or l k 0) (changed_counts_else j w))
      q h

  -- What is spent and unspent together is what it was, of every principal, if the change spends what it takes.
  pub changed_limit :
      p < length c.principals → page < length (counts_of c p) → one n + u ≡ one (count_of c p page) + unspent c p
      → (q : ℕ) → limit_of (changed c p page u n) q ≡ limit_of c q
  changed_limit h k e =
      one_or_other (λ q. limit_of (changed c p page u n) q ≡ limit_of c q) p
      (let a = above_set (counts_of c p) page n k in
      let l = limit_by (changed c p page u n) p (set (counts_of c p) page n) (leaving (principal_at c p) u) changed_counts (changed_it h) in
      omega (arith, a, l, e))
      (λ q w. limit_by (changed c p page u n) q (counts_of c q) (principal_at c q) (changed_counts_else q w) (changed_else q w))

  -- Changed again: only the last change shows.
  pub changed_twice : (w m : ℕ) → changed (changed c p page u n) p page w m ≡ changed c p page w m
  unfolding changed with_principal with_counts principal_at counts_of
  changed_twice w m =
      let it = leaving (principal_at c p) u in
      λ i. claims
      ((set-set c.principals p it _ ∙ ap (set c.principals p) (get_d_set_alike (λ x. leaving x w) c.principals p p it nobody refl)) i)
      ((set-set c.counts p (set (counts_of c p) page n) _
      ∙ ap (set c.counts p) (ap (λ l. set l page m) (get_d_set_in c.counts p page n) ∙ set-set (counts_of c p) page n m)) i)

-- Changed to what it was.
pub changed_back : (c : Claims) (p page : ℕ) → changed c p page (unspent c p) (count_of c p page) ≡ c
unfolding changed with_principal with_counts principal_at counts_of
changed_back c p page =
    λ i. claims (set-get_or c.principals p nobody i) ((ap (set c.counts p) (set-get_or (counts_of c p) page 0) ∙ set-get_or c.counts p []) i)

-- A change that leaves what is unspent alone unless a test holds.
pub changed_if :
    (c : Claims) (p page u n : ℕ) (b : Bool)
    → with_count (pick b (with_unspent c p u) c) p page n ≡ changed c p page (pick b u (unspent c p)) n
unfolding changed with_principal principal_at
changed_if c p page u n true = refl
changed_if c p page u n false = ap (λ l. with_count (claims l c.counts) p page n) (sym (set-get_or c.principals p nobody))
