-- Claims brought back to those of a fresh start: what destroys of the principals right below 0 leave, and what is left where principal 0 is
-- alone and counts nothing. Assumes nothing.
use Prim.Native.Nat.{ℕ, zero, suc, ◌+◌, ◌<◌, ◌≤◌}
use native.Mathlib.Omega.{arith}
use mathlib.Core.Bool.{Bool, true, false, not, ◌&&◌, true≢false}
use mathlib.Core.List.{[]}
use mathlib.Core.Path.{◌≡◌, refl, sym, ap, subst, ◌∙◌}
use borrow.Author.Tests.{eqb-true, eqb-false, eq-eqb, ne_eqb, not-true}
use lib.Dec.{eqb}
use lib.ListN.{get_or, replicate, length-replicate}
use lib.Seq.{ext_get_or}
use Rattle.capabilities.specs.Refusals.{first}
use Rattle.capabilities.proofs.Choice.{pick_no, and_left, and_right, both}
use Rattle.capabilities.proofs.Lists.{same_everywhere}
use Rattle.claims.specs.Claims.{Claims, principal, nobody, principal_at, in_being, holds, parent_of, unspent, counts_of, count_of, above, limit_of, claimed}
use Rattle.claims.specs.Tree.{LeadsUp, itself, by_parent, leads_up}
use Rattle.claims.specs.Operations.{destroy_reasons, destroy_of}
use Rattle.claims.specs.Sound.{claims_sound, fresh_claims}
use Rattle.claims.proofs.Facts.{facts}
use Rattle.claims.proofs.Sums.{sum_one}
use Rattle.claims.proofs.Climbing.{climb}
use Rattle.claims.proofs.Counting.{unclaimed}
use Rattle.claims.proofs.Principals.{being_at, being_below, nobody_at, none_at, counted_at, root_held, root_being, root_parent, parent_being}
use Rattle.claims.proofs.Entries.{same_claims}
use Rattle.claims.proofs.Unspent.{but_being, but_parent}
use Rattle.claims.proofs.Descent.{ancestor, within_ancestor, leads_back, leads_up_lem, root_not_below}
use Rattle.claims.proofs.Destroyed.{destroy_but, destroy_gone}
use Rattle.claims.proofs.Emptying.{Alone}
use Rattle.claims.proofs.KeptCounts.{fresh_sound}
use Rattle.histories.specs.Restoring.{top_at}

-- A principal right below 0.
record Top (c : Claims) (p : ℕ) : Type 0 where
  being : in_being c p ≡ true
  under : p ≡ 0 → ⊥
  parent : parent_of c p ≡ 0

top_facts : (c : Claims) (p : ℕ) → top_at c p ≡ true → Top c p
top_facts c p e =
    let rest = not (eqb p 0) && eqb (parent_of c p) 0 in
    let r = and_right (in_being c p) rest e in
    record {
      being = and_left (in_being c p) rest e;
      under = eqb-false p 0 (not-true (eqb p 0) (and_left (not (eqb p 0)) (eqb (parent_of c p) 0) r));
      parent = eqb-true (parent_of c p) 0 (and_right (not (eqb p 0)) (eqb (parent_of c p) 0) r);
    }

top_test : (c : Claims) (p : ℕ) → Top c p → top_at c p ≡ true
top_test c p t =
    both (in_being c p) (not (eqb p 0) && eqb (parent_of c p) 0) t.being
    (both (not (eqb p 0)) (eqb (parent_of c p) 0) (ap not (ne_eqb p 0 t.under)) (eq-eqb (parent_of c p) 0 t.parent))

module _ (v : ℕ) (c : Claims) (s : claims_sound v c ≡ true) where
  -- It has a number below 32.
  pub top_low : (p : ℕ) → 32 ≤ p → top_at c p ≡ false
  top_low p h = go (top_at c p) refl
    where
      go : (b : Bool) → top_at c p ≡ b → top_at c p ≡ false
      go true e = let l = being_below v c s p (top_facts c p e).being in let z : ⊥ = omega (arith, l, h) in absurd z
      go false e = e

  module _ (p : ℕ) (e : top_at c p ≡ true) where
    -- Party 0 can destroy it.
    pub top_clear : first (destroy_reasons c 0 p) ≡ 0
    unfolding destroy_reasons first
    top_clear =
        let t = top_facts c p e in
        let rest = not (eqb p 0) && holds c 0 (parent_of c p) in
        pick_no {A = ℕ} (not (in_being c p && rest)) 20 0
        (ap not
        (both (in_being c p) rest t.being
        (both (not (eqb p 0)) (holds c 0 (parent_of c p)) (ap not (ne_eqb p 0 t.under)) (ap (λ q. holds c 0 q) t.parent ∙ root_held v c s))))

    -- It is gone then, and the others right below 0 are there, since parents do not lead from them to it.
    pub top_gone : top_at (destroy_of c p) p ≡ false
    top_gone =
        ap (λ x. x.being && (not (eqb p 0) && eqb x.parent 0))
        (destroy_gone v c s 0 p top_clear p (leads_up_lem v c s p p (top_facts c p e).being itself))

    not_under : (q : ℕ) → (q ≡ p → ⊥) → top_at c q ≡ true → LeadsUp c p q → ⊥
    not_under q other t itself = other refl
    not_under q other t (by_parent r l) =
        let up = subst (LeadsUp c p) (top_facts c q t).parent l in
        true≢false (sym (leads_up_lem v c s p 0 (root_being v c s) up) ∙ root_not_below v c s p (top_facts c p e).under)

    pub top_others : (q : ℕ) → (q ≡ p → ⊥) → top_at (destroy_of c p) q ≡ top_at c q
    top_others q other = go (leads_up c p q) refl (top_at c q) refl
      where
        go : (b : Bool) → leads_up c p q ≡ b → (d : Bool) → top_at c q ≡ d → top_at (destroy_of c p) q ≡ top_at c q
        go true l true t = absurd (not_under q other t (leads_back c p q l))
        go true l false t = ap (λ x. x.being && (not (eqb q 0) && eqb x.parent 0)) (destroy_gone v c s 0 p top_clear q l) ∙ sym t
        go false l d t =
            let b = destroy_but v c s 0 p top_clear q l in
            λ i. but_being c (destroy_of c p) q b i && (not (eqb q 0) && eqb (but_parent c (destroy_of c p) q b i) 0)

  -- Parents lead up to 0 through one right below it: where there is none, 0 is alone.
  module _ (none : (q : ℕ) → top_at c q ≡ false) where
    no_way : (n q : ℕ) → in_being c q ≡ true → (q ≡ 0 → ⊥) → ancestor c n q ≡ 0 → ⊥
    unfolding climb
    no_way zero q b other e = other e
    no_way (suc n) q b other e = go (eqb (parent_of c q) 0) refl (no_way n (parent_of c q))
      where
        go : (x : Bool) → eqb (parent_of c q) 0 ≡ x → (in_being c (parent_of c q) ≡ true → (parent_of c q ≡ 0 → ⊥) → ancestor c n (parent_of c q) ≡ 0 → ⊥) → ⊥
        go true x up = true≢false (sym (top_test c q (record { being = b; under = other; parent = eqb-true (parent_of c q) 0 x })) ∙ none q)
        go false x up = up (parent_being v c s q) (eqb-false (parent_of c q) 0 x) e

    pub alone : Alone c
    alone q other = go (in_being c q) refl
      where
        go : (b : Bool) → in_being c q ≡ b → in_being c q ≡ false
        go true e = let m = within_ancestor c 0 31 q (being_at v c s q e).reaches in absurd (no_way m.0 q e other m.2)
        go false e = e

-- In fresh claims principal 0 is alone and counts nothing.
fresh_principal : (q : ℕ) → principal_at (fresh_claims true) (suc q) ≡ nobody
unfolding principal_at fresh_claims
fresh_principal q = same_everywhere 31 q nobody

fresh_none : (q : ℕ) → counts_of (fresh_claims true) (suc q) ≡ []
unfolding counts_of fresh_claims
fresh_none q = same_everywhere 31 q []

fresh_root : principal_at (fresh_claims true) 0 ≡ principal true 0 0 8192
unfolding principal_at fresh_claims
fresh_root = refl

fresh_zeros : counts_of (fresh_claims true) 0 ≡ replicate 256 0
unfolding counts_of fresh_claims
fresh_zeros = refl

pub fresh_uncounted : (q k : ℕ) → count_of (fresh_claims true) q k ≡ 0
fresh_uncounted zero k = ap (λ l. get_or l k 0) fresh_zeros ∙ same_everywhere {A = ℕ} 256 k 0
fresh_uncounted (suc q) k = ap (λ l. get_or l k 0) (fresh_none q)

pub fresh_unclaimed : (k : ℕ) → claimed (fresh_claims true) k ≡ false
fresh_unclaimed k = unclaimed (fresh_claims true) k (λ q. fresh_uncounted q k)

-- Well-formed claims of which that is so are the fresh ones: all limit is principal 0's, unspent.
module _ (v : ℕ) (c : Claims) (s : claims_sound v c ≡ true) (a : Alone c) (none : (k : ℕ) → count_of c 0 k ≡ 0) where
  abbrev new : Claims
  new = fresh_claims true

  not_in : (q : ℕ) → in_being c (suc q) ≡ false
  not_in q = a (suc q) (λ z. let x : ⊥ = omega arith in x)

  zeros : counts_of c 0 ≡ replicate 256 0
  zeros =
      ext_get_or 0 (counts_of c 0) (replicate 256 0) ((counted_at v c s 0 (root_being v c s)).long ∙ sym (length-replicate {A = ℕ} 256 0))
      (λ k h. none k ∙ sym (same_everywhere {A = ℕ} 256 k 0))

  counts_same : (q : ℕ) → counts_of c q ≡ counts_of new q
  counts_same zero = zeros ∙ sym fresh_zeros
  counts_same (suc q) = none_at v c s (suc q) (not_in q) ∙ sym (fresh_none q)

  others_same : (q : ℕ) → principal_at c (suc q) ≡ principal_at new (suc q)
  others_same q = nobody_at v c s (suc q) (not_in q) ∙ sym (fresh_principal q)

  limits_same : (q : ℕ) → q < 32 → (q ≡ 0 → ⊥) → limit_of c q ≡ limit_of new q
  limits_same zero h other = absurd (other refl)
  limits_same (suc q) h other = λ i. above (counts_same (suc q) i) + (others_same q i).unspent

  all_back : unspent c 0 ≡ 8192
  all_back =
      let total = sum_one 32 0 (limit_of c) (limit_of new) (omega arith) limits_same in
      let old = (facts v c s).of_limits in
      let fresh = (facts v new (fresh_sound v)).of_limits in
      let spent = ap above (counts_same 0) in
      let all = ap (λ x. x.unspent) fresh_root in
      omega (arith, total, old, fresh, spent, all)

  root_same : principal_at c 0 ≡ principal_at new 0
  root_same =
      let q = principal_at c 0 in
      let r = (facts v c s).root in
      let holder = eqb-true q.holder 0 (and_left (eqb q.holder 0) (eqb q.parent 0) (and_right q.being (eqb q.holder 0 && eqb q.parent 0) r)) in
      (λ i. principal (root_being v c s i) (holder i) (root_parent v c s i) (all_back i)) ∙ sym fresh_root

  principals_same : (q : ℕ) → principal_at c q ≡ principal_at new q
  principals_same zero = root_same
  principals_same (suc q) = others_same q

  pub fresh_again : c ≡ fresh_claims true
  fresh_again =
      let f = facts v c s in
      let g = facts v new (fresh_sound v) in
      same_claims c new (f.of_principals ∙ sym g.of_principals) (f.of_counts ∙ sym g.of_counts) (λ q h. principals_same q) (λ q h. counts_same q)
