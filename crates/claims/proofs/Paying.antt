-- Document 02, 2026-11: share and remainder are those of the sentence, and each principal that claims a page counts once. Assumes nothing.
use Prim.Native.Nat.{ℕ, zero, suc, ◌+◌, ◌/◌, ◌%◌, ◌<◌, ◌≤◌}
use native.Mathlib.Nat.{add-zero, div-add-mod, mod-lt, mul-add-div, mul-add-mod_self_left, div-eq_of_lt, mod-eq_of_lt}
use native.Mathlib.Omega.{arith}
use mathlib.Core.Bool.{Bool, true, false, true≢false}
use mathlib.Core.Path.{◌≡◌, refl, sym, ap, ap₂, subst, ◌∙◌}
use lib.Dec.{eqb, ltb}
use borrow.Author.Tests.{ltb-true, lt-ltb, eq-eqb, ne_eqb}
use Rattle.capabilities.specs.Lists.{pick}
use Rattle.capabilities.specs.Refusals.{first}
use Rattle.capabilities.proofs.Choice.{at_most, is_false, pick_yes, pick_no, same_test}
use Rattle.claims.specs.Claims.{Claims, count_of, claimed, one}
use Rattle.claims.specs.Operations.{claim_reasons, claim_of}
use Rattle.claims.specs.Sound.{claims_sound}
use Rattle.claims.specs.Cost.{claimants, Cost, cost, Shares, cost_of}
use Rattle.claims.proofs.Facts.{facts}
use Rattle.claims.proofs.Sums.{sum_same, sum_one, sum_most, summand}
use Rattle.claims.proofs.Counting.{one_some, claimed_by, claimed_if}
use Rattle.claims.proofs.Principals.{held_being, being_below}
use Rattle.claims.proofs.Claimable.{claimable}
use Rattle.claims.proofs.KeptCounts.{claim_others, claim_counts, first_spends}

-- Nobody claims the page, or someone does.
pub undivided : (n : ℕ) → n ≡ 0 → cost_of n ≡ cost 0 16
unfolding cost_of
undivided n e = pick_yes (eqb n 0) (cost 0 16) (cost (16 / n) (16 % n)) (eq-eqb n 0 e)

pub divided : (n : ℕ) → (n ≡ 0 → ⊥) → cost_of n ≡ cost (16 / n) (16 % n)
unfolding cost_of
divided n h = pick_no (eqb n 0) (cost 0 16) (cost (16 / n) (16 % n)) (ne_eqb n 0 h)

-- Share and remainder are those of the sentence, for every number of claimants.
pub shares : (n : ℕ) → Shares n (cost_of n)
shares zero =
    subst (Shares 0) (sym (undivided 0 refl)) (record { whole = refl; below = λ h. let z : ⊥ = omega (arith, h) in absurd z; none = λ e. (refl, refl) })
shares (suc k) =
    subst (Shares (suc k)) (sym (divided (suc k) (λ e. omega (arith, e))))
    (record {
      whole = sym (div-add-mod 16 (suc k));
      below = λ h. mod-lt 16 h;
      none = λ e. let z : ⊥ = omega (arith, e) in absurd z;
    })

-- And no others are.
pub determined : (n : ℕ) (c : Cost) → Shares n c → c ≡ cost_of n
determined zero c s = ap₂ cost (s.none refl).0 (s.none refl).1 ∙ sym (undivided 0 refl)
determined (suc k) c s = ap₂ cost (sym share) (sym remainder) ∙ sym (divided (suc k) (λ e. omega (arith, e)))
  where
    low : c.remainder < suc k
    low = s.below (omega arith)

    share : 16 / suc k ≡ c.share
    share =
        ap (λ x. x / suc k) s.whole ∙ mul-add-div {m = suc k} (omega arith) c.share c.remainder
        ∙ ap (λ x. c.share + x) (div-eq_of_lt low) ∙ add-zero c.share

    remainder : 16 % suc k ≡ c.remainder
    remainder = ap (λ x. x % suc k) s.whole ∙ mul-add-mod_self_left (suc k) c.share c.remainder ∙ mod-eq_of_lt low

-- How often a principal claims a page has no part in the number: only whether it does.
pub claimants_same : (c d : Claims) (page k : ℕ) → ((p : ℕ) → p < 32 → ltb 0 (count_of c p page) ≡ ltb 0 (count_of d p k)) → claimants c page ≡ claimants d k
unfolding claimants
claimants_same c d page k e = sum_same 32 (λ p. one (count_of c p page)) (λ p. one (count_of d p k)) (λ p h. ap (λ b. pick b 1 0) (e p h))

-- There are 32 principals.
pub claimants_most : (c : Claims) (page : ℕ) → claimants c page ≤ 32
unfolding claimants
claimants_most c page = sum_most 1 (λ p. one (count_of c p page)) (λ p. at_most (ltb 0 (count_of c p page))) 32

module _ (v : ℕ) (c : Claims) (s : claims_sound v c ≡ true) where
  -- A page has a claim if someone claims it.
  pub claimants_some : (page : ℕ) → claimed c page ≡ ltb 0 (claimants c page)
  unfolding claimants
  claimants_some page = same_test (claimed c page) (ltb 0 (claimants c page)) forth back
    where
      unasked : (p : ℕ) → claimed c page ≡ false → one (count_of c p page) ≡ 0
      unasked p q =
          let b = ltb 0 (count_of c p page) in
          pick_no {A = ℕ} b 1 0 (is_false b (λ e. true≢false (sym (claimed_if c p page (ltb-true 0 (count_of c p page) e)) ∙ q)))

      forth : claimed c page ≡ true → ltb 0 (claimants c page) ≡ true
      forth e =
          let by = claimed_by c page e in
          let w = by.within in
          let l = (facts v c s).of_counts in
          let own = one_some (count_of c by.who page) by.counts in
          let all = summand 32 by.who (λ p. one (count_of c p page)) (omega (arith, w, l)) in
          lt-ltb 0 (claimants c page) (omega (arith, own, all))

      back : ltb 0 (claimants c page) ≡ true → claimed c page ≡ true
      back e = go (claimed c page) refl
        where
          go : (b : Bool) → claimed c page ≡ b → claimed c page ≡ true
          go true q = q
          go false q =
              let most = sum_most 0 (λ p. one (count_of c p page)) (λ p. let z = unasked p q in omega (arith, z)) 32 in
              let some = ltb-true 0 (claimants c page) e in
              let z : ⊥ = omega (arith, most, some) in absurd z

  -- A granted claim: the first of a principal makes one claimant more, another makes none.
  pub claimants_claim :
      (party p page : ℕ) → page < 256 → first (claim_reasons c party p page) ≡ 0
      → claimants (claim_of c p page) page ≡ pick (eqb (count_of c p page) 0) (claimants c page + 1) (claimants c page)
  unfolding claimants
  claimants_claim party p page h r =
      let below = being_below v c s p (held_being c party p (claimable c party p page r).held) in
      let both = sum_one 32 p (λ q. one (count_of (claim_of c p page) q page)) (λ q. one (count_of c q page)) below (λ q l w. ap one (claim_others c p page q page (λ x. w x.0))) in
      first_spends (count_of c p page) (claimants c page) (claimants (claim_of c p page) page)
      (both ∙ ap (λ n. claimants c page + one n) (claim_counts v c s party p page h r))
