-- Fresh claims are well formed, claim and release keep claims so, and what they do to counts and limits. Assumes nothing.
use Prim.Native.Nat.{ℕ, zero, suc, ◌+◌, ◌-◌, ◌<◌}
use native.Mathlib.Omega.{arith}
use mathlib.Core.Bool.{Bool, true, false}
use mathlib.Core.List.{[]}
use mathlib.Core.Path.{◌≡◌, refl, sym, ap, ◌∙◌}
use lib.ListN.{length, drop}
use lib.Dec.{eqb}
use borrow.Author.Tests.{eqb-true, eqb-false}
use Rattle.capabilities.specs.Lists.{pick}
use Rattle.capabilities.specs.Refusals.{first}
use Rattle.capabilities.proofs.Lists.{same_everywhere}
use Rattle.claims.specs.Claims.{Claims, holds, unspent, counts_of, count_of, above, spent, limit_of, one}
use Rattle.claims.specs.Operations.{claim_reasons, claim_of, release_reasons, release_of}
use Rattle.claims.specs.Sound.{claims_sound, fresh_claims}
use Rattle.claims.specs.Promises.{ClaimCounts, ClaimSpends, ClaimLimit, ReleaseCounts, ReleaseLimit}
use Rattle.claims.proofs.Facts.{facts, sound}
use Rattle.claims.proofs.Counting.{one_none, one_some, above_past, above_zeros}
use Rattle.claims.proofs.Changed.{changed, changed_count_else, changed_if}
use Rattle.claims.proofs.Balanced.{Change, change_count, change_limit, change_spent, change_sound}
use Rattle.claims.proofs.Principals.{held_being, counts_alike, being_below, Counted, counted_at, counted_below, counted_within}
use Rattle.claims.proofs.Claimable.{Claimable, claimable, Releasable, releasable}
use Rattle.claims.proofs.Examples.{start_sound}

-- In fresh claims nobody counts a page.
fresh_none : (p : ℕ) → above (counts_of (fresh_claims true) p) ≡ 0
unfolding counts_of fresh_claims above
fresh_none zero = above_zeros 256
fresh_none (suc p) = ap above (same_everywhere 31 p [])

pub fresh_sound : (v : ℕ) → claims_sound v (fresh_claims true) ≡ true
fresh_sound v =
    let c = fresh_claims true in
    let f = facts 256 c start_sound in
    sound v c (record {
      of_principals = f.of_principals;
      of_counts = f.of_counts;
      root = f.root;
      principals = f.principals;
      counts = λ p h. counts_alike c c p v 256 (counts_of c p) (counts_of c p) refl refl (past p v ∙ sym (past p 256)) ∙ f.counts p h;
      of_limits = f.of_limits;
    })
  where
    past : (p n : ℕ) → above (drop n (counts_of (fresh_claims true) p)) ≡ 0
    past p n = above_past n (counts_of (fresh_claims true) p) (fresh_none p)

-- What is unspent after a claim and after a release.
abbrev unspent_claimed : Claims → ℕ → ℕ → ℕ
unspent_claimed c p page = pick (eqb (count_of c p page) 0) (unspent c p - 1) (unspent c p)

abbrev unspent_released : Claims → ℕ → ℕ → ℕ
unspent_released c p page = pick (eqb (count_of c p page) 1) (unspent c p + 1) (unspent c p)

module _ (c : Claims) (p page : ℕ) where
  claim_change : claim_of c p page ≡ changed c p page (unspent_claimed c p page) (count_of c p page + 1)
  unfolding claim_of
  claim_change = changed_if c p page (unspent c p - 1) (count_of c p page + 1) (eqb (count_of c p page) 0)

  release_change : release_of c p page ≡ changed c p page (unspent_released c p page) (count_of c p page - 1)
  unfolding release_of
  release_change = changed_if c p page (unspent c p + 1) (count_of c p page - 1) (eqb (count_of c p page) 1)

  -- Every other count is as before.
  pub claim_others : (q k : ℕ) → ((q ≡ p) × (k ≡ page) → ⊥) → count_of (claim_of c p page) q k ≡ count_of c q k
  claim_others q k h =
      ap (λ d. count_of d q k) claim_change ∙ changed_count_else c p page (unspent_claimed c p page) (count_of c p page + 1) q k h

  pub release_others : (q k : ℕ) → ((q ≡ p) × (k ≡ page) → ⊥) → count_of (release_of c p page) q k ≡ count_of c q k
  release_others q k h =
      ap (λ d. count_of d q k) release_change ∙ changed_count_else c p page (unspent_released c p page) (count_of c p page - 1) q k h

-- The first count of a page spends 1, and the last gives 1 back.
claim_balance : (n u : ℕ) → (n ≡ 0 → 0 < u) → one (n + 1) + pick (eqb n 0) (u - 1) u ≡ one n + u
claim_balance n u h = go (eqb n 0) refl
  where
    go : (b : Bool) → eqb n 0 ≡ b → one (n + 1) + pick b (u - 1) u ≡ one n + u
    go true e =
        let z = eqb-true n 0 e in
        let a = one_none n z in let b = one_some (n + 1) (omega arith) in let r = h z in
        omega (arith, a, b, r)
    go false e =
        let z = eqb-false n 0 e in
        let a = one_some n (omega (arith, z)) in let b = one_some (n + 1) (omega arith) in
        omega (arith, a, b)

pub first_spends : (n before after : ℕ) → after + one n ≡ before + one (n + 1) → after ≡ pick (eqb n 0) (before + 1) before
first_spends n before after h = go (eqb n 0) refl
  where
    more : one (n + 1) ≡ 1
    more = one_some (n + 1) (omega arith)

    go : (b : Bool) → eqb n 0 ≡ b → after ≡ pick b (before + 1) before
    go true e = let a = one_none n (eqb-true n 0 e) in let m = more in omega (arith, h, a, m)
    go false e = let z = eqb-false n 0 e in let a = one_some n (omega (arith, z)) in let m = more in omega (arith, h, a, m)

release_balance : (n u : ℕ) → 0 < n → one (n - 1) + pick (eqb n 1) (u + 1) u ≡ one n + u
release_balance n u h = go (eqb n 1) refl
  where
    go : (b : Bool) → eqb n 1 ≡ b → one (n - 1) + pick b (u + 1) u ≡ one n + u
    go true e =
        let z = eqb-true n 1 e in
        let a = one_some n h in let b = one_none (n - 1) (omega (arith, z)) in
        omega (arith, a, b)
    go false e =
        let z = eqb-false n 1 e in
        let a = one_some n h in let b = one_some (n - 1) (omega (arith, z, h)) in
        omega (arith, a, b)

-- Where the principal and the page have entries, both keep the principal's limit.
module _ (c : Claims) (party p page : ℕ) (placed : p < length c.principals) (within : page < length (counts_of c p)) where
  pub claiming : Claimable c party p page → Change c p page (count_of c p page + 1) (claim_of c p page)
  claiming f = record {
    placed = placed;
    within = within;
    left = unspent_claimed c p page;
    is = claim_change c p page;
    balance = claim_balance (count_of c p page) (unspent c p) f.room;
  }

  pub releasing : Releasable c party p page → Change c p page (count_of c p page - 1) (release_of c p page)
  releasing f = record {
    placed = placed;
    within = within;
    left = unspent_released c p page;
    is = release_change c p page;
    balance = release_balance (count_of c p page) (unspent c p) f.some;
  }

-- In well-formed claims they have entries.
module _ (v : ℕ) (c : Claims) (s : claims_sound v c ≡ true) (party p page : ℕ) where
  own : holds c party p ≡ true → Counted v c p
  own h = counted_at v c s p (held_being c party p h)

  placed : holds c party p ≡ true → p < length c.principals
  placed h = let o = being_below v c s p (held_being c party p h) in let l = (facts v c s).of_principals in omega (arith, o, l)

  within : holds c party p ≡ true → page < 256 → page < length (counts_of c p)
  within h k = let l = (own h).long in omega (arith, k, l)

  module _ (k : page < 256) (r : first (claim_reasons c party p page) ≡ 0) where
    can : Claimable c party p page
    can = claimable c party p page r

    pub claim_granted : Change c p page (count_of c p page + 1) (claim_of c p page)
    claim_granted = claiming c party p page (placed can.held) (within can.held k) can

    counts_more : count_of (claim_of c p page) p page ≡ count_of c p page + 1
    counts_more = change_count c p page (count_of c p page + 1) (claim_of c p page) claim_granted

    claim_keeps : (q : ℕ) → limit_of (claim_of c p page) q ≡ limit_of c q
    claim_keeps = change_limit c p page (count_of c p page + 1) (claim_of c p page) claim_granted

    spends : spent (claim_of c p page) p ≡ pick (eqb (count_of c p page) 0) (spent c p + 1) (spent c p)
    spends =
        first_spends (count_of c p page) (spent c p) (spent (claim_of c p page) p) (change_spent c p page (count_of c p page + 1) (claim_of c p page) claim_granted)

  pub claim_sound : page < v → page < 256 → first (claim_reasons c party p page) ≡ 0 → claims_sound v (claim_of c p page) ≡ true
  claim_sound h k r =
      change_sound c p page (count_of c p page + 1) (claim_of c p page) (claim_granted k r) v s (held_being c party p (can k r).held) h

  module _ (r : first (release_reasons c party p page) ≡ 0) where
    may : Releasable c party p page
    may = releasable c party p page r

    pub release_granted : Change c p page (count_of c p page - 1) (release_of c p page)
    release_granted = releasing c party p page (placed may.held) (within may.held (counted_within v c p (own may.held) page may.some)) may

    pub release_sound : claims_sound v (release_of c p page) ≡ true
    release_sound =
        change_sound c p page (count_of c p page - 1) (release_of c p page) release_granted v s (held_being c party p may.held)
        (counted_below v c p (own may.held) page may.some)

    counts_less : count_of (release_of c p page) p page + 1 ≡ count_of c p page
    counts_less =
        let t = change_count c p page (count_of c p page - 1) (release_of c p page) release_granted in
        let m = may.some in
        omega (arith, t, m)

    release_keeps : (q : ℕ) → limit_of (release_of c p page) q ≡ limit_of c q
    release_keeps = change_limit c p page (count_of c p page - 1) (release_of c p page) release_granted

pub claim_counts : ClaimCounts
claim_counts v c s party p page k r = counts_more v c s party p page k r

pub claim_spends : ClaimSpends
claim_spends v c s party p page k r = spends v c s party p page k r

pub claim_limit : ClaimLimit
claim_limit v c s party p page k r = claim_keeps v c s party p page k r

pub release_counts : ReleaseCounts
release_counts v c s party p page r = counts_less v c s party p page r

pub release_limit : ReleaseLimit
release_limit v c s party p page r = release_keeps v c s party p page r
