-- The reasons against a claim and against a release, as plain facts, and the way back. Assumes nothing.
use Prim.Native.Nat.{ℕ, ◌<◌}
use native.Mathlib.Omega.{arith}
use mathlib.Core.Bool.{Bool, true, false, not, ◌&&◌, ◌||◌, and-true}
use mathlib.Core.List.{[], ◌∷◌}
use mathlib.Core.Path.{◌≡◌, refl}
use lib.Dec.{eqb, leb}
use borrow.Author.Tests.{eqb-true, eqb-false, ne_eqb, leb-false, lt-leb, not-false}
use Rattle.capabilities.specs.Refusals.{reason, first}
use Rattle.capabilities.proofs.Choice.{or_false}
use Rattle.capabilities.proofs.Refusals.{first_clear}
use Rattle.claims.specs.Claims.{Claims, holds, unspent, count_of}
use Rattle.claims.specs.Operations.{claim_reasons, release_reasons}

-- 20, then 21: neither applies.
pub two_clear : (a b : Bool) → first (reason 20 a ∷ reason 21 b ∷ []) ≡ 0 → (a ≡ false) × (b ≡ false)
two_clear a b e =
    let h = first_clear 20 a (reason 21 b ∷ []) (λ x. omega arith) e in
    (h.0, (first_clear 21 b [] (λ x. omega arith) h.1).0)

clear_two : (a b : Bool) → a ≡ true → b ≡ false → first (reason 20 (not a) ∷ reason 21 b ∷ []) ≡ 0
unfolding first
clear_two a b p q = rw (p, q)

-- A first count without limit left for it, or a count at its bound.
module _ (n u : ℕ) where
  abbrev pub stopped : Bool
  stopped = (eqb n 0 && eqb u 0) || leb 65535 n

  pub not_stopped : stopped ≡ false → (n ≡ 0 → 0 < u) × (n < 65535)
  not_stopped e = let o = or_false (eqb n 0 && eqb u 0) (leb 65535 n) e in (λ z. go (eqb u 0) refl z o.0, leb-false 65535 n o.1)
    where
      go : (b : Bool) → eqb u 0 ≡ b → n ≡ 0 → eqb n 0 && b ≡ false → 0 < u
      go true q z w = let y = eqb-false n 0 (rw and-true at w) z in absurd y
      go false q z w = let y = eqb-false u 0 q in omega (arith, y)

  stops_not : (n ≡ 0 → 0 < u) → n < 65535 → stopped ≡ false
  stops_not h k = go (eqb n 0) refl
    where
      go : (b : Bool) → eqb n 0 ≡ b → (b && eqb u 0) || leb 65535 n ≡ false
      go true q = let y = h (eqb-true n 0 q) in rw (ne_eqb u 0 (λ z. omega (arith, y, z))) (lt-leb 65535 n k)
      go false q = lt-leb 65535 n k

-- The party holds the principal, which has limit left for a first count, and the count is not at its bound.
pub record Claimable (c : Claims) (party p page : ℕ) : Type 0 where
  pub held : holds c party p ≡ true
  pub room : count_of c p page ≡ 0 → 0 < unspent c p
  pub below : count_of c p page < 65535

-- The party holds the principal, which counts the page.
pub record Releasable (c : Claims) (party p page : ℕ) : Type 0 where
  pub held : holds c party p ≡ true
  pub some : 0 < count_of c p page

module _ (c : Claims) (party p page : ℕ) where
  pub claimable : first (claim_reasons c party p page) ≡ 0 → Claimable c party p page
  unfolding claim_reasons
  claimable e =
      let h = two_clear (not (holds c party p)) (stopped (count_of c p page) (unspent c p)) e in
      let s = not_stopped (count_of c p page) (unspent c p) h.1 in
      record { held = not-false (holds c party p) h.0; room = s.0; below = s.1 }

  pub claim_free : Claimable c party p page → first (claim_reasons c party p page) ≡ 0
  unfolding claim_reasons
  claim_free f =
      clear_two (holds c party p) (stopped (count_of c p page) (unspent c p)) f.held (stops_not (count_of c p page) (unspent c p) f.room f.below)

  pub releasable : first (release_reasons c party p page) ≡ 0 → Releasable c party p page
  unfolding release_reasons
  releasable e =
      let h = two_clear (not (holds c party p)) (eqb (count_of c p page) 0) e in
      let n = eqb-false (count_of c p page) 0 h.1 in
      record { held = not-false (holds c party p) h.0; some = omega (arith, n) }

  pub release_free : Releasable c party p page → first (release_reasons c party p page) ≡ 0
  unfolding release_reasons
  release_free f =
      let s = f.some in
      clear_two (holds c party p) (eqb (count_of c p page) 0) f.held (ne_eqb (count_of c p page) 0 (λ z. omega (arith, s, z)))
