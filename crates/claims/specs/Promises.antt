-- Document 02, 2026-02: what a granted claim, release and destroy leave of well-formed claims, as statements. Assumes nothing.
use Rattle.std.specs.Prelude.{ℕ, ◌+◌, ◌<◌, true, false, not, ◌&&◌, ◌≡◌, eqb}
use Rattle.capabilities.specs.Lists.{pick}
use Rattle.capabilities.specs.Refusals.{first}
use Rattle.claims.specs.Claims.{Claims, principal_at, counts_of, in_being, parent_of, count_of, spent, limit_of}
use Rattle.claims.specs.Tree.{leads_up}
use Rattle.claims.specs.Operations.{claim_reasons, claim_of, release_reasons, release_of, destroy_reasons, returned, destroy_of}
use Rattle.claims.specs.Sound.{claims_sound}

-- What holds after a claim of a page that is granted.
abbrev pub OfClaim : (Claims → ℕ → ℕ → Type 0) → Type 0
OfClaim P = (v : ℕ) (c : Claims) → claims_sound v c ≡ true → (party p page : ℕ) → page < 256 → first (claim_reasons c party p page) ≡ 0 → P c p page

-- "Adds 1 to the count, and when it was 0 spends 1 of the limit"; the limit itself stays, as everyone's does.
abbrev pub ClaimCounts : Type 0
ClaimCounts = OfClaim (λ c p page. count_of (claim_of c p page) p page ≡ count_of c p page + 1)

abbrev pub ClaimSpends : Type 0
ClaimSpends = OfClaim (λ c p page. spent (claim_of c p page) p ≡ pick (eqb (count_of c p page) 0) (spent c p + 1) (spent c p))

abbrev pub ClaimLimit : Type 0
ClaimLimit = OfClaim (λ c p page. (q : ℕ) → limit_of (claim_of c p page) q ≡ limit_of c q)

-- What holds after a release that is granted: the count is 1 lower, and limits stay.
abbrev pub OfRelease : (Claims → ℕ → ℕ → Type 0) → Type 0
OfRelease P = (v : ℕ) (c : Claims) → claims_sound v c ≡ true → (party p page : ℕ) → first (release_reasons c party p page) ≡ 0 → P c p page

abbrev pub ReleaseCounts : Type 0
ReleaseCounts = OfRelease (λ c p page. count_of (release_of c p page) p page + 1 ≡ count_of c p page)

abbrev pub ReleaseLimit : Type 0
ReleaseLimit = OfRelease (λ c p page. (q : ℕ) → limit_of (release_of c p page) q ≡ limit_of c q)

-- What holds after a destroy that is granted.
abbrev pub OfDestroy : (Claims → ℕ → Type 0) → Type 0
OfDestroy P = (v : ℕ) (c : Claims) → claims_sound v c ≡ true → (party p : ℕ) → first (destroy_reasons c party p) ≡ 0 → P c p

-- Exactly the principal and its descendants are dropped,
abbrev pub DestroyDrops : Type 0
DestroyDrops = OfDestroy (λ c p. (q : ℕ) → in_being (destroy_of c p) q ≡ (in_being c q && not (leads_up c p q)))

-- the parent gets exactly what they had,
abbrev pub DestroyReturns : Type 0
DestroyReturns = OfDestroy (λ c p. limit_of (destroy_of c p) (parent_of c p) ≡ limit_of c (parent_of c p) + returned c p)

-- and every other principal, and every other one's counts, stand as they were.
abbrev pub DestroyOthers : Type 0
DestroyOthers = OfDestroy (λ c p. (q : ℕ) → leads_up c p q ≡ false → (q ≡ parent_of c p → ⊥) → principal_at (destroy_of c p) q ≡ principal_at c q)

abbrev pub DestroyAllCounts : Type 0
DestroyAllCounts = OfDestroy (λ c p. (q : ℕ) → leads_up c p q ≡ false → counts_of (destroy_of c p) q ≡ counts_of c q)
