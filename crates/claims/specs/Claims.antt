-- Document 02, 2026-02: principals, and their claims on pages. Assumes nothing.
use Rattle.std.specs.Prelude.{ℕ, zero, suc, ◌+◌, Bool, false, ◌&&◌, ◌||◌, List, [], ◌∷◌, get_or, set, eqb, ltb}
use Rattle.capabilities.specs.Lists.{pick}
use Rattle.claims.specs.declared.Principal.{Principal}

abbrev pub principal : Bool → ℕ → ℕ → ℕ → Principal
principal being holder parent unspent = record { being = being; holder = holder; parent = parent; unspent = unspent }

-- An entry of no principal.
abbrev pub nobody : Principal
nobody = principal false 0 0 0

-- "Principals are numbered 0 to 31, each with a holding party, a parent and a limit": 32 entries. Of the limit the part that is not spent
-- stands here. Each principal in being counts its claims on 256 pages; one that is not has no counts.
pub record Claims : Type 0 where
  pub principals : List Principal
  pub counts : List (List ℕ)

abbrev pub claims : List Principal → List (List ℕ) → Claims
claims principals counts = record { principals = principals; counts = counts }

-- The principal of a number; past the last entry, no principal.
unfoldable pub principal_at : Claims → ℕ → Principal
principal_at c p = get_or c.principals p nobody

-- The principal is in being.
abbrev pub in_being : Claims → ℕ → Bool
in_being c p = (principal_at c p).being

-- The party holds the principal, which is in being.
abbrev pub holds : Claims → ℕ → ℕ → Bool
holds c party p = in_being c p && eqb (principal_at c p).holder party

abbrev pub parent_of : Claims → ℕ → ℕ
parent_of c p = (principal_at c p).parent

-- The part of a principal's limit that is not spent.
abbrev pub unspent : Claims → ℕ → ℕ
unspent c p = (principal_at c p).unspent

unfoldable pub counts_of : Claims → ℕ → List ℕ
counts_of c p = get_or c.counts p []

-- How often a principal claims a page.
abbrev pub count_of : Claims → ℕ → ℕ → ℕ
count_of c p page = get_or (counts_of c p) page 0

-- 1 for a count above 0, however great.
abbrev pub one : ℕ → ℕ
one n = pick (ltb 0 n) 1 0

-- How many of some counts are above 0.
unfoldable pub above : List ℕ → ℕ
above [] = 0
above (n ∷ l) = one n + above l

-- "A principal's spent limit is the number of pages it counts above 0."
abbrev pub spent : Claims → ℕ → ℕ
spent c p = above (counts_of c p)

-- Its limit, "spent and unspent"; so spent is at most the limit.
abbrev pub limit_of : Claims → ℕ → ℕ
limit_of c p = spent c p + unspent c p

-- The sum of f over the numbers below n.
unfoldable pub sum : ℕ → (ℕ → ℕ) → ℕ
sum zero f = 0
sum (suc n) f = sum n f + f n

-- One of some lists has a number above 0 for the page.
unfoldable pub any_above : ℕ → List (List ℕ) → Bool
any_above page [] = false
any_above page (l ∷ rest) = ltb 0 (get_or l page 0) || any_above page rest

-- 22: "the page .. has a claim": a principal counts it above 0.
abbrev pub claimed : Claims → ℕ → Bool
claimed c page = any_above page c.counts

-- A principal put in place of the old one, and one with its counts.
unfoldable pub with_principal : Claims → ℕ → Principal → Claims
with_principal c p q = claims (set c.principals p q) c.counts

unfoldable pub with_counts : Claims → ℕ → List ℕ → Claims
with_counts c p l = claims c.principals (set c.counts p l)

-- A principal with another part of its limit unspent.
abbrev pub leaving : Principal → ℕ → Principal
leaving q n = principal q.being q.holder q.parent n

abbrev pub with_unspent : Claims → ℕ → ℕ → Claims
with_unspent c p n = with_principal c p (leaving (principal_at c p) n)
