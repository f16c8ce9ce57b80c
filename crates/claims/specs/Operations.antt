-- Document 02, 2026-02: commands 12 to 15, with refusals 20 and 21. Assumes nothing.
use Rattle.std.specs.Prelude.{ℕ, ◌+◌, ◌-◌, true, not, ◌&&◌, ◌||◌, List, [], ◌∷◌, set, replicate, leb, ltb, eqb}
use Rattle.capabilities.specs.Lists.{pick, map_each}
use Rattle.capabilities.specs.Refusals.{Reason, reason}
use Rattle.claims.specs.Claims.{Claims, claims, principal, nobody, in_being, holds, parent_of, unspent, counts_of, count_of, limit_of, sum, with_principal, with_counts, with_unspent}
use Rattle.claims.specs.Tree.{leads_up}

-- 12 create: "Create needs the caller to hold the parent". 20: ".. or the child number is taken or above 31"; 21: "too little unspent limit".
unfoldable pub create_reasons : Claims → ℕ → ℕ → ℕ → ℕ → List Reason
create_reasons c party parent child limit =
    reason 20 (not (holds c party parent) || (in_being c child || leb 32 child)) ∷ reason 21 (ltb (unspent c parent) limit) ∷ []

-- "Moves unspent limit to the child."
unfoldable pub create_of : Claims → ℕ → ℕ → ℕ → ℕ → Claims
create_of c parent child limit holder =
    let paid = with_unspent c parent (unspent c parent - limit) in
    with_counts (with_principal paid child (principal true holder parent limit)) child (replicate 256 0)

-- 13 claim needs the caller to hold the principal. 21: the first count of a page finds no unspent limit, or "a count at 65,535".
unfoldable pub claim_reasons : Claims → ℕ → ℕ → ℕ → List Reason
claim_reasons c party p page =
    let n = count_of c p page in
    reason 20 (not (holds c party p)) ∷ reason 21 ((eqb n 0 && eqb (unspent c p) 0) || leb 65535 n) ∷ []

-- A count put in place of the old one.
abbrev pub with_count : Claims → ℕ → ℕ → ℕ → Claims
with_count c p page n = with_counts c p (set (counts_of c p) page n)

-- "Counts one up, and the first count of a page spends 1."
unfoldable pub claim_of : Claims → ℕ → ℕ → Claims
claim_of c p page =
    let n = count_of c p page in
    with_count (pick (eqb n 0) (with_unspent c p (unspent c p - 1)) c) p page (n + 1)

-- 14 release: 21 is "a release at 0".
unfoldable pub release_reasons : Claims → ℕ → ℕ → ℕ → List Reason
release_reasons c party p page = reason 20 (not (holds c party p)) ∷ reason 21 (eqb (count_of c p page) 0) ∷ []

-- "Counts one down, and the last gives 1 back."
unfoldable pub release_of : Claims → ℕ → ℕ → Claims
release_of c p page =
    let n = count_of c p page in
    with_count (pick (eqb n 1) (with_unspent c p (unspent c p + 1)) c) p page (n - 1)

-- 15 destroy needs the caller to hold "the principal's parent"; principal 0 has none.
unfoldable pub destroy_reasons : Claims → ℕ → ℕ → List Reason
destroy_reasons c party p = reason 20 (not (in_being c p && (not (eqb p 0) && holds c party (parent_of c p)))) ∷ []

-- The limits, spent and unspent, of a principal and of all its descendants.
unfoldable pub returned : Claims → ℕ → ℕ
returned c p = sum 32 (λ q. pick (leads_up c p q) (limit_of c q) 0)

-- Entries by number, with nothing in those of a principal and its descendants.
abbrev pub dropped : {A : Type 0} → Claims → ℕ → A → ℕ → A → A
dropped c p none q x = pick (leads_up c p q) none x

-- "Drops its claims and all its descendants, and returns their limits to the parent."
unfoldable pub destroy_of : Claims → ℕ → Claims
destroy_of c p =
    let left = claims (map_each (dropped c p nobody) 0 c.principals) (map_each (dropped c p []) 0 c.counts) in
    with_unspent left (parent_of c p) (unspent c (parent_of c p) + returned c p)
