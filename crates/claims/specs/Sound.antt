-- Document 02, 2026-02: well-formed claims, and those of a fresh start. Assumes nothing.
use Rattle.std.specs.Prelude.{ℕ, Bool, true, not, ◌&&◌, List, [], ◌∷◌, length, drop, replicate, leb, eqb}
use Rattle.capabilities.specs.Lists.{pick, each}
use Rattle.claims.specs.declared.Principal.{Principal}
use Rattle.claims.specs.Claims.{Claims, claims, principal, nobody, principal_at, in_being, above, limit_of, sum}
use Rattle.claims.specs.Tree.{leads_up}

-- Every entry of no principal is 0.
abbrev pub is_nobody : Principal → Bool
is_nobody q = not q.being && (eqb q.holder 0 && (eqb q.parent 0 && eqb q.unspent 0))

-- "In a well-formed state parents lead up to 0": each parent is in being. A holder is a party.
unfoldable pub principal_sound : Claims → ℕ → Principal → Bool
principal_sound c p q = pick q.being ((leb q.holder 7 && in_being c q.parent) && leads_up c 0 p) (is_nobody q)

-- "Principal 0 is party 0's, with .. no parent."
abbrev pub root_sound : Principal → Bool
root_sound q = q.being && (eqb q.holder 0 && eqb q.parent 0)

-- A principal in being has 256 counts, those of pages at V and above 0; another has none.
unfoldable pub counts_sound : ℕ → Claims → ℕ → List ℕ → Bool
counts_sound v c p l = pick (in_being c p) (eqb (length l) 256 && eqb (above (drop v l)) 0) (eqb (length l) 0)

-- "Limits spent and unspent over the tree total 8,192."
abbrev pub total : Claims → ℕ
total c = sum 32 (limit_of c)

abbrev pub sized_claims : Claims → Bool
sized_claims c = eqb (length c.principals) 32 && eqb (length c.counts) 32

-- The claims' part of "A state is well formed", where V is this.
unfoldable pub claims_sound : ℕ → Claims → Bool
claims_sound v c =
    ((sized_claims c && root_sound (principal_at c 0)) && each (principal_sound c) 0 c.principals)
    && (each (counts_sound v c) 0 c.counts && eqb (total c) 8192)

-- "Principal 0 is party 0's, with limit 8,192 and no parent"; nothing is claimed. For V or F out of range all is 0.
unfoldable pub fresh_claims : Bool → Claims
fresh_claims started =
    pick started (claims (principal true 0 0 8192 ∷ replicate 31 nobody) (replicate 256 0 ∷ replicate 31 [])) (claims (replicate 32 nobody) (replicate 32 []))
