-- Document 02, 2026-02: "all its descendants", "parents lead up to 0". Assumes nothing.
use Rattle.std.specs.Prelude.{ℕ, zero, suc, Bool, ◌||◌, eqb}
use Rattle.claims.specs.Claims.{Claims, parent_of}

-- Parents lead from a principal up to `top`: it is `top`, or they lead there from its parent.
pub data LeadsUp (c : Claims) (top : ℕ) : ℕ → Type 0 where
  itself : LeadsUp c top top
  by_parent : (p : ℕ) → LeadsUp c top (parent_of c p) → LeadsUp c top p

-- The same as a test, over so many parents.
unfoldable pub leads_within : ℕ → Claims → ℕ → ℕ → Bool
leads_within zero c top p = eqb p top
leads_within (suc n) c top p = eqb p top || leads_within n c top (parent_of c p)

-- 32 principals have at most 31 parents on the way: in claims that are well formed this is `LeadsUp` (`claims:Descent.leads_up_lem`).
abbrev pub leads_up : Claims → ℕ → ℕ → Bool
leads_up c top p = leads_within 31 c top p
