-- The rules, computed. Assumes nothing.
use Prim.Native.Nat.{ℕ}
use mathlib.Core.Bool.{true}
use mathlib.Core.Path.{◌≡◌, refl}
use Rattle.capabilities.specs.Lists.{each, map_each}
use Rattle.capabilities.specs.Refusals.{first}
use Rattle.claims.specs.Claims.{Claims, principal_at, counts_of, above, sum, with_principal, with_counts}
use Rattle.claims.specs.Tree.{leads_within}
use Rattle.claims.specs.Operations.{create_of, claim_of, release_of, returned, destroy_of}
use Rattle.claims.specs.Sound.{principal_sound, counts_sound, claims_sound, fresh_claims}

unfoldable pub computing : ℕ
unfolding each map_each first principal_at counts_of above sum with_principal with_counts leads_within create_of claim_of release_of returned destroy_of principal_sound counts_sound claims_sound fresh_claims
computing = 0

pub start_sound : claims_sound 256 (fresh_claims true) ≡ true
unfolding computing
start_sound = refl

pub busy : Claims
busy = claim_of (claim_of (create_of (create_of (fresh_claims true) 0 3 100 2) 3 31 40 7) 31 5) 31 5

pub busy_sound : claims_sound 6 busy ≡ true
unfolding computing busy
busy_sound = refl
