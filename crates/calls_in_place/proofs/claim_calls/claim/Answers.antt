-- `calls_in_place::claim_calls::claim` meets its contract: 4 and 12 first, then the claims' own.
use native.Mathlib.Omega.{arith}
use Rattle.arrays.specs.Steps.{with_claims}
use Rattle.calls_in_place.proofs.Claiming.{claim_left}
use Rattle.calls_in_place.proofs.claim_calls.claim.Goals as goal

pub returns : goal.returns
returns c =
    let a = c.args in
    let told = c.claim.ensures in
    λ m ev f cells tags. claim_left (with_claims m a.principals.now a.counts.now) f cells tags a.v ev a.party a.principal a.page c.in_ok-check_page.ensures (omega (arith, c.well_formed)) c.claim.result _ _ told.value told.principals_after told.counts_after
