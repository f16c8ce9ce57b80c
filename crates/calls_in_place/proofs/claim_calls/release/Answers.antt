-- `calls_in_place::claim_calls::release` meets its contract: 4 and 12 first, then the claims' own.
use native.Mathlib.Omega.{arith}
use Rattle.arrays.specs.Steps.{with_claims}
use Rattle.calls_in_place.proofs.Claiming.{release_left}
use Rattle.calls_in_place.proofs.claim_calls.release.Goals as goal

pub returns : goal.returns
returns c =
    let a = c.args in
    let told = c.release.ensures in
    λ m ev f cells tags. release_left (with_claims m a.principals.now a.counts.now) f cells tags a.v ev a.party a.principal a.page c.in_ok-check_page.ensures (omega (arith, c.well_formed)) c.release.result _ _ told.value told.principals_after told.counts_after
