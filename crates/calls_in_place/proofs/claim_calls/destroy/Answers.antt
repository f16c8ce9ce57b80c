-- `calls_in_place::claim_calls::destroy` meets its contract: refused under 4, or else what the claims' own call leaves.
use Rattle.arrays.specs.Steps.{with_claims}
use Rattle.calls_in_place.proofs.Claiming.{destroy_left}
use Rattle.calls_in_place.proofs.claim_calls.destroy.Goals as goal

pub returns : goal.returns
returns c =
    let a = c.args in
    let told = c.destroy.ensures in
    λ v m ev f cells tags. destroy_left (with_claims m a.principals.now a.counts.now) f cells tags a.party a.principal c.in_ok-known.ensures c.destroy.result told.value _ _ told.principals_after told.counts_after
