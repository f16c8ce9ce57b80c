-- `calls_in_place::claim_calls::create` meets its contract: refused under 4, or else what the claims' own call leaves.
use Rattle.words.specs.WordReasons.{unnamed}
use Rattle.arrays.specs.Steps.{with_claims}
use Rattle.calls_in_place.proofs.Early.{both_known}
use Rattle.calls_in_place.proofs.Claiming.{create_left}
use Rattle.calls_in_place.proofs.claim_calls.create.Goals as goal

pub returns : goal.returns
returns c =
    let a = c.args in
    λ v counts m ev f cells tags. create_left (with_claims m a.principals.now counts) f cells tags a.party a.parent a.child a.limit a.holder (both_known (unnamed a.party) (unnamed a.holder) c.in_ok-known.ensures c.in_ok-known-2.ensures) c.create.result (c.create.ensures.by_index counts) _ c.create.ensures.principals_after
