-- `calls_in_place::page_calls::map` meets its contract: 4 and 5 first, then the layer's own.
use Rattle.arrays.specs.Steps.{with_pages}
use Rattle.calls_in_place.proofs.Mapping.{map_left}
use Rattle.calls_in_place.proofs.page_calls.map.Goals as goal

pub returns : goal.returns
returns c =
    let a = c.args in
    let told = c.map.ensures in
    λ m ev eh f cells tags. map_left (with_pages m a.pages.now a.frames.now) f a.party cells tags c.in_ok-manager_check.ensures a.nums.v a.nums.f ev eh c.map.result a.page a.frame told.value _ _ told.pages_after told.frames_after
