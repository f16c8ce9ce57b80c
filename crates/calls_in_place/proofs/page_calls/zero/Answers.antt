-- `calls_in_place::page_calls::zero` meets its contract: 4 and 5 first, then the layer's own.
use Rattle.arrays.specs.Steps.{with_pages}
use Rattle.calls_in_place.proofs.Mapping.{zero_left}
use Rattle.calls_in_place.proofs.page_calls.zero.Goals as goal

pub returns : goal.returns
returns c =
    let a = c.args in
    let told = c.zero.ensures in
    λ m eh lc lt f. zero_left (with_pages m m.pages a.frames.now) f a.party a.cells.now a.tags.now c.in_ok-manager_check.ensures a.f eh lc lt a.frame c.zero.result (told.by_index m.nums.v m.pages) _ _ _ told.frames_after told.cells_after told.tags_after
