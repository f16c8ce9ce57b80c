-- `calls_in_place::page_calls::unmap` meets its contract: 4 and 5 first, then the layer's own.
use native.Mathlib.Omega.{arith}
use mathlib.Core.Path.{sym, ap, ◌∙◌}
use Rattle.claims.specs.Lent.{any_counts}
use Rattle.arrays.specs.Steps.{with_pages}
use Rattle.calls_in_place.proofs.Mapping.{unmap_left}
use Rattle.calls_in_place.proofs.page_calls.unmap.Goals as goal

pub returns : goal.returns
returns c =
    let a = c.args in
    let any = c.any_counts-claimed in
    let told = c.unmap.ensures in
    λ m ev eh ec f cells tags. unmap_left (with_pages m a.pages.now a.frames.now) f a.party cells tags c.in_ok-manager_check.ensures a.nums.v a.nums.f ev eh c.unmap.result a.page (omega (arith, c.well_formed)) any.result (any.ensures ∙ ap (λ n. any_counts 32 n a.page.0) (sym ec)) (told.by_index a.nums.f) _ _ told.pages_after told.frames_after
