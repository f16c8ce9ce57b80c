-- `formed::revocation_kept` meets its contract. The row found is the Revoking one; the two ways are those of the definition.
use mathlib.Core.Bool.{Bool, ◌&&◌}
use mathlib.Core.Path.{ap, ◌∙◌}
use lib.Dec.{eqb}
use Rattle.capabilities.specs.declared.Range.{Range}
use Rattle.pages.specs.Freed.{all_freed}
use Rattle.pages.specs.Numbers.{layer_of}
use Rattle.reservations.specs.Revocation.{whole_pages}
use Rattle.table.specs.Find.{missing}
use Rattle.formed.proofs.Revocation.{none_runs, one_runs}
use Rattle.formed.proofs.revocation_kept.Goals as goal

pub returns-in-None : goal.returns-in-None
returns-in-None c =
    let a = c.args in
    let found = c.revoking-found in
    let row = c.row-row in
    λ frames principals counts. none_runs a.nums a.rows.now a.pages.now frames principals counts found.result row.result found.ensures row.ensures (ap missing c.in-None.is)

pub returns-in-Some : goal.returns-in-Some
returns-in-Some c =
    let a = c.args in
    let found = c.revoking-found in
    let row = c.row-row in
    let kept = eqb a.nums.base row.result.base && eqb a.nums.length row.result.length in
    λ frames principals counts. ap (λ (x : Bool). kept && (x && c.all_freed.result)) c.whole_pages.ensures
    ∙ ap (λ (x : Bool). kept && (whole_pages row.result && x)) (c.all_freed.ensures a.nums.v a.nums.f frames ∙ ap (λ (r : Range). all_freed (layer_of a.nums.v a.nums.f a.pages.now frames) r) c.range_of.ensures)
    ∙ one_runs a.nums a.rows.now a.pages.now frames principals counts found.result row.result found.ensures row.ensures (ap missing c.in-Some.is)
