-- `table::LentRows::revoking` meets its contract.
use mathlib.Core.Path.{◌≡◌, sym, ap, ◌∙◌}
use Prim.Native.Nat.{ℕ}
use mathlib.Core.Bool.{Bool}
use lib.ListN.{take}
use Rattle.std.specs.List.{position}
use Rattle.std.proofs.Common.{rules, tests}
use Rattle.std.proofs.lemmas.Iterator.{YieldsList-from_slice}
use Rattle.std.proofs.lemmas.Iterator.Search.{position_from_yields_List}
use Rattle.table.specs.Rows.{is_revoking}
use Rattle.table.specs.Find.{revoking_of}
use Rattle.table.specs.Numbers.{row_from}
use Rattle.table.proofs.Reading.{seek_used}
use Rattle.table.proofs.LentRows.revoking.Goals as goal

pub returns : goal.returns
unfolding revoking_of
returns c =
    let l = c.args.self.rows.now in
    let passes : ℕ → Bool = λ n. is_revoking (row_from n).state in
    let there : c.position.result ≡ position passes (take c.used.result l) = position_from_yields_List passes _ _ c.position.result c.position.ensures.ran (YieldsList-from_slice _ c.iter.ensures.rest) (λ x b q k. search (rules, tests)) in
    there ∙ ap (λ k. position passes (take k l)) c.used.ensures.fits ∙ sym (seek_used (λ r. is_revoking r.state) l c.args.self.count)
