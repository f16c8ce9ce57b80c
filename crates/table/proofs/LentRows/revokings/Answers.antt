-- `table::LentRows::revokings` meets its contract.
use native.Mathlib.Omega.{arith}
use Prim.Native.Nat.{ℕ, ◌+◌, ◌<◌}
use mathlib.Core.Bool.{Bool, true, false}
use mathlib.Core.List.{List}
use mathlib.Core.Path.{◌≡◌, sym, ap, ◌∙◌}
use mir.Val.{bool_byte}
use lib.ListN.{length, get_or, take}
use Rattle.std.specs.List.{count_by}
use Rattle.std.proofs.lemmas.List.{take_all}
use Rattle.std.proofs.lemmas.List.Sums.{count_by_more_yes, count_by_more_no}
use Rattle.capabilities.proofs.Choice.{byte_pick, at_most}
use Rattle.table.specs.Rows.{is_revoking}
use Rattle.table.specs.Numbers.{row_from}
use Rattle.table.proofs.Testing.{revokings_used}
use Rattle.table.proofs.LentRows.revokings.Goals as goal

abbrev passes : ℕ → Bool
passes n = is_revoking (row_from n).state

more : (l : List ℕ) (i : ℕ) → i < length l → (b : Bool) → b ≡ passes (get_or l i 0) → count_by passes (take i l) + bool_byte b ≡ count_by passes (take (i + 1) l)
more l i h true e = sym (count_by_more_yes passes l i 0 h (sym e))
more l i h false e = omega (arith, count_by_more_no passes l i 0 h (sym e))

pub loop-number-preserved : goal.loop-number-preserved
loop-number-preserved c =
    let b = c.revoking_at.result in
    let l = take c.used.result c.args.self.rows.now in
    (omega (arith, byte_pick b, at_most b, c.loop-number.invariant.0), ap (λ k. k + bool_byte b) c.loop-number.invariant.1 ∙ more l c.loop-number.number-index c.loop-number-test.true b c.revoking_at.ensures)

pub returns : goal.returns
returns c =
    let l = c.args.self.rows.now in
    let rows = take c.used.result l in
    c.loop-number.invariant.1 ∙ ap (count_by passes) (take_all c.loop-number.number-index rows c.loop-number-test.false)
    ∙ ap (λ k. count_by passes (take k l)) c.used.ensures.fits ∙ sym (revokings_used l c.args.self.count)
