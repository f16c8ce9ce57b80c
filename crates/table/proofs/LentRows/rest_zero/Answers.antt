-- `table::LentRows::rest_zero` meets its contract.
use mathlib.Core.Path.{sym, ap, ◌∙◌}
use Prim.Native.Nat.{◌+◌, ◌-◌}
use mathlib.Core.Bool.{◌&&◌, and_assoc, and-true}
use lib.ListN.{length, get_or, take, drop, drop_of_length-le}
use lib.Dec.{eqb}
use Rattle.std.proofs.lemmas.List.{take_rest, drop_min}
use Rattle.table.specs.Sound.{all_zero}
use Rattle.table.proofs.Testing.{zero_more}
use Rattle.table.proofs.LentRows.rest_zero.Goals as goal

pub loop-number-preserved : goal.loop-number-preserved
loop-number-preserved c =
    let l = c.args.self.rows.now in
    let rest = take (length l - c.used.result) (drop c.used.result l) in
    let i = c.loop-number.number-index in
    let z = c.loop-number.zero in
    c.loop-number.invariant ∙ ap (λ b. z && b) (zero_more rest i c.loop-number-test.true) ∙ sym (and_assoc z (eqb (get_or rest i 0) 0) (all_zero (drop (i + 1) rest)))

pub returns : goal.returns
unfolding all_zero
returns c =
    let l = c.args.self.rows.now in
    let rest = take (length l - c.used.result) (drop c.used.result l) in
    let z = c.loop-number.zero in
    let same = take_rest l c.used.result ∙ ap (λ k. drop k l) c.used.ensures.fits ∙ drop_min c.args.self.count l in
    sym (ap all_zero (sym same) ∙ c.loop-number.invariant ∙ ap (λ m. z && all_zero m) (drop_of_length-le rest c.loop-number-test.false) ∙ and-true z)
