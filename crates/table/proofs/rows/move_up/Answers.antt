-- `table::rows::move_up` meets its contract.
use native.Mathlib.Omega.{arith}
use mathlib.Core.Path.{◌≡◌, refl, ap, ◌∙◌}
use Prim.Native.Nat.{◌-◌}
use lib.ListN.{length, length-set}
use Rattle.table.specs.Lent.{raised}
use Rattle.table.proofs.Moving.{raise_start, raise_more}
use Rattle.table.proofs.rows.move_up.Goals as goal

pub loop-j-init : goal.loop-j-init
loop-j-init c = (raise_start c.args.rows.now c.args.n (omega arith), (refl, omega arith))

pub loop-j-preserved : goal.loop-j-preserved
loop-j-preserved c =
    let a = c.args in
    let m = c.loop-j in
    let j = m.j in
    let wrote = c.write_row-writes.ensures in (
      raise_more a.rows.now _ _ j _ _ (j - 1) a.n 0 m.invariant.0 wrote.0 (omega arith) (omega arith) (omega arith) (omega arith) (omega arith),
      (ap length wrote.0 ∙ length-set m.rows _ _ ∙ m.invariant.1.0, omega (arith, wrote.1)),
    )

pub returns : goal.returns
returns c =
    let a = c.args in
    let e : c.loop-j.j ≡ a.from = omega arith in
    (c.loop-j.invariant.0 ∙ ap (λ k. raised a.rows.now k a.n) e, omega arith)
