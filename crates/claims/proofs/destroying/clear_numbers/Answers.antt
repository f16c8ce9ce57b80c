-- `claims::destroying::clear_numbers`: `numbers_turn` does one number more.
use native.Mathlib.Omega.{arith}
use mathlib.Core.Bool.{true, false}
use mathlib.Core.Path.{refl, ◌∙◌}
use Rattle.capabilities.specs.Lists.{map_each}
use Rattle.capabilities.proofs.Lists.{map_each_whole}
use Rattle.claims.proofs.Looping.{emptied_at, numbers_turn}
use Rattle.claims.proofs.destroying.clear_numbers.Goals as goal
use Rattle.claims.proofs.destroying.clear_numbers.Goals.{then-marks-q, else-marks-q}

pub loop-q-init : goal.loop-q-init
unfolding map_each
loop-q-init c = refl

pub loop-q-preserved : goal.loop-q-preserved
loop-q-preserved c =
    let a = c.args in
    let loop = c.loop-q in
    elim c.if-marks-q.branch [
      | then-marks-q w ↦ numbers_turn a.marks.now a.principals.now loop.principals _ loop.q true (omega (arith, c.told-principals)) loop.invariant w.if-marks-q.true w.principals-is
      | else-marks-q w ↦ numbers_turn a.marks.now a.principals.now loop.principals _ loop.q false (omega (arith, c.told-principals)) loop.invariant w.if-marks-q.false w.principals-is
    ]

pub returns : goal.returns
returns c = let a = c.args in c.loop-q.invariant ∙ map_each_whole (emptied_at a.marks.now) a.principals.now c.loop-q.q (omega (arith, c.told-principals))
