-- `claims::destroying::clear_counts`: `cleared_turn` does one principal's counts more.
use native.Mathlib.Omega.{arith}
use Prim.Native.Nat.{◌+◌, ◌-◌, ◌*◌}
use mathlib.Core.Bool.{true, false}
use mathlib.Core.Path.{refl, ap, ◌∙◌}
use borrow.Rule.Slice.PartMut.{put_mid}
use Rattle.capabilities.specs.Lists.{map_each}
use Rattle.capabilities.proofs.Lists.{map_each_whole}
use Rattle.claims.proofs.Looping.{cleared_by, cleared_turn}
use Rattle.claims.proofs.destroying.clear_counts.Goals as goal
use Rattle.claims.proofs.destroying.clear_counts.Goals.{then-marks-q, else-marks-q}

pub loop-q-init : goal.loop-q-init
unfolding map_each
loop-q-init c = refl

pub loop-q-preserved : goal.loop-q-preserved
loop-q-preserved c =
    let a = c.args in
    let loop = c.loop-q in
    let turn = cleared_turn a.marks.now a.counts.now loop.counts c.if-marks-q.counts loop.q (256 * loop.q + 256 - 256 * loop.q) in
    elim c.if-marks-q.branch [
      | then-marks-q w ↦ turn true (omega arith) (omega (arith, c.told-counts)) loop.invariant w.if-marks-q.true (w.counts-is ∙ ap (put_mid (256 * loop.q) (256 * loop.q + 256 - 256 * loop.q) loop.counts) (w.fill.ensures.after (λ y e. e)))
      | else-marks-q w ↦ turn false (omega arith) (omega (arith, c.told-counts)) loop.invariant w.if-marks-q.false w.counts-is
    ]

pub returns : goal.returns
returns c = let a = c.args in c.loop-q.invariant ∙ map_each_whole (cleared_by a.marks.now) a.counts.now (256 * c.loop-q.q) (omega (arith, c.told-counts))
