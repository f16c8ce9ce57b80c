-- `claims::destroying::shares`: `marked_turn` adds one principal's limit.
use native.Mathlib.Nat.{add-zero}
use native.Mathlib.Omega.{arith}
use Prim.Native.Nat.{◌+◌}
use mathlib.Core.Bool.{true, false}
use mathlib.Core.Path.{◌≡◌, refl, sym, ap, ◌∙◌}
use Rattle.claims.specs.Claims.{above, sum}
use Rattle.claims.proofs.Sums.{sum_most}
use Rattle.claims.proofs.Laid.{window_part}
use Rattle.claims.proofs.Looping.{marked, marked_most, marked_turn}
use Rattle.claims.proofs.destroying.shares.Goals as goal
use Rattle.claims.proofs.destroying.shares.Goals.{then-marks-q, else-marks-q, After-limit_of-total}

limits : (c : After-limit_of-total)
    → c.loop-q.total + c.limit_of-total.result ≡ sum (c.loop-q.q + 1) (marked c.args.principals.now c.args.counts.now c.args.marks.now)
limits c =
    let a = c.args in
    marked_turn a.principals.now a.counts.now a.marks.now c.loop-q.q c.loop-q.total c.limit_of-total.result c.above-spent.result true c.if-marks-q.true
    (c.above-spent.ensures ∙ ap above (window_part a.counts.now c.loop-q.q)) c.limit_of-total.ensures c.loop-q.invariant

pub loop-q-init : goal.loop-q-init
unfolding sum
loop-q-init c = refl

pub overflow_add-total : goal.overflow_add-total
overflow_add-total c = let a = c.args in omega (arith, limits (goal.at.overflow_add-total c).After-limit_of-total, sum_most 65791 _ (marked_most a.principals.now a.counts.now a.marks.now) (c.loop-q.q + 1))

pub loop-q-preserved : goal.loop-q-preserved
loop-q-preserved c =
    let a = c.args in
    let turn = marked_turn a.principals.now a.counts.now a.marks.now c.loop-q.q c.loop-q.total in
    elim c.if-marks-q.branch [
      | then-marks-q w ↦ w.total-is ∙ turn w.limit_of-total.result w.above-spent.result true w.if-marks-q.true (w.above-spent.ensures ∙ ap above (window_part a.counts.now c.loop-q.q)) w.limit_of-total.ensures c.loop-q.invariant
      | else-marks-q w ↦ w.total-is ∙ sym (add-zero c.loop-q.total) ∙ turn 0 _ false w.if-marks-q.false refl refl c.loop-q.invariant
    ]
