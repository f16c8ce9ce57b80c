-- `claims::sound::claims_sound`: after p turns the first p principals are tested and their limits summed.
use native.Mathlib.Omega.{arith}
use Prim.Native.Nat.{ℕ, ◌+◌}
use mathlib.Core.Bool.{Bool, ◌&&◌, and-true}
use mathlib.Core.Path.{◌≡◌, refl, sym, ap, ◌∙◌}
use lib.ListN.{get_or}
use lib.Seq.{take_all}
use lib.Dec.{eqb}
use borrow.Author.Tests.{not-false}
use Rattle.capabilities.specs.Lists.{each}
use Rattle.claims.specs.Claims.{limit_of, sum}
use Rattle.claims.specs.Sound.{root_sound}
use Rattle.claims.specs.Numbers.{claims_in, sized_in}
use Rattle.claims.specs.Lent.{principal_in}
use Rattle.claims.proofs.Sums.{sum_most}
use Rattle.claims.proofs.Laid.{window_part}
use Rattle.claims.proofs.Reading.{of_numbers}
use Rattle.claims.proofs.Looping.{limit_most}
use Rattle.claims.proofs.Testing.{tested, unsized, sound_tested, sound_turn, total_turn}
use mathlib.Core.Bool.{not}
use Rattle.claims.proofs.sound.claims_sound.Goals as goal
use Rattle.claims.proofs.sound.claims_sound.Goals.{After-limit_of-total}

totals : (c : After-limit_of-total)
    → c.loop-p.total + c.limit_of-total.result ≡ sum (c.loop-p.p + 1) (limit_of (claims_in c.args.principals.now c.args.counts.now))
totals c =
    let a = c.args in
    let loop = c.loop-p in
    let sized = not-false (sized_in a.principals.now a.counts.now) (ap not c.if-not-principals-counts.false) in
    let here = c.spent_of-here in
    total_turn a.v a.principals.now a.counts.now sized loop.p (get_or a.principals.now loop.p 0) here.result.all _ (omega arith) refl (window_part a.counts.now loop.p) here.ensures.0
    c.limit_of-total.result loop.total c.limit_of-total.ensures loop.invariant.1

pub returns-then-not-principals-counts : goal.returns-then-not-principals-counts
returns-then-not-principals-counts c = let a = c.args in unsized a.v a.principals.now a.counts.now (ap not c.if-not-principals-counts.true)

pub loop-p-init : goal.loop-p-init
unfolding each sum
loop-p-init c = let a = c.args in (c.is_root-sound.ensures ∙ ap root_sound c.principal_in.ensures ∙ sym (and-true (root_sound (principal_in a.principals.now 0))), refl)

pub overflow_add-total : goal.overflow_add-total
overflow_add-total c = omega (arith, totals (goal.at.overflow_add-total c).After-limit_of-total, sum_most 65791 _ (limit_most c.args.principals.now c.args.counts.now) (c.loop-p.p + 1))

pub loop-p-preserved : goal.loop-p-preserved
loop-p-preserved c =
    let a = c.args in
    let loop = c.loop-p in
    let sized = not-false (sized_in a.principals.now a.counts.now) (ap not c.if-not-principals-counts.false) in
    let here = c.spent_of-here in (
      sound_turn a.v a.principals.now a.counts.now sized loop.p (get_or a.principals.now loop.p 0) here.result.all _ (omega arith) refl (window_part a.counts.now loop.p) here.ensures.0
          here.result.high loop.sound (root_sound (principal_in a.principals.now 0)) c.entry_sound.result c.principal_sound.result here.ensures.1 c.entry_sound.ensures (c.principal_sound.ensures a.counts.now) loop.invariant.0,
      totals (goal.at.loop-p-preserved c).After-limit_of-total,
    )

pub returns : goal.returns
returns c =
    let a = c.args in
    let loop = c.loop-p in
    let sized = not-false (sized_in a.principals.now a.counts.now) (ap not c.if-not-principals-counts.false) in
    let done : loop.p ≡ 32 = omega arith in
    let root = root_sound (principal_in a.principals.now 0) in
    ap (λ (b : Bool). b && eqb loop.total 8192)
    (loop.invariant.0 ∙ ap (λ l. root && each (tested a.v a.principals.now a.counts.now) 0 l) (take_all loop.p a.principals.now (omega (arith, of_numbers a.principals.now a.counts.now sized))))
    ∙ ap (λ (k : ℕ). (root && each (tested a.v a.principals.now a.counts.now) 0 a.principals.now) && eqb k 8192) (loop.invariant.1 ∙ ap (λ (k : ℕ). sum k (limit_of (claims_in a.principals.now a.counts.now))) done)
    ∙ sym (sound_tested a.v a.principals.now a.counts.now sized)
