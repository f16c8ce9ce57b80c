-- `short_histories::walk::put_all` meets its contract. After n turns the lines of the histories of fewer than n commands stand there.
use Prim.Native.Nat.{ℕ, ◌+◌, ◌≤◌}
use native.Mathlib.Omega.{arith}
use mathlib.Core.List.{List}
use mathlib.Core.Path.{sym, subst}
use lib.ListN.{length}
use Rattle.lines.specs.Laid.{Laid}
use Rattle.short_histories.specs.Histories.{counts}
use Rattle.short_histories.proofs.Walking.{from_start, text_walked, starts_so}
use Rattle.short_histories.proofs.Putting.{parts_none, parts_next, parts_room, parts_all}
use Rattle.short_histories.proofs.walk.put_all.Goals as goal

pub loop-count-init : goal.loop-count-init
loop-count-init c = parts_none from_start counts 0 0 c.args.out.now

pub extend-end-requires-clause-tags_in_bounds : goal.extend-end-requires-clause-tags_in_bounds
extend-end-requires-clause-tags_in_bounds c =
    let a = c.args in
    let start = c.start in
    let loop = c.loop-count in
    let few = c.loop-count-test.true in
    subst (λ (l : List ℕ). loop.end + length l ≤ length loop.out) (sym (starts_so start.result.answer start.result.state.arrays start.ensures loop.count (omega (arith, few))))
    (parts_room from_start counts 0 0 a.out.now loop.count loop.end loop.out loop.invariant (omega (arith, few)) (subst (λ (l : List ℕ). 0 + length l ≤ length a.out.now) text_walked (omega (arith, c.requires))))

pub loop-count-preserved : goal.loop-count-preserved
loop-count-preserved c =
    let a = c.args in
    let start = c.start in
    let loop = c.loop-count in
    let few = c.loop-count-test.true in
    parts_next from_start counts 0 0 a.out.now loop.count loop.end loop.out loop.invariant (omega (arith, few)) c.extend-end.result c.extend-end.new.out
    (subst (λ (l : List ℕ). Laid l loop.end loop.out c.extend-end.result c.extend-end.new.out) (starts_so start.result.answer start.result.state.arrays start.ensures loop.count (omega (arith, few))) c.extend-end.ensures)

pub returns : goal.returns
returns c =
    let a = c.args in
    let loop = c.loop-count in
    subst (λ (l : List ℕ). Laid l 0 a.out.now loop.end loop.out) (sym text_walked) (parts_all from_start counts 0 0 a.out.now loop.count loop.end loop.out loop.invariant (omega (arith, c.loop-count-test.false)))
