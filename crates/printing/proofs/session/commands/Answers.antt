-- `printing::session::commands` meets its contract. After each turn the lines put so far are those of the definition up to the place reached, and the arrays stay well formed.
use native.Mathlib.Omega.{arith}
use mathlib.Core.Path.{sym, ◌∙◌}
use Rattle.std.proofs.Common.{rules}
use Rattle.arrays.specs.Lent.{held}
use Rattle.printing.proofs.Arriving.{arriving, arrived, near, turn_stopped, turn_within, turn_some, turn_on}
use Rattle.printing.proofs.session.commands.Goals as goal

pub loop-at-init : goal.loop-at-init
loop-at-init g c =
    let a = c.args in
    (search rules, arriving a.input.now (held a.machine.now) a.machine.now.cells.now a.machine.now.tags.now a.out.now a.begin c.requires.ready.0 c.requires.ready.1 c.requires.in_bounds c.requires.begin_bound)

pub one-done-requires : goal.one-done-requires
one-done-requires g c =
    let inv = c.loop-at.invariant.1 in (inv.formed, inv.fits)

pub overflow_cast-end : goal.overflow_cast-end
overflow_cast-end g c =
    let n = near c.loop-at.invariant.1 c.requires.input_len_bound in
    omega (arith, n)

pub returns-then-ends : goal.returns-then-ends
returns-then-ends g c = let both = turn_stopped c.loop-at.invariant.1 c.loop-at-test.true c.one-done.ensures.judged c.put_line-end.ensures.value c.put_line-end.ensures.out_after c.put_line-end.ensures.upper_bound (sym c.ends.ensures ∙ c.if-ends.true) in record { laid = both.0; upper_bound = both.1 }

pub overflow_add-at : goal.overflow_add-at
overflow_add-at g c =
    let u = turn_within c.loop-at.invariant.1 c.loop-at-test.true c.one-done.ensures.judged c.put_line-end.ensures.value c.put_line-end.ensures.out_after c.put_line-end.ensures.upper_bound in
    let n = c.requires.input_len_bound in
    omega (arith, u, n)

pub loop-at-smaller : goal.loop-at-smaller
loop-at-smaller g c =
    let u = turn_within c.loop-at.invariant.1 c.loop-at-test.true c.one-done.ensures.judged c.put_line-end.ensures.value c.put_line-end.ensures.out_after c.put_line-end.ensures.upper_bound in
    let v = turn_some c.loop-at.invariant.1 c.loop-at-test.true c.one-done.ensures.judged c.put_line-end.ensures.value c.put_line-end.ensures.out_after c.put_line-end.ensures.upper_bound (sym c.ends.ensures ∙ c.if-ends.false) in
    omega (arith, u, v)

pub loop-at-preserved : goal.loop-at-preserved
loop-at-preserved g c = (search rules, turn_on c.loop-at.invariant.1 c.loop-at-test.true c.one-done.ensures.judged c.put_line-end.ensures.value c.put_line-end.ensures.out_after c.put_line-end.ensures.upper_bound (sym c.ends.ensures ∙ c.if-ends.false))

pub returns : goal.returns
returns g c = let both = arrived c.loop-at.invariant.1 c.loop-at-test.false in record { laid = both.0; upper_bound = both.1 }
