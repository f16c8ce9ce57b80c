-- `formed::fresh::start_in` meets its contract. The three ways are those of the definition; cleared arrays with one row and one principal
-- written are a fresh state's.
use mathlib.Core.Path.{◌≡◌, refl, sym, ap, ◌∙◌}
use mathlib.Core.Bool.{not}
use borrow.Author.Tests.{not-true, not-false}
use Rattle.std.proofs.lemmas.Result.{err_from_is_err_and}
use Rattle.arrays.specs.declared.Numbers.{Numbers}
use Rattle.arrays.specs.Lent.{held}
use Rattle.formed.specs.Fresh.{starting}
use Rattle.formed.proofs.Starting.{numbers, exchanged, start_unfit, start_refused, start_granted}
use Rattle.formed.proofs.fresh.start_in.Goals as goal

pub returns-then-not-sized-clause-start : goal.returns-then-not-sized-clause-start
returns-then-not-sized-clause-start c =
    start_unfit c.args.v c.args.f (held c.args.machine.now) (sym c.sized.ensures ∙ not-true _ (ap not c.if-not-sized.true))

pub returns-in_err-v-clause-start : goal.returns-in_err-v-clause-start
returns-in_err-v-clause-start c =
    let p = err_from_is_err_and c.from_residual.result c.from_residual.ensures.1 in
    let n = c.default-machine.result in
    let d = c.default-machine.ensures in
    let sized = sym c.sized.ensures ∙ not-false _ (ap not c.if-not-sized.false) in
    let zero : n ≡ numbers 0 0 0 = rw (d.0, d.1.0, d.1.1.0, d.1.1.1.0, d.1.1.1.1.0, d.1.1.1.1.1) refl in
    rw (p.1, p.2, c.in_err-v.ensures.1)
    (start_refused c.args.v c.args.f (held c.args.machine.now) sized c.in_err-v.ensures.0 n zero _ (ap (exchanged n) c.clear.ensures.arrays))

pub returns-clause-start : goal.returns-clause-start
returns-clause-start c =
    let e = c.in_ok-v.ensures in
    let sized = sym c.sized.ensures ∙ not-false _ (ap not c.if-not-sized.false) in
    let n = numbers c.args.v c.args.f 1 in
    ap (starting 0) c.open.ensures.opened
    ∙ rw (e.1, e.2) (start_granted c.args.v c.args.f (held c.args.machine.now) sized e.0 n refl _ (ap (exchanged n) c.clear.ensures.arrays))
