-- `printing::print_counted` meets its contract. A first pass counts; the second writes only where the lines fit.
use native.Mathlib.Omega.{arith}
use Rattle.session_rules.specs.Session.{lines_of}
use Rattle.session_rules.proofs.Sessions.{print_fits, print_not}
use Rattle.printing.proofs.print_counted.Goals as goal

pub returns-then-out-len : goal.returns-then-out-len
returns-then-out-len g c =
    let a = c.args in
    print_not (lines_of a.input.now) a.out.now c.lines-len.result c.lines-len.ensures.laid.ends c.if-out-len.true

pub returns : goal.returns
returns g c =
    let a = c.args in
    print_fits (lines_of a.input.now) a.out.now c.lines.result _ c.lines.ensures.laid
    (let e = c.lines.ensures.laid.ends in let e₂ = c.lines-len.ensures.laid.ends in omega (arith, e, e₂))
