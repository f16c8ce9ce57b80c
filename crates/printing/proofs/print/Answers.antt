-- `printing::print` meets its contract. One pass where the buffer surely holds the lines, else two.
use native.Mathlib.Omega.{arith}
use lib.ListN.{length}
use Rattle.session_rules.specs.Session.{lines_of}
use Rattle.session_rules.proofs.Sessions.{print_fits}
use Rattle.printing.proofs.print.Goals as goal

pub returns : goal.returns
returns g c =
    let if2 = c.if-out-looked_at.false in
    let looked = c.looked_at.ensures.value in
    let if1 = c.if-out-lt6 in
    let a = c.args in
    print_fits (lines_of a.input.now) a.out.now c.lines.result _ c.lines.ensures.laid
    (c.lines.ensures.spared (length a.out.now) if1.false (omega (arith, if2, looked)))
