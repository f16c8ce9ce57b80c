-- `cetomuhi::numbers::numbers_from` meets its contract. Six numbers are read, or none.
use native.Mathlib.Omega.{arith}
use Rattle.std.proofs.Common.{rules}
use Rattle.cetomuhi.proofs.Writing.{from_six, from_other}
use Rattle.cetomuhi.proofs.numbers.numbers_from.Goals.{in_default-via-then-numbers-lt6, in_default-via-else-numbers-lt6+else-numbers-lt7}
use Rattle.cetomuhi.proofs.numbers.numbers_from.Goals as goal

pub returns-in-len6-clause-value : goal.returns-in-len6-clause-value
returns-in-len6-clause-value c = from_six c.args.numbers.now (omega (arith, c.in-len6.len_at_least, c.in-len6.len_below))

pub returns-in_default-clause-value : goal.returns-in_default-clause-value
returns-in_default-clause-value c =
    let d = c.default.ensures in
    rw (d.0, d.1.0, d.1.1.0, d.1.1.1.0, d.1.1.1.1.0, d.1.1.1.1.1)
    (from_other c.args.numbers.now (λ e. elim c.in_default.branch [ in_default-via-then-numbers-lt6 w ↦ search (rules, e) | in_default-via-else-numbers-lt6+else-numbers-lt7 w ↦ search (rules, e) ]))
