-- `lines::width` meets its contract: the power of ten that the number reaches says how long it is (`decimal_length`).
use Rattle.std.proofs.Common.{arith, sym, ap, length}
use Rattle.lines.proofs.Decimal.{decimal_one, decimal_length}
use Rattle.lines.proofs.width.Goals as goal

pub returns-then-n-lt10-clause-value : goal.returns-then-n-lt10-clause-value
returns-then-n-lt10-clause-value c = sym (ap length (decimal_one c.args.n c.if-n-lt10.true))

pub returns-then-n-lt100-clause-value : goal.returns-then-n-lt100-clause-value
returns-then-n-lt100-clause-value c = decimal_length c.args.n 1 (omega arith) (omega arith) (omega arith)

pub returns-clause-value : goal.returns-clause-value
returns-clause-value c = let e = c.ilog10.ensures in decimal_length c.args.n c.ilog10.result e.bound e.power_le e.next_power_gt
