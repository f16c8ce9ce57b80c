-- `lines::put_line` meets its contract. Six bytes for two numbers below ten, else a longer line.
use native.Mathlib.Omega.{arith}
use Rattle.lines.proofs.Laying.{line_near}
use Rattle.lines.proofs.put_line.Goals as goal

pub returns-then-code-number-clause-upper_bound : goal.returns-then-code-number-clause-upper_bound
returns-then-code-number-clause-upper_bound c h = let a = c.args in line_near a.code a.number a.tag a.at _ c.put_short.ensures.value h (omega arith)

pub returns-clause-upper_bound : goal.returns-clause-upper_bound
returns-clause-upper_bound c h = let a = c.args in line_near a.code a.number a.tag a.at _ c.put_long.ensures.value h (omega arith)
