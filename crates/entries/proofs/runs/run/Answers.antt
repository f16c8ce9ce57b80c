-- `entries::runs::run` meets its contract. After each turn the answers put so far are those of the definition, what is left to do is a run from the place reached, and the arrays stay well formed.
use Rattle.std.proofs.Common.{rules}
use mathlib.Core.Path.{sym}
use Rattle.entries.proofs.Repeating.{came, spacious, within_on, stops, comes_on}
use Rattle.entries.proofs.runs.run.Goals as goal

pub overflow_add-at : goal.overflow_add-at
overflow_add-at c =
    let h = within_on c.loop-at.invariant.1 c.loop-at-test.true c.command-told.ensures.judged in
    search (rules, h)

pub put_answer-requires : goal.put_answer-requires
put_answer-requires c = spacious c.loop-at.invariant.1 c.loop-at-test.true

pub returns-then-ends-clause-ran : goal.returns-then-ends-clause-ran
returns-then-ends-clause-ran c =
    stops c.loop-at.invariant.1 c.loop-at-test.true c.command-told.ensures.judged c.put_answer.ensures (sym c.if-ends.ensures)

pub loop-at-preserved : goal.loop-at-preserved
loop-at-preserved c =
    (search rules, comes_on c.loop-at.invariant.1 c.loop-at-test.true c.command-told.ensures.judged c.put_answer.ensures (sym c.if-ends.ensures))

pub returns-clause-ran : goal.returns-clause-ran
returns-clause-ran c = came c.loop-at.invariant.1 c.loop-at-test.false
