-- `operands::read_numbers` meets its contract: there is a call, whose numbers are copied, or none.
use mathlib.Core.Path.{sym, ◌∙◌}
use Rattle.operands.proofs.Answers.{other_count, call_numbered, none_numbered}
use Rattle.operands.proofs.read_numbers.Goals as goal

pub returns-then-numbers-ne7 : goal.returns-then-numbers-ne7
returns-then-numbers-ne7 c = let a = c.args in other_count a.input.now a.at a.numbers.now c.if-numbers-ne7.true

pub returns-in-Some : goal.returns-in-Some
returns-in-Some c =
    let a = c.args in
    call_numbered a.input.now a.at a.numbers.now c.if-numbers-ne7.false
    (sym c.read_at.ensures.is ∙ c.in-Some.is)
    (c.copy_from_slice.ensures.after ∙ c.numbers_of.ensures)

pub returns-in-None : goal.returns-in-None
returns-in-None c =
    let a = c.args in
    none_numbered a.input.now a.at a.numbers.now c.if-numbers-ne7.false (sym c.read_at.ensures.is ∙ c.in-None.is)
