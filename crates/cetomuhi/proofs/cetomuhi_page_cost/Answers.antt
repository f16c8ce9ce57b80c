-- `cetomuhi::cetomuhi_page_cost` meets its contract. The question asked of the arrays, with the small numbers that were read.
use mathlib.Core.Path.{ap, ◌∙◌}
use Rattle.arrays.specs.declared.Numbers.{Numbers}
use Rattle.arrays.specs.Reading.{arrays}
use Rattle.cost.specs.Asked.{cost_on}
use Rattle.cetomuhi.specs.Exports.{cost_lent}
use Rattle.cetomuhi.proofs.Putting.{told_is}
use Rattle.cetomuhi.proofs.cetomuhi_page_cost.Goals as goal

pub returns : goal.returns
unfolding cost_lent
returns c =
    let a = c.args in
    told_is c.page_cost-asked.result c.code_of.result c.unwrap_or-cost.result c.code_of.ensures c.unwrap_or-cost.ensures
    ∙ c.page_cost-asked.ensures
    ∙ ap (λ (n : Numbers). cost_on (arrays n a.words.now a.marks.now a.mail.now a.flags.now a.rows.now a.pages.now a.frames.now a.principals.now a.counts.now) a.page) c.numbers_from.ensures.value
