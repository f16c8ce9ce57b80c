-- `cetomuhi::put_end` meets its contract. The refusals are judged in their order.
use mathlib.Core.List.{◌++◌}
use mathlib.Core.Path.{ap, ◌∙◌}
use lib.ListN.{drop}
use Rattle.std.specs.Option.{unwrap_or}
use Rattle.capabilities.specs.Refusals.{number_of}
use Rattle.capabilities.specs.declared.refusal.Refusal.TheVariants.{Command}
use Rattle.words.specs.Words.{empty}
use Rattle.arrays.specs.Lent.{held}
use Rattle.arrays.specs.Steps.{answer}
use Rattle.entries.specs.Runs.{answer_numbers}
use Rattle.cetomuhi.proofs.One.{end_is}
use Rattle.cetomuhi.proofs.put_end.Goals as goal

pub returns : goal.returns
returns c =
    let m = c.args.machine.now in
    let code = ap number_of (c.unwrap_or-refusal.ensures ∙ ap (λ o. unwrap_or o Command) c.err.ensures.value) ∙ end_is (held m) m.cells.now m.tags.now c.fit.result c.fit.ensures in
    ap (λ l. l ++ drop 4 c.args.answers.now) (c.copy_from_slice.ensures.after ∙ c.numbers.ensures ∙ ap (λ r. answer_numbers r 0) (c.refused.ensures ∙ ap (λ k. answer k empty) code))
